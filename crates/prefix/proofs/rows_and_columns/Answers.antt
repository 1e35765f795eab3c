-- `prefix::rows_and_columns` meets its contract: steps 1 and 2.
use Rattle.prefix.proofs.Composing.{rows_columns}
use Rattle.prefix.proofs.rows_and_columns.Goals as goal

pub returns : goal.returns
returns c = rows_columns _ _ c.requires.c_len c.run.ensures c.take.ensures c.run-2.ensures
