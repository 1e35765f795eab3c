-- `plainwords::tables::Lines::shift_eight` meets its contract: what was taken is laid.
use Rattle.std.proofs.Common.{refl}
use Rattle.plainwords.proofs.Rows.{eight_shifted}
use Rattle.plainwords.proofs.tables.Lines.shift_eight.Goals as goal

pub returns : goal.returns
returns c = eight_shifted c.args.self.from.now refl c.take_rows.ensures c.lay_rows.ensures
