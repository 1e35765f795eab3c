-- `jobtext::read_side` meets its contract: the word and the number of the first line.
use Rattle.std.proofs.Common.{◌∙◌}
use Rattle.jobtext.proofs.Entries.{side_no_tab, side_unnamed, side_named}
use Rattle.jobtext.proofs.read_side.Goals as goal

pub returns-in_err-name : goal.returns-in_err-name
returns-in_err-name c = c.from_residual.ensures ∙ side_no_tab _ c.in_err-name.ensures

pub returns-then-ne : goal.returns-then-ne
returns-then-ne c = side_unnamed c.in_ok-name.ensures c.as_slice.ensures c.ne.ensures c.if-ne.true

pub returns : goal.returns
returns c =
    c.number_of.ensures ∙ side_named c.in_ok-name.ensures c.as_slice.ensures c.ne.ensures c.if-ne.false
