-- `jobtext::read_mark` meets its contract: two fields, and an index in its order and on the board.
use Rattle.std.proofs.Common.{◌∙◌}
use Rattle.jobtext.proofs.Entries.{mark_no_tab, mark_no_index, mark_no_word, mark_ordered}
use Rattle.jobtext.proofs.read_mark.Goals as goal

pub returns-in_err-index : goal.returns-in_err-index
returns-in_err-index c = c.from_residual.ensures ∙ mark_no_tab _ c.in_err-index.ensures _ _

pub returns-in_err-index-2 : goal.returns-in_err-index-2
returns-in_err-index-2 c = c.from_residual-in_err-index-2.ensures ∙ mark_no_index c.in_ok-index.ensures _ _ c.in_err-index-2.ensures

pub returns-in_err-word : goal.returns-in_err-word
returns-in_err-word c =
    c.from_residual-in_err-word.ensures ∙ mark_no_word c.in_ok-index.ensures _ _ _ c.in_ok-index-2.ensures c.in_err-word.ensures

pub returns : goal.returns
returns c =
    c.then_some.ensures
    ∙ mark_ordered c.in_ok-index.ensures _ _ _ c.in_ok-index-2.ensures _ c.in_ok-word.ensures c.contains.ensures.value
