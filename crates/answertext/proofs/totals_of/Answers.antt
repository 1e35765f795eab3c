-- `answertext::totals_of` meets its contract: the lines of the log are added one after the other.
use Rattle.std.proofs.Common.{rules, ◌∙◌, length-append}
use Rattle.std.proofs.lemmas.Slice.Zip.{zip_turn, zip_end}
use Rattle.answertext.proofs.Adding.{no_totals, totals_more}
use Rattle.answertext.proofs.totals_of.Goals as goal

pub loop-code-init : goal.loop-code-init
loop-code-init c = search no_totals

pub loop-code-preserved : goal.loop-code-preserved
loop-code-preserved c =
    let k = zip_turn c.args.codes.now c.args.moved.now _ _ _ c.next.new.self _ (search rules) (search rules) c.loop-code.yielded_by
    _ c.in-Some.is c.next.ensures.steps in
    rw length-append (totals_more _ _ _ c.loop-code.invariant (c.log_line.ensures ∙ rw (k.2 0, k.3 0)) c.added-so_far.ensures)

pub returns : goal.returns
returns c =
    let k = zip_end c.args.codes.now c.args.moved.now _ _ _ c.next.new.self _ (search rules) (search rules) c.loop-code.yielded_by
    c.in-None.is c.next.ensures.steps in
    rw k at c.loop-code.invariant
