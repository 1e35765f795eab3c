-- `answertext::put_moves` meets its contract: line after line of the log.
use Rattle.std.proofs.Common.{rules, ◌∙◌, length-append}
use Rattle.printing.proofs.Putting.{no_rows}
use Rattle.answertext.proofs.Lines.{moves_next}
use Rattle.answertext.proofs.SideBySide.{numbered_turn, numbered_end}
use Rattle.answertext.proofs.put_moves.Goals as goal

pub loop-i-init : goal.loop-i-init
loop-i-init c = search no_rows

pub loop-i-preserved : goal.loop-i-preserved
loop-i-preserved c =
    let k = numbered_turn c.args.codes.now c.args.moved.now _ _ _ c.next.new.self _ (search rules) (search rules) (search rules) c.loop-i.yielded_by
    _ c.in-Some.is c.next.ensures.steps in
    rw length-append (moves_next _ _ _ c.loop-i.invariant (c.log_line.ensures ∙ rw (k.1 0, k.2 0)) (rw k.0 at c.put_move.ensures))

pub returns : goal.returns
returns c =
    let k = numbered_end c.args.codes.now c.args.moved.now _ _ _ c.next.new.self _ (search rules) (search rules) (search rules) c.loop-i.yielded_by
    c.in-None.is c.next.ensures.steps in
    rw k at c.loop-i.invariant
