-- `shifts::BoardShift::take_below` meets its contract: cell by cell, with the spot of each.
use Rattle.std.proofs.Common.{◌<◌, length, ◌∙◌, arith}
use Rattle.laws.proofs.Rewriting.{rewriting_store, rewriting_next, rewriting_end}
use Rattle.shifts.proofs.Spotted.{spotted_next}
use Rattle.shifts.proofs.BoardShift.take_below.Goals as goal

pub loop-i-preserved : goal.loop-i-preserved
loop-i-preserved c =
    let spot = c.loop-i.invariant.0 in
    let made = c.loop-i.invariant.1 in
    let inside : c.loop-i.i < length c.loop-i.words = omega arith in
    let e = c.pick.ensures ∙ rw (c.position.ensures, spot.row_is, spot.column_is, rewriting_next _ _ _ made) in
    (rw c.next_spot-spot.ensures (spotted_next c.args.self.least spot), rewriting_store _ _ _ _ inside e made)

pub returns : goal.returns
returns c = rewriting_end _ _ _ (omega arith) c.loop-i.invariant.1
