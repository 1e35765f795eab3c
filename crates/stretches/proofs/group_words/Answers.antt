-- `stretches::group_words` meets its contract: the stretch lies inside the lane where the answer accepts.
use native.Mathlib.Omega.{arith}
use lib.ListN.{length}
use Rattle.answers.proofs.Judging.{accepts}
use Rattle.stretches.proofs.Inside.{group_inside}
use Rattle.stretches.proofs.group_words.Goals as goal

pub slice_bounds-result-end-2 : goal.slice_bounds-result-end-2
slice_bounds-result-end-2 c =
    let a = c.args in
    omega (arith, group_inside a.side a.group (length a.words.now) c.judge_group.ensures (accepts c.in-Ok.is))
