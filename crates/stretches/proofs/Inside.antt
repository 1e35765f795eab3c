-- What is known where a group's stretch is not refused: it is inside the lane.
use Prim.Native.Nat.{ℕ, ◌+◌, ◌*◌, ◌≤◌, ◌<◌}
use mathlib.Core.Path.{◌≡◌, refl}
use native.Mathlib.Nat.{suc-mul, mul-le-mul_right}
use borrow.Author.Tests.{not-false, ltb-true}
use Rattle.answers.specs.declared.Answer.{Answer}
use Rattle.array.specs.Cells.{groups, cells}
use Rattle.runs.specs.Runs.{no_runs}
use Rattle.answers.specs.Answers.{accepted_by}
use Rattle.array.proofs.Board.{Side, side_known}
use Rattle.answers.proofs.Verdicts.{none_refuses, side_built, lane_whole}
use Rattle.stretches.specs.Stretches.{group_cases, group_answer}

pub record GroupRoom (s g n : ℕ) : Type 0 where
  pub side : Side s
  pub whole : n ≡ cells s
  pub inside : g < groups s

pub group_room : (s g n : ℕ) {r : Answer} → r ≡ group_answer s g n → r.number ≡ 0 → GroupRoom s g n
group_room s g n e h =
    let k = none_refuses (group_cases s g n) (accepted_by no_runs) refl e h in
    record {
      side = side_known s (side_built s k.0);
      whole = lane_whole s n k.1.0;
      inside = ltb-true g (groups s) (not-false _ k.1.1.0);
    }

pub group_inside : (s g n : ℕ) {r : Answer} → r ≡ group_answer s g n → r.number ≡ 0 → g * groups s + groups s ≤ n
group_inside s g n e h =
    let z = group_room s g n e h in
    rw (z.whole, ← suc-mul) (mul-le-mul_right (groups s) z.inside)
