-- What rank's answer says of its input where it accepts, and that it accepts good marks of a board.
use Prim.Native.Nat.{ℕ, ◌≤◌}
use mathlib.Core.Path.{◌≡◌, refl, sym, ap, ◌∙◌}
use mathlib.Core.Bool.{false}
use mathlib.Core.List.{List}
use native.Mathlib.Omega.{arith}
use lib.ListN.{length}
use Rattle.array.specs.Cells.{cells}
use Rattle.array.proofs.Board.{side_known}
use Rattle.answers.specs.declared.Answer.{Answer}
use Rattle.lists.specs.Lists.{prefix_sum_runs}
use Rattle.lists.proofs.Counts.{prefix_sum-length}
use Rattle.answers.specs.Answers.{verdict, log_case, accepted_by}
use Rattle.answers.proofs.Verdicts.{NoneApplies, none_refuses, accepted_is, side_built, side_passes, lane_whole, lane_passes, log_passes}
use Rattle.marks.proofs.Checked.{good_marks, good_passes}
use Rattle.ranking.specs.Inside.{GoodMarks}
use Rattle.ranking.specs.Entries.{rank_cases}

module _ (s : ℕ) (marks : List ℕ) (n log : ℕ) {r : Answer} (e : r ≡ verdict (rank_cases s marks n log) (accepted_by (prefix_sum_runs s))) (z : r.number ≡ 0) where
  none : NoneApplies (rank_cases s marks n log)
  none = none_refuses (rank_cases s marks n log) (accepted_by (prefix_sum_runs s)) refl e z

  pub marked : GoodMarks s marks
  marked = record { side = side_built s none.0; size = lane_whole s (length marks) none.1.0; good = good_marks marks none.1.1.1.1.0 }

  pub aims_long : n ≡ length marks
  aims_long = lane_whole s n none.1.1.0 ∙ sym marked.size

  pub room : (log_case (prefix_sum_runs s) log).applies ≡ false
  room = none.1.1.1.0

-- good marks of a board are ranked, where the log has room for the moves of every side
pub rank-takes : {s : ℕ} {marks : List ℕ} → GoodMarks s marks → (aims log : ℕ) {r : Answer} → aims ≡ cells s → 51 ≤ log
    → r ≡ verdict (rank_cases s marks aims log) (accepted_by (prefix_sum_runs s)) → r.number ≡ 0
rank-takes {s} {marks} g aims log l h e = ap (λ (x : Answer). x.number) (e ∙ accepted_is (rank_cases s marks aims log) (accepted_by (prefix_sum_runs s)) passes)
  where
    passes : NoneApplies (rank_cases s marks aims log)
    passes =
        let room = log_passes (prefix_sum_runs s) log (omega (arith, prefix_sum-length s, (side_known s g.side).most)) in
        (side_passes s g.side, (lane_passes s (length marks) g.size, (lane_passes s aims l, (room, (good_passes marks g.good, tt)))))
