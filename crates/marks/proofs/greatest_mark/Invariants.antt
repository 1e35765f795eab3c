-- `marks::greatest_mark` meets its contract: no mark passed is above the greatest of them.
use Rattle.std.proofs.Common.{ℕ, ◌<◌, ◌≤◌, slice_index}
use Rattle.marks.proofs.greatest_mark.Given as goal

abbrev pub invariant-loop-mark : goal.invariant-loop-mark
invariant-loop-mark l = (k : ℕ) → k < l.mark-index → slice_index l.marks k ≤ l.most
