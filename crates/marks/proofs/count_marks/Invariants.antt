-- `marks::count_marks` meets its contract: cell after cell.
use Rattle.std.proofs.Common.{◌≡◌, ◌%◌, ◌^◌}
use Rattle.marks.specs.Marks.{rank_in}
use Rattle.marks.proofs.count_marks.Given as goal

abbrev pub invariant-loop-mark : goal.invariant-loop-mark
invariant-loop-mark l = l.count ≡ rank_in l.marks l.mark-index % 2 ^ 16
