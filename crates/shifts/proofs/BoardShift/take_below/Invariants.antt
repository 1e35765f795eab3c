use Rattle.std.proofs.Common.{cond, ltb, get_or}
use Rattle.laws.proofs.Rewriting.{Rewriting}
use Rattle.array.specs.Cells.{place, row, column}
use Rattle.lanes.specs.Stages.{position}
use Rattle.shifts.proofs.Spotted.{Spotted}
use Rattle.shifts.proofs.BoardShift.take_below.Given as goal

abbrev pub invariant-loop-i : goal.invariant-loop-i
invariant-loop-i l =
    Spotted l.self.side l.i l.spot
    × Rewriting
    (λ i. cond (ltb (position l.way (row l.self.side (place l.self.side i)) (column l.self.side (place l.self.side i))) l.self.shift.forth) (get_or l.back i 0) (get_or l.initial.words i 0))
    0 l.initial.words l.words l.i
