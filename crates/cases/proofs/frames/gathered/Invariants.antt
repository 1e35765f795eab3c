-- `cases::frames::gathered` meets its contract: no rank is above its cell.
use Prim.Native.Nat.{◌≤◌}
use Rattle.cases.proofs.frames.gathered.Given as goal

abbrev pub invariant-loop-i : goal.invariant-loop-i
invariant-loop-i l = l.rank ≤ l.i
