-- `travel::turns::turn_at` meets its contract: the runs are gone through until the move is among those of one.
use Prim.Native.Nat.{◌+◌, ◌≤◌}
use mathlib.Core.Path.{◌≡◌}
use lib.ListN.{drop}
use Rattle.travel.specs.Turns.{turn_in}
use Rattle.travel.proofs.turns.turn_at.Given as goal

abbrev pub invariant-loop-run : goal.invariant-loop-run
invariant-loop-run l = record {
  few : l.swaps + l.remaining ≤ l.k;
  rest : turn_in l.fn.runs 0 l.k ≡ turn_in (drop l.run-index l.run-items) l.swaps l.remaining;
}
