-- `runs::step_at` meets its contract: run after run is passed until the move is in one.
use mathlib.Core.Path.{◌≡◌}
use lib.ListN.{drop}
use Rattle.runs.specs.Runs.{moves, step_in}
use Rattle.runs.proofs.step_at.Given as goal

abbrev pub invariant-loop-run : goal.invariant-loop-run
invariant-loop-run l = step_in (moves l.fn.runs) l.k ≡ step_in (moves (drop l.run-index l.run-items)) l.remaining
