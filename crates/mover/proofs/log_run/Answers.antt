-- `mover::log_run` meets its contract: the count of one move after the other.
use mathlib.Core.Path.{ap}
use Prim.Native.Nat.{ℕ, ◌+◌}
use Rattle.mover.proofs.Running.{logging_next, logging_end}
use Rattle.mover.proofs.log_run.Goals as goal

pub loop-j-preserved : goal.loop-j-preserved
loop-j-preserved c =
    rw c.log_count.ensures (logging_next _ c.loop-j-test.true (ap (λ (n : ℕ). n + c.args.tally.swapped) c.movers.ensures) c.loop-j.invariant)

pub returns : goal.returns
returns c = rw (← c.is_late-late.ensures) (logging_end _ c.loop-j-test.false c.loop-j.invariant)
