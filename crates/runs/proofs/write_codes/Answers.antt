-- `runs::write_codes` meets its contract: the codes of one run after the other are written (Writing).
use native.Mathlib.Omega.{arith}
use borrow.Author.Rules.{rules}
use Rattle.array.specs.declared.moves.Move.TheVariants.{Swap}
use Rattle.runs.proofs.Writing.{writing_start, writing_next}
use Rattle.runs.proofs.write_codes.Goals as goal

pub loop-run-init : goal.loop-run-init
loop-run-init c = writing_start c.args.runs c.args.log.now c.min-at.ensures

pub loop-run-preserved : goal.loop-run-preserved
loop-run-preserved c =
    writing_next (record { step = Swap; times = 0 }) (search rules) (omega arith) (c.fill.ensures.after (λ y e. e)) c.from.ensures c.loop-run.invariant
