-- `runs::step_at` meets its contract: run after run is passed until the move is in one.
use mathlib.Core.Path.{sym, ◌∙◌}
use native.Mathlib.Numerals.{add-one}
use borrow.Author.Rules.{rules}
use Rattle.array.specs.declared.moves.Move.TheVariants.{Swap}
use Rattle.runs.specs.declared.Run.{Run}
use Rattle.runs.proofs.Steps.{step-here, step_next}
use Rattle.runs.proofs.step_at.Goals as goal

abbrev no_run : Run
no_run = record { step = Swap; times = 0 }

pub returns-then-remaining-run : goal.returns-then-remaining-run
returns-then-remaining-run c =
    let l = c.loop-run in
    sym (l.invariant ∙ step-here c.args.runs l.run-index l.remaining no_run (search rules) (search rules))

pub loop-run-preserved : goal.loop-run-preserved
loop-run-preserved c =
    let l = c.loop-run in
    l.invariant ∙ step_next c.args.runs l.run-index l.remaining no_run (search rules) (search rules) ∙ rw add-one
