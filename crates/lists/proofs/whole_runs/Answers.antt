-- `lists::whole_runs` meets its contract: each run goes the whole way.
use mathlib.Core.Path.{ap, ◌∙◌}
use Prim.Native.Nat.{ℕ}
use mathlib.Core.List.{map}
use borrow.Author.Rules.{rules}
use Rattle.array.specs.declared.moves.Move.TheVariants.{Swap}
use Rattle.runs.specs.Runs.{whole}
use Rattle.lists.proofs.Mapped.{mapped}
use Rattle.lists.proofs.whole_runs.Goals as goal

pub returns : goal.returns
returns c =
    mapped c.map.ensures.items (whole c.saturating_sub-last.result) Swap (search rules) (λ x y q k. search rules)
    ∙ ap (λ (n : ℕ). map (whole n) c.args.steps) c.saturating_sub-last.ensures
