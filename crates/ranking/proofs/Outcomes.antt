-- Two outcomes of rank for one input are the same lists.
use Prim.Native.Nat.{ℕ}
use mathlib.Core.Path.{◌≡◌, sym, ◌∙◌}
use mathlib.Core.List.{List}
use Rattle.laws.specs.Lent.{Lent, new}
use Rattle.answers.specs.declared.Answer.{Answer}
use Rattle.answers.proofs.Outcomes.{left_with, same_outcome}
use Rattle.ranking.specs.Entries.{Ranked}

pub rank_same : (s : ℕ) (marks : List ℕ) (aims codes : Lent) (a c : List ℕ) {r r' : Answer} → Ranked s marks aims codes r
    → Ranked s marks (left_with aims a) (left_with codes c) r' → (r ≡ r') × ((new aims ≡ a) × (new codes ≡ c))
rank_same s marks aims codes a c z z' =
    same_outcome z z' (λ h e e' f f'. (e ∙ sym e', f ∙ sym f')) (λ k k'. (k.0 ∙ sym k'.0, k.1 ∙ sym k'.1))
