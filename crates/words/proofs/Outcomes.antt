-- Two outcomes of an entry on words for one input are the same lists: of each of the four, by its own cases, list and result.
use Prim.Native.Nat.{ℕ}
use mathlib.Core.Path.{◌≡◌, sym, ◌∙◌}
use mathlib.Core.List.{List}
use Rattle.laws.specs.Lent.{Lent, new}
use Rattle.runs.specs.declared.Run.{Run}
use Rattle.answers.specs.declared.Answer.{Answer}
use Rattle.answers.specs.Answers.{Case}
use Rattle.answers.proofs.Outcomes.{left_with, same_outcome}
use Rattle.words.specs.Entries.{OnWords}

pub words_same : (cases : ℕ → ℕ → List Case) (list : List Run) (result : List ℕ → List ℕ) (words log : Lent) (w l : List ℕ) {r r' : Answer}
    → OnWords cases list result words log r → OnWords cases list result (left_with words w) (left_with log l) r'
    → (r ≡ r') × ((new words ≡ w) × (new log ≡ l))
words_same cases list result words log w l z z' =
    same_outcome z z' (λ h e e' f f'. (e ∙ sym e', f ∙ sym f')) (λ k k'. (k.0 ∙ sym k'.0, k.1 ∙ sym k'.1))
