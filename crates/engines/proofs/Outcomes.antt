-- Two outcomes of a plain entry for one input are the same lists, with the same answer; of concentrate and distribute in Records.antt, `plain_run_same`.
use Prim.Native.Nat.{ℕ}
use mathlib.Core.Path.{◌≡◌, sym, ap, ap₂, ◌∙◌}
use mathlib.Core.List.{List}
use lib.ListN.{length}
use Rattle.laws.specs.Lent.{Lent, old, new}
use Rattle.runs.specs.declared.Run.{Run}
use Rattle.answers.specs.declared.Answer.{Answer}
use Rattle.answers.specs.Answers.{Case}
use Rattle.answers.specs.Answers.{without_logs}
use Rattle.ranking.specs.Ranks.{ranks}
use Rattle.ranking.specs.Entries.{rank_cases}
use Rattle.plainwords.specs.Entries.{PlainWords}
use Rattle.plainrecords.specs.Entries.{PlainRank}
use Rattle.engines.proofs.Both.{plain-same}

-- of each of the four on words, by its own cases, list and result
pub plain-words-same : (cases : ℕ → ℕ → List Case) (list : List Run) (result : List ℕ → List ℕ) (words words' : Lent) {p p' : Answer} → old words ≡ old words'
    → PlainWords cases list result words p → PlainWords cases list result words' p' → (p ≡ p') × (new words ≡ new words')
plain-words-same cases list result words words' e z z' =
    plain-same (ap (λ (l : List ℕ). without_logs (cases (length l) 0)) e) z z' (λ h l l'. l ∙ ap result e ∙ sym l') (λ k k'. k ∙ e ∙ sym k')

pub plain-rank-same : (s : ℕ) (marks marks' : List ℕ) (aims aims' : Lent) {p p' : Answer} → marks ≡ marks' → old aims ≡ old aims'
    → PlainRank s marks aims p → PlainRank s marks' aims' p' → (p ≡ p') × (new aims ≡ new aims')
plain-rank-same s marks marks' aims aims' e f z z' =
    plain-same (ap₂ (λ (m a : List ℕ). without_logs (rank_cases s m (length a) 0)) e f) z z' (λ h l l'. l ∙ ap (ranks s) e ∙ sym l') (λ k k'. k ∙ f ∙ sym k')
