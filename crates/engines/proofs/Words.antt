-- The engines agree on words: by the tables of cases of the four operations.
use Prim.Native.Nat.{ℕ}
use mathlib.Core.Path.{◌≡◌, refl, sym, ap, ◌∙◌}
use mathlib.Core.Bool.{Bool, true, false, cond, not}
use mathlib.Core.List.{List, [], ◌∷◌}
use native.Mathlib.Omega.{arith}
use lib.ListN.{length}
use borrow.Author.Tests.{le-ltb}
use Rattle.laws.specs.Lent.{Lent, old, new}
use Rattle.laws.proofs.Bools.{never}
use Rattle.runs.specs.declared.Run.{Run}
use Rattle.runs.specs.Runs.{no_runs}
use Rattle.answers.specs.declared.Answer.{Answer}
use Rattle.answers.specs.Answers.{Case}
use Rattle.answers.specs.Answers.{case_of, side_case, lane_case, log_case, without_logs}
use Rattle.words.specs.Entries.{sum_cases, OnWords}
use Rattle.plainwords.specs.Entries.{PlainWords}
use Rattle.engines.specs.Engines.{has_room, EnginesAgree}
use Rattle.engines.proofs.Both.{and_true, WithLogs, engines_agree}

-- every log has room for the empty list
empty_fits : (log : ℕ) → has_room no_runs log ≡ true
empty_fits log = rw (le-ltb log 0 (omega arith))

-- 1, 2 and 3
pub sum_logged : (s : ℕ) (list : List Run) (n log : ℕ) → WithLogs (has_room list log) (sum_cases s list n log)
sum_logged s list n log = record {
  ascends = refl;
  refuses = refl;
  logs = and_true (has_room list log);
  later = λ h. (λ k. refl, (λ k. refl, tt));
}

-- 1, 2, 3 and 4, with the empty list where the argument is bad
pub argument_logged : (s : ℕ) (good : Bool) (list : List Run) (n log : ℕ)
    → WithLogs (has_room (cond good list no_runs) log) (side_case s ∷ lane_case s n ∷ log_case (cond good list no_runs) log ∷ case_of (not good) 4 0 ∷ [])
argument_logged s good list n log = record {
  ascends = refl;
  refuses = refl;
  logs = and_true (has_room (cond good list no_runs) log);
  later = λ h. (λ k. refl, (λ k. refl, (λ k. absurd (roomy good h k), tt)));
}
  where
    roomy : (good : Bool) → has_room (cond good list no_runs) log ≡ false → not good ≡ true → ⊥
    roomy true h k = never k refl
    roomy false h k = never (empty_fits log) h

module _ (cases : ℕ → ℕ → List Case) (list : List Run) (result : List ℕ → List ℕ) (words words' log : Lent) {r p : Answer} where
  pub words_agree : WithLogs (has_room list (length (old log))) (cases (length (old words)) (length (old log)))
      → without_logs (cases (length (old words)) (length (old log))) ≡ without_logs (cases (length (old words)) 0)
      → old words ≡ old words' → OnWords cases list result words log r → PlainWords cases list result words' p
      → EnginesAgree (has_room list (length (old log))) r p (new words ≡ new words')
  words_agree t any e z z' =
      engines_agree t (any ∙ ap (λ (l : List ℕ). without_logs (cases (length l) 0)) e) z z'
      (λ h l l'. l ∙ ap result e ∙ sym l') (λ k k'. k.0 ∙ e ∙ sym k')
