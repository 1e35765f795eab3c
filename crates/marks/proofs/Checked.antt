-- The check of the marks, and what good marks are.
use Rattle.std.proofs.Common.{◌≡◌, ℕ, suc, ◌+◌, ◌<◌, false, not, leb, List, [], ◌∷◌, length, get_or, arith, ltb-false, le-ltb, Some, None}
use Rattle.std.proofs.lemmas.Bool.{lt-leb}
use Rattle.std.proofs.lemmas.Bool.Decides.{nat_tests}
use Rattle.std.proofs.lemmas.List.Sums.{prefix_len_passes, position_or_len_is}
use Rattle.std.specs.List.{position, position_or_len}
use Rattle.std.specs.Prelude.{Ok, Err}
use Rattle.answers.specs.declared.Refusal.TheVariants.{Mark}
use Rattle.answers.specs.Judged.{Judged}
use Rattle.marks.specs.Marks.{first_bad, marks_case}

-- the first bad cell, as the library finds it
first_is : (i : ℕ) (ms : List ℕ) → first_bad i ms ≡ i + position_or_len (leb 2) ms
first_is i [] = omega arith
first_is i (m ∷ ms) = grind (arith, nat_tests, first_is (suc i) ms)

module _ (marks : List ℕ) where
  pub found_judged : {i : ℕ} → position (leb 2) marks ≡ Some i → Judged (marks_case marks ∷ []) (Err (Mark i))
  found_judged e = record { so = λ a. grind (arith, nat_tests, first_is 0 marks) }

  pub none_judged : position (leb 2) marks ≡ None → Judged (marks_case marks ∷ []) (Ok tt)
  none_judged e = record { so = λ a. grind (arith, nat_tests, first_is 0 marks) }

  -- where the case does not apply, every mark is 0 or 1
  pub good_marks : (marks_case marks).applies ≡ false → (k : ℕ) → k < length marks → get_or marks k 0 < 2
  good_marks h k l =
      let few : k < position_or_len (leb 2) marks = omega (arith, ltb-false (first_bad 0 marks) (length marks) h, first_is 0 marks) in
      let passes = prefix_len_passes (λ m. not (leb 2 m)) marks k 0 few in
      grind (arith, nat_tests)

  -- and where every mark is 0 or 1 it does not apply
  module _ (good : (k : ℕ) → k < length marks → get_or marks k 0 < 2) where
    pub good_passes : (marks_case marks).applies ≡ false
    good_passes =
        let all = position_or_len_is (leb 2) marks (length marks) 0 (omega arith) (λ k l. lt-leb 2 (get_or marks k 0) (good k l)) (λ l. absurd (omega arith)) in
        le-ltb (first_bad 0 marks) (length marks) (omega (arith, first_is 0 marks, all))

    pub good_judged : Judged (marks_case marks ∷ []) (Ok tt)
    good_judged = record { so = λ a. rw good_passes }
