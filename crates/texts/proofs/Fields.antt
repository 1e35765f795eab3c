-- The fields of a line, as `split` gives them one after the other, and none where there are no more.
use Rattle.std.proofs.Common.{◌≡◌, ℕ, List, [], ◌∷◌, Option, Some, None, refl}
use Rattle.std.proofs.lemmas.Iterator.{YieldsList}
use Rattle.texts.specs.Lines.{fields_of}
use Rattle.texts.specs.Numbers.{number_of, two, four, numbers_in}
use Rattle.texts.specs.declared.read.Numbers.{Numbers}

module _ {S A : Type 0} (steps : S → Option A → S → Type 0) (text : A → List ℕ) where
  -- a field that is taken is the first, and the others are left
  pub record Others (x : A) (t : S) (fs : List (List ℕ)) : Type 0 where
    pub others : List (List ℕ)
    pub are : fs ≡ text x ∷ others
    pub left : YieldsList steps text t others

module _ {S A : Type 0} {steps : S → Option A → S → Type 0} {text : A → List ℕ} where
  others_of : {s : S} (fs : List (List ℕ)) → YieldsList steps text s fs → (x : A) (t : S) → steps s (Some x) t → Others steps text x t fs
  others_of [] y x t h = absurd (y.runs x t h)
  others_of (f ∷ fs) y x t h = let z = y.runs.1 x t h in record { others = fs; are = rw z.0; left = record { runs = z.1 } }

  none_of : {s : S} (fs : List (List ℕ)) → YieldsList steps text s fs → (t : S) → steps s None t → fs ≡ []
  none_of [] y t h = refl
  none_of (f ∷ fs) y t h = absurd (y.runs.0 t h)

module _ {S A : Type 0} {steps : S → Option A → S → Type 0} {text : A → List ℕ} (line : List ℕ) {s₀ : S} (y : YieldsList steps text s₀ (fields_of line))
    (x₁ : A) (s₁ : S) (h₁ : steps s₀ (Some x₁) s₁) where
  one : Others steps text x₁ s₁ (fields_of line)
  one = others_of (fields_of line) y x₁ s₁ h₁

  pub in_one : (t : S) → steps s₁ None t → None ≡ numbers_in line
  unfolding numbers_in
  in_one t h = rw (one.are, none_of one.others one.left t h)

  module _ (x₂ : A) (s₂ : S) (h₂ : steps s₁ (Some x₂) s₂) where
    second : Others steps text x₂ s₂ one.others
    second = others_of one.others one.left x₂ s₂ h₂

    pub in_two : (t : S) → steps s₂ None t → (r : Option Numbers) → r ≡ two (number_of (text x₁)) (number_of (text x₂)) → r ≡ numbers_in line
    unfolding numbers_in
    in_two t h r e = rw (one.are, second.are, none_of second.others second.left t h) e

    module _ (x₃ : A) (s₃ : S) (h₃ : steps s₂ (Some x₃) s₃) where
      third : Others steps text x₃ s₃ second.others
      third = others_of second.others second.left x₃ s₃ h₃

      pub in_three : (t : S) → steps s₃ None t → None ≡ numbers_in line
      unfolding numbers_in
      in_three t h = rw (one.are, second.are, third.are, none_of third.others third.left t h)

      module _ (x₄ : A) (s₄ : S) (h₄ : steps s₃ (Some x₄) s₄) where
        fourth : Others steps text x₄ s₄ third.others
        fourth = others_of third.others third.left x₄ s₄ h₄

        pub in_four : (t : S) → steps s₄ None t → (r : Option Numbers)
            → r ≡ four (number_of (text x₁)) (number_of (text x₂)) (number_of (text x₃)) (number_of (text x₄)) → r ≡ numbers_in line
        unfolding numbers_in
        in_four t h r e = rw (one.are, second.are, third.are, fourth.are, none_of fourth.others fourth.left t h) e

        pub in_five : (x₅ : A) (t : S) → steps s₄ (Some x₅) t → None ≡ numbers_in line
        unfolding numbers_in
        in_five x₅ t h =
            let fifth = others_of fourth.others fourth.left x₅ t h in
            rw (one.are, second.are, third.are, fourth.are, fifth.are)
