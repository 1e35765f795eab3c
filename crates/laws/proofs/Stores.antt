-- Laws of a run of stores.
use Prim.Native.Nat.{ℕ, suc, ◌+◌, ◌-◌, ◌≤◌, ◌<◌}
use mathlib.Core.Path.{◌≡◌, refl, sym, ap, ap₂, ◌∙◌}
use mathlib.Core.List.{List, [], ◌∷◌, ◌++◌}
use native.Mathlib.Nat.{add-zero, add-suc, suc-add}
use native.Mathlib.Omega.{arith}
use lib.ListN.{length, set, take, get_or}
use lib.Seq.{sets, set_out, take-suc, take_all, length-take-le}

module _ {A : Type 0} where
  pub sets-append : (l : List A) (i : ℕ) (vs ws : List A) → sets l i (vs ++ ws) ≡ sets (sets l i vs) (i + length vs) ws
  sets-append l i [] ws = ap (λ (k : ℕ). sets l k ws) (sym (add-zero i))
  sets-append l i (v ∷ vs) ws =
      sets-append (set l i v) (suc i) vs ws
      ∙ ap (λ (k : ℕ). sets (sets (set l i v) (suc i) vs) k ws) (suc-add i (length vs) ∙ sym (add-suc i (length vs)))

  -- stores past the end change nothing
  pub sets_past : (l : List A) (i : ℕ) (vs : List A) → length l ≤ i → sets l i vs ≡ l
  sets_past l i [] h = refl
  sets_past l i (v ∷ vs) h = ap (λ (k : List A). sets k (suc i) vs) (set_out l i v h) ∙ sets_past l (suc i) vs (omega arith)

  -- one store more
  pub sets_next : (l : List A) (i : ℕ) (vs : List A) (k : ℕ) (d : A) → k < length vs
      → sets l i (take (suc k) vs) ≡ set (sets l i (take k vs)) (i + k) (get_or vs k d)
  sets_next l i vs k d h =
      ap (sets l i) (take-suc vs k d h) ∙ sets-append l i (take k vs) (get_or vs k d ∷ [])
      ∙ ap (λ (n : ℕ). set (sets l i (take k vs)) (i + n) (get_or vs k d)) (length-take-le k vs (omega arith))

-- a list in which the elements of vs are stored one after the other from a place on, those before place `at` so far
pub record Storing {A : Type 0} (l vs : List A) (from at : ℕ) (now : List A) : Type 0 where
  pub past : from ≤ at
  pub stored : now ≡ sets l from (take (at - from) vs)

module _ {A : Type 0} (l vs : List A) (from : ℕ) where
  pub storing_next : {at : ℕ} {now : List A} (v d : A) → at - from < length vs → get_or vs (at - from) d ≡ v
      → Storing l vs from at now → Storing l vs from (at + 1) (set now at v)
  storing_next {at} {now} v d h e z =
      let n : at + 1 - from ≡ suc (at - from) = omega (arith, z.past) in
      let m : from + (at - from) ≡ at = omega (arith, z.past) in
      record { past = omega (arith, z.past); stored = sym (ap (λ (k : ℕ). sets l from (take k vs)) n ∙ sets_next l from vs (at - from) d h ∙ ap₂ (λ (k : ℕ) (x : A). set (sets l from (take (at - from) vs)) k x) m e ∙ ap (λ (k : List A). set k at v) (sym z.stored)) }

  -- all are stored
  pub storing_all : {at : ℕ} {now : List A} → length vs ≤ at - from → Storing l vs from at now → now ≡ sets l from vs
  storing_all {at} h z = z.stored ∙ ap (sets l from) (take_all (at - from) vs h)
