-- Deciding between two numbers, and what a test says of the next one.
use Prim.Native.Nat.{ℕ, ◌+◌, ◌≤◌, ◌<◌}
use mathlib.Core.Path.{◌≡◌, refl, sym, ◌∙◌}
use mathlib.Core.Logic.{◌⊎◌, inl, inr, ⊎_elim}
use mathlib.Core.Bool.{Bool, true, false}
use native.Mathlib.Omega.{arith}
use borrow.Author.Tests.{eqb-true, eqb-false, lt-ltb, le-ltb, ltb-true, ltb-false}
use lib.Dec.{eqb, ltb}

pub apart : (a b : ℕ) → (a < b) ⊎ (b ≤ a)
apart a b = go (ltb a b) refl
  where
    go : (c : Bool) → ltb a b ≡ c → (a < b) ⊎ (b ≤ a)
    go true e = inl (ltb-true a b e)
    go false e = inr (ltb-false a b e)

pub same? : (a b : ℕ) → (a ≡ b) ⊎ (a ≡ b → ⊥)
same? a b = go (eqb a b) refl
  where
    go : (c : Bool) → eqb a b ≡ c → (a ≡ b) ⊎ (a ≡ b → ⊥)
    go true e = inl (eqb-true a b e)
    go false e = inr (eqb-false a b e)

-- a number other than k is below k + 1 just where it is below k
pub ltb_next : (a k : ℕ) → (a ≡ k → ⊥) → ltb a (k + 1) ≡ ltb a k
ltb_next a k d =
    ⊎_elim
    (λ u. lt-ltb a (k + 1) (omega arith) ∙ sym (lt-ltb a k u))
    (λ u. le-ltb a (k + 1) (omega (arith, d)) ∙ sym (le-ltb a k u))
    (apart a k)
