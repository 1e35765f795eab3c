-- A search for the first number of which a test holds, number after number.
use Prim.Native.Nat.{ℕ, zero, suc, ◌+◌, ◌-◌, ◌≤◌, ◌<◌}
use mathlib.Core.Path.{◌≡◌, refl, ◌∙◌}
use mathlib.Core.Bool.{Bool, true, false, cond}
use native.Mathlib.Nat.{add-zero, zero-add}
use native.Mathlib.Omega.{arith}
use borrow.Author.Tests.{ltb-false}
use lib.Dec.{ltb}
use Rattle.laws.specs.Searching.{first_from, first}

-- the test holds of no number below i
pub record Searching (test : ℕ → Bool) (n i : ℕ) : Type 0 where
  pub inside : i ≤ n
  pub left : first test n ≡ first_from test i (n - i)

module _ (test : ℕ → Bool) (n : ℕ) where
  -- none is found just where the test holds of none
  none_from : (i m : ℕ) → i + m ≤ first_from test i m → (k : ℕ) → k < m → test (i + k) ≡ false
  none_from i zero h k l = absurd (omega arith)
  none_from i (suc m) h k l = go (test i) refl h (none_from (suc i) m) k l
    where
      go : (b : Bool) → test i ≡ b → i + suc m ≤ cond b i (first_from test (suc i) m) → (suc i + m ≤ first_from test (suc i) m → (k : ℕ) → k < m → test (suc i + k) ≡ false) → (k : ℕ) → k < suc m → test (i + k) ≡ false
      go true e h rest k l = absurd (omega arith)
      go false e h rest zero l = rw add-zero e
      go false e h rest (suc k) l =
          let f : i + suc k ≡ suc i + k = omega arith in
          rw f (rest (omega arith) k (omega arith))

  pub none_found : ltb (first test n) n ≡ false → (k : ℕ) → k < n → test k ≡ false
  none_found h k l =
      let e : 0 + k ≡ k = omega arith in
      rw e at (none_from 0 n (omega (arith, ltb-false (first test n) n h)) k l)

  passed_from : (i m : ℕ) → ((k : ℕ) → i ≤ k → k < i + m → test k ≡ false) → first_from test i m ≡ i + m
  passed_from i zero h = omega arith
  passed_from i (suc m) h =
      rw (h i (omega arith) (omega arith))
      (passed_from (suc i) m (λ k l u. h k (omega arith) (omega arith)) ∙ omega arith)

  pub all_passed : ((k : ℕ) → k < n → test k ≡ false) → first test n ≡ n
  all_passed h = passed_from 0 n (λ k l u. h k (omega arith)) ∙ zero-add n

  -- what is found passes the test
  found_from : (i m : ℕ) → first_from test i m < i + m → test (first_from test i m) ≡ true
  found_from i zero h = absurd (omega arith)
  found_from i (suc m) h = go (test i) refl h (found_from (suc i) m)
    where
      go : (b : Bool) → test i ≡ b → cond b i (first_from test (suc i) m) < i + suc m
          → (first_from test (suc i) m < suc i + m → test (first_from test (suc i) m) ≡ true) → test (cond b i (first_from test (suc i) m)) ≡ true
      go true e h rest = e
      go false e h rest = rest (omega arith)

  pub found_passes : first test n < n → test (first test n) ≡ true
  found_passes h = found_from 0 n (omega arith)
