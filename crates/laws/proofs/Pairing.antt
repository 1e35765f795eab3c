-- Sums over entries that are joined in pairs, and over pairs of numbers.
use Prim.Native.Nat.{ℕ, ◌+◌, ◌<◌}
use mathlib.Core.Path.{◌≡◌, refl, sym, ap, ◌∙◌}
use mathlib.Core.Logic.{⊎_elim}
use mathlib.Core.Bool.{Bool, true, false, cond}
use native.Mathlib.Omega.{arith}
use borrow.Author.Tests.{eq-eqb, ne_eqb, lt-ltb, le-ltb}
use lib.Dec.{eqb, ltb}
use Rattle.laws.specs.Sums.{sum}
use Rattle.laws.proofs.Deciding.{same?, apart}
use Rattle.laws.proofs.Sums.{sum_cong}
use Rattle.laws.proofs.Totals.{sum_point, sum-swap, sum-plus}
use Rattle.laws.proofs.Trading.{Paired}

-- a sum over partners is the sum
sum_paired_off : {n : ℕ} {p : ℕ → ℕ} → Paired n p → (f : ℕ → ℕ) → sum n (λ i. f (p i)) ≡ sum n f
sum_paired_off {n} {p} pairs f =
    sum_cong n (λ i h. sym (only (p i) (pairs.inside i h) (λ j. eqb j (p i)) (eq-eqb (p i) (p i) refl) (λ j d. ne_eqb j (p i) d)))
    ∙ sum-swap (λ i j. cond (eqb j (p i)) (f j) 0) n n
    ∙ sum_cong n (λ j h. sum_point (λ i. cond (eqb j (p i)) (f j) 0) n (p j) (pairs.inside j h) (λ i u d. rw (ne_eqb j (p i) (λ e. d (sym (pairs.twice i u) ∙ ap p (sym e)))))
    ∙ rw (eq-eqb j (p (p j)) (sym (pairs.twice j h))))
  where
    only : (k : ℕ) → k < n → (t : ℕ → Bool) → t k ≡ true → ((j : ℕ) → (j ≡ k → ⊥) → t j ≡ false) → sum n (λ j. cond (t j) (f j) 0) ≡ f k
    only k h t e g = sum_point (λ j. cond (t j) (f j) 0) n k h (λ j u d. rw (g j d)) ∙ rw e

-- and so is one over those that are not their own partners
pub sum_away : {n : ℕ} {p : ℕ → ℕ} → Paired n p → (f : ℕ → ℕ) → sum n (λ i. cond (eqb (p i) i) 0 (f (p i))) ≡ sum n (λ i. cond (eqb (p i) i) 0 (f i))
sum_away {n} {p} pairs f = sum_cong n both ∙ sum_paired_off pairs (λ i. cond (eqb (p i) i) 0 (f i))
  where
    both : (i : ℕ) → i < n → cond (eqb (p i) i) 0 (f (p i)) ≡ cond (eqb (p (p i)) (p i)) 0 (f (p i))
    both i h =
        rw (pairs.twice i h)
        (⊎_elim (λ e. rw (eq-eqb (p i) i e, eq-eqb i (p i) (sym e))) (λ d. rw (ne_eqb (p i) i d, ne_eqb i (p i) (λ e. d (sym e)))) (same? (p i) i))

-- a value for each two numbers: two different ones count when the smaller is first, both ways round at once, or each by itself
pub sum_both : (n : ℕ) (f : ℕ → ℕ → ℕ)
    → sum n (λ i. sum n (λ j. cond (ltb i j) (f i j + f j i) 0)) ≡ sum n (λ i. sum n (λ j. cond (eqb j i) 0 (f i j)))
sum_both n f =
    sum_cong n (λ i h. sum_cong n (λ j u. parted (ltb i j) (f i j) (f j i)) ∙ sum-plus (λ j. cond (ltb i j) (f i j) 0) (λ j. cond (ltb i j) (f j i) 0) n)
    ∙ sum-plus (λ i. sum n (λ j. cond (ltb i j) (f i j) 0)) (λ i. sum n (λ j. cond (ltb i j) (f j i) 0)) n
    ∙ ap (λ (k : ℕ). sum n (λ i. sum n (λ j. cond (ltb i j) (f i j) 0)) + k) (sum-swap (λ i j. cond (ltb i j) (f j i) 0) n n)
    ∙ sym (sum-plus (λ i. sum n (λ j. cond (ltb i j) (f i j) 0)) (λ i. sum n (λ j. cond (ltb j i) (f i j) 0)) n)
    ∙ sum_cong n (λ i h. sym (sum-plus (λ j. cond (ltb i j) (f i j) 0) (λ j. cond (ltb j i) (f i j) 0) n) ∙ sum_cong n (λ j u. apart_counts i j (f i j)))
  where
    parted : (b : Bool) (x y : ℕ) → cond b (x + y) 0 ≡ cond b x 0 + cond b y 0
    parted true x y = refl
    parted false x y = refl

    apart_counts : (i j x : ℕ) → cond (ltb i j) x 0 + cond (ltb j i) x 0 ≡ cond (eqb j i) 0 x
    apart_counts i j x =
        ⊎_elim
        (λ l. rw (lt-ltb i j l, le-ltb j i (omega arith), ne_eqb j i (λ e. omega arith)) (omega arith))
        (λ l. ⊎_elim
        (λ k. rw (le-ltb i j l, lt-ltb j i k, ne_eqb j i (λ e. omega arith)) (omega arith))
        (λ k. rw (le-ltb i j l, le-ltb j i k, eq-eqb j i (omega arith)) (omega arith))
        (apart j i))
        (apart i j)
