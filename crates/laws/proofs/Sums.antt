-- Laws of sums: they go by their values, and a sum of blocks is the sum of the blocks' sums.
use Prim.Native.Nat.{ℕ, zero, suc, ◌+◌, ◌*◌, ◌≤◌, ◌<◌}
use mathlib.Core.Path.{◌≡◌, refl, ap, ap₂, ◌∙◌}
use mathlib.Core.Bool.{Bool, true, false, cond}
use native.Mathlib.Omega.{arith}
use native.Mathlib.Nat.{add-zero, add-suc, zero-mul, suc-mul}
use lib.Dec.{ltb, eqb}
use borrow.Author.Tests.{eqb-true, eqb-false, lt-ltb, le-ltb, ltb-true, ltb-false}
use Rattle.laws.specs.Sums.{sum}

pub sum_cong : (n : ℕ) {f g : ℕ → ℕ} → ((i : ℕ) → i < n → f i ≡ g i) → sum n f ≡ sum n g
sum_cong zero h = refl
sum_cong (suc n) h = ap₂ ◌+◌ (sum_cong n (λ i l. h i (omega arith))) (h n (omega arith))

pub sum_add : (m n : ℕ) (f : ℕ → ℕ) → sum (m + n) f ≡ sum m f + sum n (λ i. f (m + i))
sum_add m zero f = rw add-zero (omega arith)
sum_add m (suc n) f = rw (add-suc, sum_add m n f) (omega arith)

-- m blocks of n values
pub sum-blocks : (m n : ℕ) (f : ℕ → ℕ) → sum (m * n) f ≡ sum m (λ i. sum n (λ j. f (i * n + j)))
sum-blocks zero n f = rw zero-mul
sum-blocks (suc m) n f = rw (suc-mul, sum_add, sum-blocks m n f)

-- a blocks of s values, and b more
pub sum_rows : (s : ℕ) (f : ℕ → ℕ) (a b : ℕ) → sum (a * s + b) f ≡ sum a (λ i. sum s (λ j. f (i * s + j))) + sum b (λ j. f (a * s + j))
sum_rows s f a b = sum_add (a * s) b f ∙ ap (λ n. n + sum b (λ j. f (a * s + j))) (sum-blocks a s f)

-- a sum in which one value is 1 that would be 0
pub one_more : (n j : ℕ) (f : ℕ → ℕ) → f j ≡ 0 → sum n (λ k. cond (eqb k j) 1 (f k)) ≡ cond (ltb j n) 1 0 + sum n f
one_more zero j f e = rw (le-ltb j 0 (omega arith))
one_more (suc n) j f e = go (eqb n j) refl (one_more n j f e)
  where
    other : (u : Bool) → ltb j n ≡ u → (n ≡ j → ⊥) → sum n (λ k. cond (eqb k j) 1 (f k)) ≡ cond (ltb j n) 1 0 + sum n f
        → sum n (λ k. cond (eqb k j) 1 (f k)) + f n ≡ cond (ltb j (suc n)) 1 0 + (sum n f + f n)
    other true p d ih =
        let i : sum n (λ k. cond (eqb k j) 1 (f k)) ≡ 1 + sum n f = rw p at ih in
        let l : j < suc n = omega (arith, ltb-true j n p) in
        rw (lt-ltb j (suc n) l) (omega arith)
    other false p d ih =
        let i : sum n (λ k. cond (eqb k j) 1 (f k)) ≡ 0 + sum n f = rw p at ih in
        let l : suc n ≤ j = omega (arith, ltb-false j n p) in
        rw (le-ltb j (suc n) l) (omega arith)

    go : (t : Bool) → eqb n j ≡ t → sum n (λ k. cond (eqb k j) 1 (f k)) ≡ cond (ltb j n) 1 0 + sum n f
        → sum n (λ k. cond (eqb k j) 1 (f k)) + cond (eqb n j) 1 (f n) ≡ cond (ltb j (suc n)) 1 0 + (sum n f + f n)
    go true q ih =
        let d : n ≡ j = eqb-true n j q in
        let z : f n ≡ 0 = rw d e in
        let i : sum n (λ k. cond (eqb k j) 1 (f k)) ≡ 0 + sum n f = rw (le-ltb j n (omega arith)) at ih in
        rw (q, lt-ltb j (suc n) (omega arith)) (omega arith)
    go false q ih = rw q (other (ltb j n) refl (eqb-false n j q) ih)
