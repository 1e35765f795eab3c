-- More laws of sums: sums of which no term counts, or one; the order of summing; bounds.
use Prim.Native.Nat.{ℕ, zero, suc, ◌+◌, ◌-◌, ◌*◌, ◌≤◌, ◌<◌}
use mathlib.Core.Path.{◌≡◌, refl, sym, ap, ◌∙◌}
use mathlib.Core.Logic.{⊎_elim}
use native.Mathlib.Nat.{suc-mul}
use native.Mathlib.Omega.{arith}
use Rattle.laws.specs.Sums.{sum}
use Rattle.laws.proofs.Deciding.{same?}

pub sum_zero : (f : ℕ → ℕ) (n : ℕ) → ((i : ℕ) → i < n → f i ≡ 0) → sum n f ≡ 0
sum_zero f zero h = refl
sum_zero f (suc n) h = omega (arith, sum_zero f n (λ i u. h i (omega arith)), h n (omega arith))

-- a sum of which one term counts
pub sum_point : (f : ℕ → ℕ) (n i : ℕ) → i < n → ((j : ℕ) → j < n → (j ≡ i → ⊥) → f j ≡ 0) → sum n f ≡ f i
sum_point f zero i l h = absurd (omega arith)
sum_point f (suc n) i l h =
    ⊎_elim
    (λ e. omega (arith, sum_zero f n (λ j u. h j (omega arith) (λ d. omega arith)), ap f e))
    (λ d. omega (arith, sum_point f n i (omega (arith, d)) (λ j u. h j (omega arith)), h n (omega arith) (λ e. d (sym e))))
    (same? i n)

-- a sum of which two terms count
pub sum-two : (f : ℕ → ℕ) (n i j : ℕ) → i < j → j < n → ((k : ℕ) → k < n → (k ≡ i → ⊥) → (k ≡ j → ⊥) → f k ≡ 0) → sum n f ≡ f i + f j
sum-two f zero i j l h g = absurd (omega arith)
sum-two f (suc n) i j l h g =
    ⊎_elim
    (λ e. omega (arith, sum_point f n i (omega arith) (λ k u d. g k (omega arith) d (λ v. omega arith)), ap f e))
    (λ d. omega (arith, sum-two f n i j l (omega (arith, d)) (λ k u. g k (omega arith)), g n (omega arith) (λ e. omega (arith, d)) (λ e. d (sym e))))
    (same? j n)

pub sum-plus : (f g : ℕ → ℕ) (n : ℕ) → sum n (λ i. f i + g i) ≡ sum n f + sum n g
sum-plus f g zero = refl
sum-plus f g (suc n) = omega (arith, sum-plus f g n)

pub sum-swap : (f : ℕ → ℕ → ℕ) (n m : ℕ) → sum n (λ i. sum m (λ j. f i j)) ≡ sum m (λ j. sum n (λ i. f i j))
sum-swap f zero m = sym (sum_zero (λ j. 0) m (λ j u. refl))
sum-swap f (suc n) m = ap (λ (x : ℕ). x + sum m (λ j. f n j)) (sum-swap f n m) ∙ sym (sum-plus (λ j. sum n (λ i. f i j)) (λ j. f n j) m)

pub sum_few : (f : ℕ → ℕ) (b : ℕ) → ((i : ℕ) → f i ≤ b) → (n : ℕ) → sum n f ≤ n * b
sum_few f b h zero = omega arith
sum_few f b h (suc n) = rw suc-mul (omega (arith, sum_few f b h n, h n))

-- from the end back
pub sum_back : (f : ℕ → ℕ) (n k m : ℕ) → k + m ≡ n → sum k (λ i. f (n - 1 - i)) + sum m f ≡ sum n f
sum_back f n zero m e =
    let h : m ≡ n = omega arith in
    rw h (omega arith)
sum_back f n (suc k) m e =
    let h : n - 1 - k ≡ m = omega arith in
    let ih = sum_back f n k (suc m) (omega arith) in
    rw h (omega (arith, ih))
