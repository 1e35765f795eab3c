-- Sums of the values of a rule, and of the first entries of a list.
use Rattle.std.specs.Prelude.{ℕ, zero, suc, ◌+◌, List, get_or}

-- f 0 + .. + f (n - 1)
abbrev pub sum : ℕ → (ℕ → ℕ) → ℕ
sum zero f = zero
sum (suc n) f = sum n f + f n

-- the sum of the first n entries of l
abbrev pub sum_of : ℕ → List ℕ → ℕ
sum_of n l = sum n (λ i. get_or l i 0)
