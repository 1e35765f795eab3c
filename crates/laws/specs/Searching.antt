-- The first number of which a test holds.
use Rattle.std.specs.Prelude.{ℕ, zero, suc, Bool, cond}

-- of the n numbers from i on; past them where there is none
abbrev pub first_from : (ℕ → Bool) → ℕ → ℕ → ℕ
first_from test i zero = i
first_from test i (suc n) = cond (test i) i (first_from test (suc i) n)

-- of the numbers below n, or n
abbrev pub first : (ℕ → Bool) → ℕ → ℕ
first test n = first_from test 0 n
