-- Laws of numbers.
use Prim.Native.Nat.{ℕ, ◌*◌, ◌≤◌}
use native.Mathlib.Nat.{mul-le-mul}

-- a square grows with its root
pub square_grows : {a b : ℕ} → a ≤ b → a * a ≤ b * b
square_grows h = mul-le-mul h h

-- and so does a fourth power
pub fourth_grows : {a b : ℕ} → a ≤ b → a * a * (a * a) ≤ b * b * (b * b)
fourth_grows h = square_grows (square_grows h)
