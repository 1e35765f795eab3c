-- A fourth power as the square of a square.
use Rattle.std.proofs.Common.{◌≡◌, ℕ, ◌*◌, ◌^◌, ap₂, ◌∙◌, pow-add, arith}
use native.Mathlib.Nat.{pow-zero, pow-suc}

pub fourth_power : (s : ℕ) → s ^ 4 ≡ s * s * (s * s)
fourth_power s = pow-add s 2 2 ∙ ap₂ ◌*◌ square square
  where
    one : s ^ 1 ≡ s
    one = rw (pow-suc, pow-zero) (omega arith)

    square : s ^ 2 ≡ s * s
    square = pow-add s 1 1 ∙ ap₂ ◌*◌ one one
