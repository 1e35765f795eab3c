-- Laws of tests: what a test that passed says of its parts.
use Prim.Native.Nat.{ℕ}
use mathlib.Core.Path.{◌≡◌, refl, sym, ◌∙◌}
use mathlib.Core.Bool.{Bool, true, false, ◌&&◌}
use native.Mathlib.Omega.{arith}

pub both_left : (a b : Bool) → (a && b) ≡ true → a ≡ true
both_left true b h = refl
both_left false b h = h

pub both_right : (a b : Bool) → (a && b) ≡ true → b ≡ true
both_right true b h = h
both_right false true h = refl
both_right false false h = h

-- a test passes or not
pub never : {b : Bool} → b ≡ true → b ≡ false → ⊥
never u v = let z : ◌≡◌ {A = ℕ} 0 1 = cc in omega arith

-- a test that code made, by what it is told to be: where it was true, or false
pub passed : {a b : Bool} → a ≡ b → a ≡ true → b ≡ true
passed e h = sym e ∙ h

pub failed : {a b : Bool} → a ≡ b → a ≡ false → b ≡ false
failed e h = sym e ∙ h
