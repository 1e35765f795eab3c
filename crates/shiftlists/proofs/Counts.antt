-- How many moves a shift has, electronic and by light.
use Prim.Native.Nat.{ℕ, ◌+◌, ◌-◌, ◌*◌, ◌≤◌}
use mathlib.Core.Path.{◌≡◌, refl}
use mathlib.Core.Bool.{Bool, true, false, cond}
use native.Mathlib.Omega.{arith}
use lib.Dec.{ltb, eqb}
use borrow.Author.Tests.{eqb-true}
use Rattle.laws.proofs.Bools.{both_left, both_right}
use Rattle.shiftlists.specs.declared.Axis.{Axis}
use Rattle.shiftlists.specs.declared.Edge.TheVariants.{ZeroFill, Circular}
use Rattle.shiftlists.specs.declared.Distance.{Distance}
use Rattle.runs.specs.Runs.{electronic, swaps}
use Rattle.shiftlists.specs.Shifts.{within, modulo, is_nothing, circular_moves, forth_moves, back_moves, swaps_of, shift_list}
use Rattle.shiftlists.proofs.Within.{within_known}

-- the moves of a circular shift, and how many of them go forth
module _ (s : ℕ) (k : Distance) where
  pub circular_few : circular_moves s k ≤ s
  circular_few = go (is_nothing k)
    where
      go : (t : Bool) → cond t 0 s ≤ s
      go true = omega arith
      go false = omega arith

  modulo_few : k.forth ≤ s → modulo s k ≤ s
  modulo_few h = go (ltb 0 k.back)
    where
      go : (t : Bool) → cond t (s - k.back) k.forth ≤ s
      go true = omega arith
      go false = h

  pub modulo-nothing : is_nothing k ≡ true → modulo s k ≡ 0
  modulo-nothing h =
      let forth = eqb-true k.forth 0 (both_left (eqb k.forth 0) (eqb k.back 0) h) in
      let back = eqb-true k.back 0 (both_right (eqb k.forth 0) (eqb k.back 0) h) in
      rw back forth

  pub modulo_circular : k.forth ≤ s → modulo s k ≤ circular_moves s k
  modulo_circular h = go (is_nothing k) refl
    where
      go : (t : Bool) → is_nothing k ≡ t → modulo s k ≤ circular_moves s k
      go true e = rw (modulo-nothing e) (omega arith)
      go false e = rw e (modulo_few h)

-- a shift by k: |k| electronic moves where it fills with zero, and where it is circular the side or none; two swaps where it moves groups
module _ (s : ℕ) (axis : Axis) (k : Distance) where
  pub shift-swaps : (forth back : ℕ) → swaps (shift_list axis forth back) ≡ 2 * swaps_of axis
  shift-swaps forth back = omega arith

  pub zero_fill_electronic : electronic (shift_list axis (forth_moves ZeroFill s k) (back_moves ZeroFill s k)) ≡ k.forth + k.back
  zero_fill_electronic = omega arith

  forth_and_rest : (m n : ℕ) → m ≤ n → electronic (shift_list axis m (n - m)) ≡ n
  forth_and_rest m n h = omega arith

  pub circular_electronic : within s k ≡ true → electronic (shift_list axis (forth_moves Circular s k) (back_moves Circular s k)) ≡ circular_moves s k
  circular_electronic h = forth_and_rest (modulo s k) (circular_moves s k) (modulo_circular s k (omega (arith, within_known s k h)))
