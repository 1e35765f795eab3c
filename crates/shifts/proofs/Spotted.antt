-- The row and the column of a cell's place, carried from cell to cell.
use Prim.Native.Nat.{ℕ, ◌+◌, ◌*◌, ◌≤◌, ◌<◌}
use mathlib.Core.Path.{◌≡◌, refl, sym, ap, ◌∙◌}
use mathlib.Core.Bool.{Bool, true, false, cond}
use native.Mathlib.Omega.{arith}
use native.Mathlib.Nat.{suc-mul}
use lib.Arith.{digits_div, digits_mod, digits_lt}
use lib.Dec.{ltb}
use borrow.Author.Tests.{ltb-true, ltb-false}
use Rattle.array.specs.Cells.{groups, cell, group, place, row, column}
use Rattle.array.proofs.Board.{cell-group-place, place_is, place_in, place_of, row_in, column_in}
use Rattle.shifts.specs.declared.Spot.{Spot}
use Rattle.shifts.specs.Inside.{next_spot}

-- x is the spot of cell i
pub record Spotted (s i : ℕ) (x : Spot) : Type 0 where
  pub row_is : x.row ≡ row s (place s i)
  pub column_is : x.column ≡ column s (place s i)

spotted_by : (s i g a b : ℕ) → a < s → b < s → i ≡ cell s g (a * s + b) → Spotted s i (record { row = a; column = b })
spotted_by s i g a b ha hb e =
    let p : place s i ≡ a * s + b = ap (place s) e ∙ place_of s g (a * s + b) (digits_lt ha hb) in
    record { row_is = sym (ap (row s) p ∙ digits_div a hb); column_is = sym (ap (column s) p ∙ digits_mod a hb) }

module _ {s i : ℕ} {x : Spot} (pos : 1 ≤ s) (z : Spotted s i x) where
  pub row_less : x.row < s
  row_less = rw z.row_is (row_in pos (place s i) (place_in pos i))

  pub column_less : x.column < s
  column_less = rw z.column_is (column_in pos (place s i))

  here : i ≡ group s i * groups s + (x.row * s + x.column)
  here = sym (cell-group-place s i) ∙ ap (cell s (group s i)) (sym (place_is s (place s i)) ∙ rw (z.row_is, z.column_is))

  pub spotted_next : Spotted s (i + 1) (next_spot s x)
  spotted_next = go (ltb (x.column + 1) s) refl (ltb (x.row + 1) s) refl
    where
      go : (t : Bool) → ltb (x.column + 1) s ≡ t → (t' : Bool) → ltb (x.row + 1) s ≡ t'
          → Spotted s (i + 1) (cond t (record { row = x.row; column = x.column + 1 }) (cond t' (record { row = x.row + 1; column = 0 }) (record { row = 0; column = 0 })))
      go true e t' e' = spotted_by s (i + 1) (group s i) x.row (x.column + 1) row_less (ltb-true (x.column + 1) s e) (omega (arith, here))
      go false e true e' =
          let u : x.column + 1 ≡ s = omega (arith, column_less, ltb-false (x.column + 1) s e) in
          let v : (x.row + 1) * s ≡ x.row * s + s = omega (arith, suc-mul x.row s) in
          spotted_by s (i + 1) (group s i) (x.row + 1) 0 (ltb-true (x.row + 1) s e') pos (omega (arith, here))
      go false e false e' =
          let u : x.column + 1 ≡ s = omega (arith, column_less, ltb-false (x.column + 1) s e) in
          let v : x.row + 1 ≡ s = omega (arith, row_less, ltb-false (x.row + 1) s e') in
          let w : (x.row + 1) * s ≡ x.row * s + s = omega (arith, suc-mul x.row s) in
          let q : s * s ≡ (x.row + 1) * s = ap (λ (n : ℕ). n * s) (sym v) in
          spotted_by s (i + 1) (group s i + 1) 0 0 pos pos (omega (arith, here, suc-mul (group s i) (groups s)))
