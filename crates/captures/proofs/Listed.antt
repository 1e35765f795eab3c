-- Records listed slot after slot and cell after cell.
use Prim.Native.Nat.{ℕ, zero, suc, ◌+◌, ◌*◌, ◌≤◌, ◌<◌}
use mathlib.Core.Path.{◌≡◌, refl, ap, ◌∙◌}
use mathlib.Core.Bool.{Bool, true, false}
use mathlib.Core.List.{List, ◌++◌}
use native.Mathlib.Omega.{arith}
use native.Mathlib.Numerals.{add-one}
use lib.Dec.{eqb}
use lib.ListN.{length, length-append}
use Rattle.slots.specs.declared.Rec.{Rec}
use Rattle.slots.specs.declared.Cell.{Cell}
use Rattle.captures.specs.declared.Held.{Held}
use Rattle.captures.specs.Replays.{held_in, held_below}

-- a slot has at most one record, and n cells two each
slot_few : (cell slot : ℕ) (x : Rec) → length (held_in cell slot x) ≤ 1
slot_few cell slot x = go (eqb x.mark 0) refl
  where
    go : (t : Bool) → eqb x.mark 0 ≡ t → length (held_in cell slot x) ≤ 1
    go true e = rw e (omega arith)
    go false e = rw e (omega arith)

pub below_few : (T : ℕ → Cell) (n : ℕ) → length (held_below T n) ≤ n * 2
unfolding held_below
below_few T zero = omega arith
below_few T (suc n) =
    let front = held_in n 0 (T n).front in
    let spare = held_in n 1 (T n).spare in
    rw (length-append, length-append) (omega (arith, below_few T n, slot_few n 0 (T n).front, slot_few n 1 (T n).spare))

-- one cell more
pub below_next : (T : ℕ → Cell) (i : ℕ) {r r' : List Held} → r ≡ held_below T i
    → r' ≡ r ++ (held_in i 0 (T i).front ++ held_in i 1 (T i).spare) → r' ≡ held_below T (i + 1)
unfolding held_below
below_next T i z m = rw add-one (m ∙ ap (λ (l : List Held). l ++ (held_in i 0 (T i).front ++ held_in i 1 (T i).spare)) z)

-- there is room for two more, where the board is no larger than that of side 3
pub below_room : (T : ℕ → Cell) {n i : ℕ} {r : List Held} → n ≤ 81 → i < n → r ≡ held_below T i → length r ≤ 160
below_room T {i = i} s h z = omega (arith, ap length z, below_few T i)
