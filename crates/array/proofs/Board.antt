-- Laws of the board: a cell is its group and its place, light joins cells in pairs, and an electronic move stays in its group.
use Prim.Native.Nat.{ℕ, zero, suc, ◌+◌, ◌-◌, ◌*◌, ◌≤◌, ◌<◌}
use mathlib.Core.Path.{◌≡◌, refl, sym, ap, ap₂, ◌∙◌}
use mathlib.Core.Bool.{Bool, true, false}
use mathlib.Core.Option.{Option, none, some}
use native.Mathlib.Nat.{div-add-mod', mod-lt, mul-pos, div-lt_iff_lt-mul, suc-mul}
use native.Mathlib.Omega.{arith}
use lib.Arith.{digits_div, digits_mod, digits_lt}
use lib.Dec.{ltb, leb}
use borrow.Author.Tests.{ltb-true, ltb-false, leb-true, lt-ltb, le-ltb}
use Rattle.laws.proofs.Bools.{both_left, both_right}
use Rattle.laws.proofs.Numbers.{square_grows, fourth_grows}
use Rattle.array.specs.declared.moves.Way.{Way}
use Rattle.array.specs.declared.moves.Way.TheVariants.{Right, Left, Up, Down}
use Rattle.array.specs.Cells.{is_side, groups, cells, cell, group, place, row, column, partner, is_cell, ahead, onward, neighbour}

-- what a side that is built, and a cell of a board, are known by
pub record Side (s : ℕ) : Type 0 where
  pub least : 1 ≤ s
  pub most : s ≤ 8
  pub groups-pos : 0 < groups s
  pub groups_few : groups s ≤ 64
  pub cells_few : cells s ≤ 4096

pub side_known : (s : ℕ) → is_side s ≡ true → Side s
side_known s h =
    let least : 1 ≤ s = leb-true 1 s (both_left (leb 1 s) (leb s 8) h) in
    let most : s ≤ 8 = leb-true s 8 (both_right (leb 1 s) (leb s 8) h) in
    record { least = least; most = most; groups-pos = mul-pos least least; groups_few = square_grows most; cells_few = fourth_grows most }

pub record OnBoard (s i : ℕ) : Type 0 where
  pub side : Side s
  pub inside : i < cells s

pub cell_known : (s i : ℕ) → is_cell s i ≡ true → OnBoard s i
cell_known s i h =
    record { side = side_known s (both_left (is_side s) (ltb i (cells s)) h); inside = ltb-true i (cells s) (both_right (is_side s) (ltb i (cells s)) h) }

-- a cell is its group and its place, and back
pub cell-group-place : (s i : ℕ) → cell s (group s i) (place s i) ≡ i
cell-group-place s i = div-add-mod' i (groups s)

pub group_of : (s g p : ℕ) → p < groups s → group s (cell s g p) ≡ g
group_of s g p h = digits_div g h

pub place_of : (s g p : ℕ) → p < groups s → place s (cell s g p) ≡ p
place_of s g p h = digits_mod g h

-- a place is its row and its column
pub place_is : (s p : ℕ) → row s p * s + column s p ≡ p
place_is s p = div-add-mod' p s

module _ {s : ℕ} (pos : 0 < s) where
  pub groups-pos : 0 < groups s
  groups-pos = mul-pos pos pos

  pub place_in : (i : ℕ) → place s i < groups s
  place_in i = mod-lt i groups-pos

  pub group_in : (i : ℕ) → i < cells s → group s i < groups s
  group_in i h = (div-lt_iff_lt-mul groups-pos).1 h

  pub column_in : (p : ℕ) → column s p < s
  column_in p = mod-lt p pos

  pub row_in : (p : ℕ) → p < groups s → row s p < s
  row_in p h = (div-lt_iff_lt-mul pos).1 h

  -- light joins the cells in pairs
  pub partner_in : (i : ℕ) → i < cells s → partner s i < cells s
  partner_in i h = digits_lt (place_in i) (group_in i h)

  pub partner_twice : (i : ℕ) → i < cells s → partner s (partner s i) ≡ i
  partner_twice i h =
      rw (place_of s (place s i) (group s i) (group_in i h), group_of s (place s i) (group s i) (group_in i h)) (cell-group-place s i)

  -- cells with G = P stay, and no others
  pub partner_stays : (i : ℕ) → group s i ≡ place s i → partner s i ≡ i
  partner_stays i h = ap₂ (cell s) (sym h) h ∙ cell-group-place s i

  pub partner-goes : (i : ℕ) → i < cells s → partner s i ≡ i → group s i ≡ place s i
  partner-goes i h e = sym (ap (group s) e) ∙ group_of s (place s i) (group s i) (group_in i h)

-- a step that is not past the edge leads to a place of the same group
module _ {s : ℕ} (pos : 0 < s) (i : ℕ) where
  from : ℕ → ℕ → ℕ
  from a b = cell s (group s i) (a * s + b)

  here : i ≡ group s i * groups s + (row s (place s i) * s + column s (place s i))
  here = sym (cell-group-place s i) ∙ ap (cell s (group s i)) (sym (place_is s (place s i)))

  onward-place : (w : Way) → 0 < ahead s w i → (p : ℕ) × (p < groups s) × (onward s w i ≡ cell s (group s i) p)
  onward-place Right h =
      (row s (place s i) * s + (column s (place s i) + 1), digits_lt (row_in pos (place s i) (place_in pos i)) (omega arith), omega (arith, here))
  onward-place Left h =
      (row s (place s i) * s + (column s (place s i) - 1), digits_lt (row_in pos (place s i) (place_in pos i)) (omega (arith, column_in pos (place s i))), omega (arith, here))
  onward-place Up h = go (row s (place s i)) refl
    where
      go : (a : ℕ) → row s (place s i) ≡ a → (p : ℕ) × (p < groups s) × (onward s Up i ≡ cell s (group s i) p)
      go zero e = absurd (omega arith)
      go (suc a) e =
          (a * s + column s (place s i), digits_lt (omega (arith, row_in pos (place s i) (place_in pos i))) (column_in pos (place s i)), omega (arith, here, ap (λ (n : ℕ). n * s) e, suc-mul a s))
  onward-place Down h =
      (suc (row s (place s i)) * s + column s (place s i), digits_lt (omega arith) (column_in pos (place s i)), omega (arith, here, suc-mul (row s (place s i)) s))

  pub onward_stays : (w : Way) → 0 < ahead s w i → group s (onward s w i) ≡ group s i
  onward_stays w h = let (p, l, e) = onward-place w h in ap (group s) e ∙ group_of s (group s i) p l

  pub onward_in : (w : Way) → i < cells s → 0 < ahead s w i → onward s w i < cells s
  onward_in w l h = let (p, u, e) = onward-place w h in rw e (digits_lt (group_in pos i l) u)

  -- there is a neighbour just where the edge is not reached, and it is in the same group
  pub no_neighbour : (w : Way) → ahead s w i ≡ 0 → neighbour s w i ≡ none
  no_neighbour w h = rw (le-ltb 0 (ahead s w i) (omega arith))

  pub a_neighbour : (w : Way) → 0 < ahead s w i → neighbour s w i ≡ some (onward s w i)
  a_neighbour w h = rw (lt-ltb 0 (ahead s w i) h)

  pub neighbour_stays : (w : Way) (j : ℕ) → neighbour s w i ≡ some j → group s j ≡ group s i
  neighbour_stays w j e = go (ltb 0 (ahead s w i)) refl
    where
      go : (t : Bool) → ltb 0 (ahead s w i) ≡ t → group s j ≡ group s i
      go true h =
          let f : onward s w i ≡ j = cc (a_neighbour w (ltb-true 0 (ahead s w i) h)) in
          ap (group s) (sym f) ∙ onward_stays w (ltb-true 0 (ahead s w i) h)
      go false h = let f : ◌≡◌ {A = Option ℕ} none (some j) = sym (no_neighbour w (omega (arith, ltb-false 0 (ahead s w i) h))) ∙ e in absurd (let z : ◌≡◌ {A = ℕ} 0 1 = cc in omega arith)
