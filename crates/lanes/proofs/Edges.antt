-- There is no wrap at an edge: what a cell receives in an electronic move is the word of its neighbour the other way, and nothing where it
-- has none.
use Prim.Native.Nat.{ℕ, zero, suc, ◌+◌, ◌*◌, ◌≤◌, ◌<◌}
use mathlib.Core.Path.{◌≡◌, refl, sym, ap, ◌∙◌}
use mathlib.Core.Bool.{Bool, true, false, cond}
use mathlib.Core.Option.{none, some, map}
use native.Mathlib.Nat.{suc-mul}
use native.Mathlib.Omega.{arith}
use lib.Arith.{digits_div, digits_mod}
use lib.Dec.{ltb}
use borrow.Author.Tests.{ltb-true, ltb-false}
use Rattle.array.specs.declared.moves.Way.{Way}
use Rattle.array.specs.declared.moves.Way.TheVariants.{Right, Left, Up, Down}
use Rattle.array.specs.declared.moves.Move.TheVariants.{Electronic}
use Rattle.array.specs.Cells.{cells, place, row, column, ahead, onward, neighbour}
use Rattle.array.specs.Moves.{opposite}
use Rattle.array.proofs.Board.{no_neighbour, a_neighbour, group_of, place_of}
use Rattle.lanes.specs.Machine.{State, receive, at, value_at}
use Rattle.lanes.proofs.Coordinates.{place<, d_in, a_in, b_in, at_is}

-- a cell by its coordinates
module _ (s c d a b : ℕ) (hd : d < s) (ha : a < s) (hb : b < s) where
  place_at : place s (at s c d a b) ≡ a * s + b
  place_at = place_of s (c * s + d) (a * s + b) (place< ha hb)

  column-at : column s (place s (at s c d a b)) ≡ b
  column-at = rw place_at (digits_mod a hb)

  row_at : row s (place s (at s c d a b)) ≡ a
  row_at = rw place_at (digits_div a hb)

  value_at_lem : {A : Type 0} (σ : State A) → value_at s σ (at s c d a b) ≡ σ c d a b
  value_at_lem σ = rw (column-at, row_at, group_of s (c * s + d) (a * s + b) (place< ha hb), digits_div c hd, digits_mod c hd)

module _ {A : Type 0} (s : ℕ) (pos : 1 ≤ s) (σ : State A) where
  -- nothing from past the edge
  from-none : (w : Way) (i : ℕ) → ahead s w i ≡ 0 → none ≡ map (value_at s σ) (neighbour s w i)
  from-none w i h = sym (ap (map (value_at s σ)) (no_neighbour pos i w h))

  from_one : (w : Way) (i j : ℕ) {x : A} → 0 < ahead s w i → onward s w i ≡ j → value_at s σ j ≡ x → some x ≡ map (value_at s σ) (neighbour s w i)
  from_one w i j h e f = sym (ap (map (value_at s σ)) (a_neighbour pos i w h ∙ ap some e) ∙ ap some f)

  -- by coordinates
  received : (w : Way) (c d a b : ℕ) → d < s → a < s → b < s
      → receive s (Electronic w) σ c d a b ≡ map (value_at s σ) (neighbour s (opposite w) (at s c d a b))
  received Right c d a zero hd ha hb = from-none Left (at s c d a 0) (column-at s c d a 0 hd ha hb)
  received Right c d a (suc b) hd ha hb =
      from_one Left (at s c d a (suc b)) (at s c d a b) (rw (column-at s c d a (suc b) hd ha hb) (omega arith)) (omega arith)
      (value_at_lem s c d a b hd ha (omega arith) σ)
  received Down c d zero b hd ha hb = from-none Up (at s c d 0 b) (row_at s c d 0 b hd ha hb)
  received Down c d (suc a) b hd ha hb =
      from_one Up (at s c d (suc a) b) (at s c d a b) (rw (row_at s c d (suc a) b hd ha hb) (omega arith)) (omega (arith, suc-mul a s))
      (value_at_lem s c d a b hd (omega arith) hb σ)
  received Left c d a b hd ha hb = go (ltb (suc b) s) refl
    where
      go : (t : Bool) → ltb (suc b) s ≡ t → cond t (some (σ c d a (suc b))) none ≡ map (value_at s σ) (neighbour s Right (at s c d a b))
      go true h =
          let l = ltb-true (suc b) s h in
          from_one Right (at s c d a b) (at s c d a (suc b)) (rw (column-at s c d a b hd ha hb) (omega arith)) (omega arith)
          (value_at_lem s c d a (suc b) hd ha l σ)
      go false h =
          let l = ltb-false (suc b) s h in from-none Right (at s c d a b) (rw (column-at s c d a b hd ha hb) (omega arith))
  received Up c d a b hd ha hb = go (ltb (suc a) s) refl
    where
      go : (t : Bool) → ltb (suc a) s ≡ t → cond t (some (σ c d (suc a) b)) none ≡ map (value_at s σ) (neighbour s Down (at s c d a b))
      go true h =
          let l = ltb-true (suc a) s h in
          from_one Down (at s c d a b) (at s c d (suc a) b) (rw (row_at s c d a b hd ha hb) (omega arith)) (omega (arith, suc-mul a s))
          (value_at_lem s c d (suc a) b hd l hb σ)
      go false h =
          let l = ltb-false (suc a) s h in from-none Down (at s c d a b) (rw (row_at s c d a b hd ha hb) (omega arith))

  pub receives_neighbour : (w : Way) (i : ℕ) → i < cells s
      → value_at s (receive s (Electronic w) σ) i ≡ map (value_at s σ) (neighbour s (opposite w) i)
  receives_neighbour w i l =
      received w _ _ _ _ (d_in s i pos l) (a_in s i pos l) (b_in s i pos l)
      ∙ ap (λ (j : ℕ). map (value_at s σ) (neighbour s (opposite w) j)) (at_is s i pos l)
