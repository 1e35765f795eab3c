-- There is no wrap at an edge: a record that moves goes to its neighbour, and at the edge of its group it stays.
use Prim.Native.Nat.{ℕ, ◌≤◌, ◌<◌}
use mathlib.Core.Path.{◌≡◌, refl}
use mathlib.Core.Bool.{Bool, true, false}
use mathlib.Core.Option.{some}
use native.Mathlib.Omega.{arith}
use lib.Dec.{ltb}
use borrow.Author.Tests.{ltb-true, le-ltb}
use Rattle.array.specs.declared.moves.Way.{Way}
use Rattle.array.specs.declared.moves.Way.TheVariants.{Right, Left, Up, Down}
use Rattle.array.specs.Cells.{groups, place, ahead, neighbour}
use Rattle.array.proofs.Board.{a_neighbour, column_in, row_in}
use Rattle.travel.specs.Travel.{distance, toward}
use Rattle.travel.proofs.Walk.{going}

module _ (s : ℕ) (pos : 1 ≤ s) (h i : ℕ) (inside : h < groups s) where
  -- no place of the group lies further that way than its edge
  distance-ahead : (w : Way) → distance s w h (place s i) ≤ ahead s w i
  distance-ahead Right = omega (arith, column_in pos h)
  distance-ahead Left = omega arith
  distance-ahead Up = omega arith
  distance-ahead Down = omega (arith, row_in pos h inside)

  -- also where it waits, as in distribute
  pub going_to_neighbour : (w : Way) (wait : ℕ) → (going s w wait h i ≡ i → ⊥) → neighbour s w i ≡ some (going s w wait h i)
  going_to_neighbour w wait goes = go (ltb wait (distance s w h (place s i))) refl
    where
      go : (t : Bool) → ltb wait (distance s w h (place s i)) ≡ t → neighbour s w i ≡ some (going s w wait h i)
      go true e =
          let far = ltb-true wait (distance s w h (place s i)) e in
          rw e (a_neighbour pos i w (omega (arith, distance-ahead w)))
      go false e = absurd (goes (rw e))

  pub goes_to_neighbour : (w : Way) → (toward s w h i ≡ i → ⊥) → neighbour s w i ≡ some (toward s w h i)
  goes_to_neighbour w = going_to_neighbour w 0

  pub edge_stays : (w : Way) → ahead s w i ≡ 0 → toward s w h i ≡ i
  edge_stays w e = rw (le-ltb 0 (distance s w h (place s i)) (omega (arith, distance-ahead w)))
