-- Marked cells counted, cell after cell.
use Prim.Native.Nat.{ℕ, ◌+◌, ◌≤◌, ◌<◌}
use mathlib.Core.Path.{◌≡◌}
use mathlib.Core.List.{List}
use native.Mathlib.Numerals.{add-one}
use native.Mathlib.Omega.{arith}
use lib.ListN.{length, get_or}
use Rattle.marks.specs.Marks.{rank_in}
use Rattle.plainrecords.specs.Inside.{BoardMarks}

-- so many of the cells before i are marked
pub record Counted (marks : List ℕ) (count i : ℕ) : Type 0 where
  pub inside : i ≤ length marks
  pub few : count ≤ i
  pub rank_is : count ≡ rank_in marks i

module _ {marks : List ℕ} where
  pub counted_next : {count i : ℕ} (v : ℕ) → BoardMarks marks → i < length marks → v ≡ get_or marks i 0 → Counted marks count i → Counted marks (count + v) (i + 1)
  counted_next {count} {i} v good h e z =
      record { inside = omega arith; few = omega (arith, good.good i h, z.few); rank_is = rw (add-one i) (omega (arith, z.rank_is)) }

  -- the rank of a cell of a board fits an aim
  pub counted_few : {count i : ℕ} → BoardMarks marks → Counted marks count i → count ≤ 4096
  counted_few good z = omega (arith, good.few, z.few, z.inside)

  pub next_few : {count i : ℕ} (v : ℕ) → BoardMarks marks → i < length marks → v ≡ get_or marks i 0 → Counted marks count i → count + v ≤ 4096
  next_few v good h e z = counted_few good (counted_next v good h e z)
