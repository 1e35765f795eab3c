-- The table of a shift: it has a number for each position of a line.
use Rattle.std.specs.Prelude.{◌≡◌, ℕ, ◌≤◌, List, length, slice_index}

-- a table names a position for each of eight, or none
pub record Names (from : List ℕ) : Type 0 where
  pub long : length from ≡ 8
  pub few : (p : ℕ) → slice_index from p ≤ 8
