-- What the steps of rank hand on to each other.
use Rattle.std.specs.Prelude.{ℕ, suc, ◌≤◌, ◌<◌, ◌≡◌, List, length, get_or, true}
use Rattle.laws.specs.Sums.{sum_of}
use Rattle.array.specs.Cells.{is_side, cells}

-- marks of a board, and their prefix sums
pub record Summed (marks sums : List ℕ) : Type 0 where
  pub size : length sums ≡ length marks
  pub few : length marks ≤ 4096
  pub good : (i : ℕ) → i < length marks → get_or marks i 0 < 2
  pub sums_are : (i : ℕ) → i < length marks → get_or sums i 0 ≡ sum_of (suc i) marks

-- good marks of a board
pub record GoodMarks (s : ℕ) (marks : List ℕ) : Type 0 where
  pub side : is_side s ≡ true
  pub size : length marks ≡ cells s
  pub good : (i : ℕ) → i < length marks → get_or marks i 0 < 2
