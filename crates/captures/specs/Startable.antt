-- A starting table that a replay goes on with.
use Rattle.std.specs.Prelude.{ℕ, ◌≤◌, ◌≡◌, true, List, length}
use Rattle.array.specs.Cells.{is_side, cells}
use Rattle.lists.specs.declared.Trip.TheVariants.{Concentrate}
use Rattle.refusals.specs.Cases.{Good}

-- one that concentrate takes, of a side that captures have
pub record Startable (s : ℕ) (words marks aims : List ℕ) : Type 0 where
  pub side : is_side s ≡ true
  pub small : s ≤ 3
  pub words_long : length words ≡ cells s
  pub marks_long : length marks ≡ cells s
  pub aims_long : length aims ≡ cells s
  pub good : Good Concentrate s marks aims
