-- Six lanes that are those of a board: the side is known, and each has as many cells.
use Prim.Native.Nat.{ℕ}
use mathlib.Core.Path.{◌≡◌, refl}
use mathlib.Core.Bool.{true}
use mathlib.Core.List.{List}
use borrow.Author.Tests.{eq-eqb}
use lib.ListN.{length}
use Rattle.laws.proofs.Bools.{both_left, both_right}
use Rattle.array.specs.Cells.{is_side, cells, is_board}
use Rattle.array.specs.declared.lent.LentSlots.{LentSlots}
use Rattle.array.specs.declared.lent.LentLanes.{LentLanes}
use Rattle.array.specs.Lent.{are_lanes, slots_fit, lanes_fit}
use Rattle.light.proofs.Boards.{Boards, boards_known}
use Rattle.light.proofs.Turning.{board_side, board_cells}
use Rattle.slots.specs.Cells.{Sized}
use Rattle.slots.specs.Lanes.{LongLent}

-- what is known of lanes that are those of a board
pub record BoardLanes (s : ℕ) (l : LentLanes) : Type 0 where
  pub side : is_side s ≡ true
  pub long : LongLent (cells s) l

pub lanes_known : (s : ℕ) (l : LentLanes) → lanes_fit s l ≡ true → BoardLanes s l
lanes_known s l h =
    let fronts = slots_fit s l.front.now in
    let spares = slots_fit s l.spare.now in
    let z = slots_known l.front.now (both_left fronts spares h) in
    let z₂ = slots_known l.spare.now (both_right fronts spares h) in
    record {
      side = board_side s (length l.front.now.words.now) z.words;
      long = record {
        words = board_cells s _ z.words;
        marks = board_cells s _ z.marks;
        aims = board_cells s _ z.aims;
        words2 = board_cells s _ z₂.words;
        marks2 = board_cells s _ z₂.marks;
        aims2 = board_cells s _ z₂.aims;
      };
    }
  where
    slots_known : (t : LentSlots) → slots_fit s t ≡ true → Boards s (length t.words.now) (length t.marks.now) (length t.aims.now)
    slots_known t k = boards_known s (length t.words.now) (length t.marks.now) (length t.aims.now) k

-- and back
pub lanes_are : (s : ℕ) {w m a w₂ m₂ a₂ : List ℕ} → is_side s ≡ true → Sized (cells s) w m a w₂ m₂ a₂
    → are_lanes s (length w) (length m) (length a) (length w₂) (length m₂) (length a₂) ≡ true
lanes_are s side z =
    let b : is_board s (cells s) ≡ true = rw (side, eq-eqb (cells s) (cells s) refl) in
    rw (z.words, z.marks, z.aims, z.words2, z.marks2, z.aims2, b)
