-- Lanes of a board, and that its cells are joined in pairs.
use Prim.Native.Nat.{ℕ}
use mathlib.Core.Path.{◌≡◌}
use mathlib.Core.Bool.{true}
use borrow.Author.Tests.{eqb-true}
use lib.Dec.{eqb}
use Rattle.laws.proofs.Bools.{both_left, both_right}
use Rattle.laws.proofs.Trading.{Paired}
use Rattle.array.specs.Cells.{is_side, cells, partner, is_board}
use Rattle.array.proofs.Board.{Side, side_known, partner_in, partner_twice}

pub board_side : (s n : ℕ) → is_board s n ≡ true → is_side s ≡ true
board_side s n h = both_left (is_side s) (eqb n (cells s)) h

pub board_known : (s n : ℕ) → is_board s n ≡ true → Side s
board_known s n h = side_known s (board_side s n h)

pub board_cells : (s n : ℕ) → is_board s n ≡ true → n ≡ cells s
board_cells s n h = eqb-true n (cells s) (both_right (is_side s) (eqb n (cells s)) h)

pub paired : (s : ℕ) → Side s → Paired (cells s) (partner s)
paired s h = record { inside = partner_in h.least; twice = partner_twice h.least }
