-- Three lanes that are those of a board: each is.
use Prim.Native.Nat.{ℕ}
use mathlib.Core.Path.{◌≡◌}
use mathlib.Core.Bool.{true}
use Rattle.laws.proofs.Bools.{both_left, both_right}
use Rattle.array.specs.Cells.{is_board}
use Rattle.array.specs.Lent.{are_slots}

pub record Boards (s a b c : ℕ) : Type 0 where
  pub words : is_board s a ≡ true
  pub marks : is_board s b ≡ true
  pub aims : is_board s c ≡ true

pub boards_known : (s a b c : ℕ) → are_slots s a b c ≡ true → Boards s a b c
boards_known s a b c h =
    let h₁ = both_right (is_board s a) _ h in
    record { words = both_left (is_board s a) _ h; marks = both_left (is_board s b) (is_board s c) h₁; aims = both_right (is_board s b) (is_board s c) h₁ }
