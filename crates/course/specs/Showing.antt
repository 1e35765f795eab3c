-- Records standing in cells: what the cells hold where record k of b stands in cell pos k.
use Rattle.std.specs.Prelude.{ℕ, zero, suc, ◌<◌, ◌≡◌, cond, eqb}
use Rattle.laws.specs.Sums.{sum}
use Rattle.array.specs.Cells.{cells}
use Rattle.slots.specs.declared.Rec.{Rec}
use Rattle.slots.specs.declared.Cell.{Cell}
use Rattle.slots.specs.Cells.{empty, joined}

-- what cell j holds, of records R 0 to R (b - 1)
unfoldable pub content_of : ℕ → (ℕ → Rec) → (ℕ → ℕ) → ℕ → Cell
content_of zero R pos j = empty
content_of (suc b) R pos j = cond (eqb (pos b) j) (joined (content_of b R pos j) (R b)) (content_of b R pos j)

-- the cells of a board hold just these records
pub record Shows (s b : ℕ) (R : ℕ → Rec) (pos : ℕ → ℕ) (T : ℕ → Cell) : Type 0 where
  pub shown : (j : ℕ) → j < cells s → T j ≡ content_of b R pos j

-- how many of b records are in another cell afterwards
abbrev pub changed : ℕ → (ℕ → ℕ) → (ℕ → ℕ) → ℕ
changed b pos post = sum b (λ r. cond (eqb (pos r) (post r)) 0 1)
