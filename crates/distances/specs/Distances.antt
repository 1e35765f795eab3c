-- How far the records of a run have to go: the greatest distance on a line, and on the board.
use Rattle.std.specs.Prelude.{ℕ, zero, suc, max, cond, eqb}
use Rattle.array.specs.Cells.{cells}
use Rattle.slots.specs.declared.Rec.{Rec}
use Rattle.slots.specs.declared.Cell.{Cell}
use Rattle.mesh.specs.declared.Leg.{Leg}
use Rattle.mesh.specs.Lines.{head_of, cells_to_go}
use Rattle.mesh.specs.Mesh.{line_rule_of, spot_of}

-- the greatest of f 0 to f (n - 1), 0 where there is none
unfoldable pub greatest : ℕ → (ℕ → ℕ) → ℕ
greatest zero f = 0
greatest (suc n) f = max (greatest n f) (f n)

-- how far a record in cell p of its line has to go in the run of a leg, 0 where the slot is empty
abbrev pub far_of : Leg → ℕ → Rec → ℕ
far_of l p x = cond (eqb x.mark 0) 0 (cells_to_go (line_rule_of l) p (head_of (line_rule_of l) x))

-- the same of both records of a cell: the greater
abbrev pub far_in : Leg → ℕ → Cell → ℕ
far_in l p c = max (far_of l p c.front) (far_of l p c.spare)

-- the greatest distance on a line
abbrev pub farthest_on : Leg → (ℕ → Cell) → ℕ
farthest_on l U = greatest l.side (λ p. far_in l p (U p))

-- the greatest distance on the board
abbrev pub farthest : Leg → (ℕ → Cell) → ℕ
farthest l T = greatest (cells l.side) (λ i. far_in l (spot_of (line_rule_of l) i) (T i))
