-- A run of electronic moves on one line of cells, a row or a column of a group. Each record of the line goes by the move rule, one move after the other.
use Rattle.std.specs.Prelude.{ℕ, zero, suc, ◌+◌, ◌-◌, ◌/◌, ◌%◌, Bool, true, false, cond, not, ◌&&◌, ltb, eqb}
use Rattle.slots.specs.declared.Rec.{Rec}
use Rattle.slots.specs.declared.Cell.{Cell}
use Rattle.slots.specs.Cells.{empty, joined}
use Rattle.mesh.specs.declared.lines.LineRule.{LineRule}

-- the digit of weight u of a number in base s: of an aim it tells the cell of the line that the record heads for, of a cell which of its line it is
abbrev pub digit_of : ℕ → ℕ → ℕ → ℕ
digit_of s u x = x / u % s

-- how far off its place a record waits in move j. It goes until it is there; going late, it sets off when it is as far from its place as moves of the run are left
abbrev pub wait_of : LineRule → ℕ → ℕ
wait_of t j = cond t.late (t.times - 1 - j) 0

-- the cell of the line after move j of a record in cell p that heads for cell h
abbrev pub step_of : LineRule → ℕ → ℕ → ℕ → ℕ
step_of t h j p = cond (t.up && ltb (p + wait_of t j) h) (p + 1) (cond (t.down && ltb (h + wait_of t j) p) (p - 1) p)

-- the same after the first k moves of the run
unfoldable pub reach : LineRule → ℕ → ℕ → ℕ → ℕ
reach t h p zero = p
reach t h p (suc k) = step_of t h k (reach t h p k)

-- the cell that a record heads for, and the cell where one of cell p is once the moves are made
abbrev pub head_of : LineRule → Rec → ℕ
head_of t x = digit_of t.side t.unit x.aim

abbrev pub end_of : LineRule → ℕ → Rec → ℕ
end_of t p x = reach t (head_of t x) p t.made

-- whether a record of cell p is in another cell then
unfoldable pub leaves : LineRule → ℕ → Rec → Bool
leaves t p x = cond (eqb x.mark 0) false (not (eqb (end_of t p x) p))

-- whether none of the records S leaves the first n cells of a line
unfoldable pub none_leaves : LineRule → (ℕ → Rec) → ℕ → Bool
none_leaves t S zero = true
none_leaves t S (suc n) = none_leaves t S n && not (leaves t n (S n))

-- no record leaves its cell
abbrev pub is_still : LineRule → (ℕ → Cell) → Bool
is_still t U = none_leaves t (λ q. (U q).front) t.side && none_leaves t (λ q. (U q).spare) t.side

-- cell p once a record of cell q is put down: with it, where its way ends there
unfoldable pub landed : LineRule → ℕ → ℕ → Rec → Cell → Cell
landed t p q x c = cond (eqb (end_of t q x) p) (joined c x) c

-- what cell p holds of the records of the first q cells, each put down where its way ends
unfoldable pub gathered : LineRule → (ℕ → Cell) → ℕ → ℕ → Cell
gathered t U p zero = empty
gathered t U p (suc q) = landed t p q (U q).spare (landed t p q (U q).front (gathered t U p q))

-- cell p of a line after the moves; a line that nothing leaves is left alone
abbrev pub ran_line : LineRule → (ℕ → Cell) → ℕ → Cell
ran_line t U p = cond (is_still t U) (U p) (gathered t U p t.side)

-- 1 where a record that began the run in cell p goes in move j, else 0
unfoldable pub goes_at : LineRule → ℕ → ℕ → Rec → ℕ
goes_at t j p x = cond (eqb x.mark 0) 0 (cond (eqb (reach t (head_of t x) p (suc j)) (reach t (head_of t x) p j)) 0 1)

-- how far a record in cell p has to go that heads for cell h, of the ways that the run has
abbrev pub cells_to_go : LineRule → ℕ → ℕ → ℕ
cells_to_go t p h = cond (ltb p h) (cond t.up (h - p) 0) (cond t.down (p - h) 0)

-- 1 where a record leaves cell p that has d cells to go, else 0; and of both records of a cell
unfoldable pub went_of : LineRule → ℕ → ℕ → Rec → ℕ
went_of t d p x = cond (leaves t p x) (cond (eqb d (cells_to_go t p (head_of t x))) 1 0) 0

abbrev pub went_from : LineRule → ℕ → ℕ → Cell → ℕ
went_from t d p c = went_of t d p c.front + went_of t d p c.spare

-- whether a record goes in move j of a run of so many that had d cells to go when the run began
abbrev pub goes_in : Bool → ℕ → ℕ → ℕ → Bool
goes_in late times j d = cond late (ltb (times - 1 - j) d) (ltb j d)
