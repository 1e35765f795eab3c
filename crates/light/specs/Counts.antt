-- How many records a swap takes to another cell.
use Rattle.std.specs.Prelude.{ℕ, cond, List, get_or, eqb}
use Rattle.laws.specs.Sums.{sum}
use Rattle.array.specs.Cells.{cells, partner}

-- how many records a mark says
abbrev pub mark_count : ℕ → ℕ
mark_count mark = cond (eqb mark 0) 0 1

-- how many leave cell i for its partner p, by the cell's mark; a cell that is its own partner keeps its record
abbrev pub leaves_of : ℕ → ℕ → ℕ → ℕ
leaves_of p i mark = cond (eqb p i) 0 (mark_count mark)

-- how many leave all cells
abbrev pub leaving_of : ℕ → List ℕ → ℕ
leaving_of s marks = sum (cells s) (λ i. leaves_of (partner s i) i (get_or marks i 0))
