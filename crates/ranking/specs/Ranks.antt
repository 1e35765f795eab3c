-- What rank writes.
use Rattle.std.specs.Prelude.{ℕ, ◌-◌, cond, List, eqb, get_or}
use Rattle.laws.specs.Tables.{entries}
use Rattle.array.specs.Cells.{cells}
use Rattle.marks.specs.Marks.{rank_in}

-- the aim of cell i: its rank where it is marked, and else 0
abbrev pub aim_in : List ℕ → ℕ → ℕ
aim_in marks i = cond (eqb (get_or marks i 0) 1) (rank_in marks i) 0

abbrev pub ranks : ℕ → List ℕ → List ℕ
ranks s marks = entries (aim_in marks) 0 (cells s)

-- what a cell makes of its mark and of the prefix sum of the marks, which counts itself: one is taken off
abbrev pub aim_of : ℕ → ℕ → ℕ
aim_of mark sum = cond (eqb mark 1) (sum - 1) 0
