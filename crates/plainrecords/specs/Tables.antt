-- The tables that concentrate and distribute leave, cell by cell.
use Rattle.std.specs.Prelude.{ℕ, cond, List, ltb, eqb, get_or}
use Rattle.laws.specs.Searching.{first}
use Rattle.array.specs.Cells.{cells}
use Rattle.lists.specs.declared.Trip.{Trip}
use Rattle.lists.specs.declared.Trip.TheVariants.{Concentrate, Distribute}
use Rattle.slots.specs.declared.Cell.{Cell}
use Rattle.slots.specs.Cells.{empty, alone}
use Rattle.records.specs.Records.{marked_cell, count_in}

-- a cell with a record of this word, aimed at the cell itself
abbrev pub alone_at : ℕ → ℕ → Cell
alone_at word j = alone (record { word = word; mark = 1; aim = j })

-- concentrate, of b marked cells: cell j, j < b, holds the word of rank j, mark 1, aim j; all other cells hold 0 in every lane
abbrev pub concentrated : ℕ → List ℕ → List ℕ → ℕ → Cell
concentrated s words marks j = cond (ltb j (count_in s marks)) (alone_at (get_or words (marked_cell marks (cells s) j) 0) j) empty

-- the first of b cells whose aim is j, and b where there is none
abbrev pub aiming_at : List ℕ → ℕ → ℕ → ℕ
aiming_at aims b j = first (λ r. eqb (get_or aims r 0) j) b

-- distribute: a cell that is aimed at holds the word of the marked cell that aims at it, mark 1 and the aim; all other cells hold 0 in every lane
abbrev pub distributed : ℕ → List ℕ → List ℕ → List ℕ → ℕ → Cell
distributed s words marks aims j =
    cond (ltb (aiming_at aims (count_in s marks) j) (count_in s marks)) (alone_at (get_or words (aiming_at aims (count_in s marks) j) 0) j) empty

-- the table at the end of a trip
abbrev pub end_table : Trip → ℕ → List ℕ → List ℕ → List ℕ → ℕ → Cell
end_table Concentrate s words marks aims = concentrated s words marks
end_table Distribute s words marks aims = distributed s words marks aims
