-- The records that concentrate and distribute move, and where each stands.
use Rattle.std.specs.Prelude.{ℕ, zero, suc, ◌-◌, cond, List, eqb, get_or}
use Rattle.laws.specs.Tables.{entries}
use Rattle.array.specs.Cells.{cells}
use Rattle.lists.specs.declared.Trip.{Trip}
use Rattle.lists.specs.declared.Trip.TheVariants.{Concentrate, Distribute}
use Rattle.lists.specs.Lists.{total_moves}
use Rattle.travel.specs.Travel.{stands}
use Rattle.slots.specs.declared.Rec.{Rec}
use Rattle.slots.specs.Cells.{record_in}
use Rattle.course.specs.Showing.{changed}
use Rattle.marks.specs.Marks.{rank_in}
use Rattle.refusals.specs.Cases.{marked}

-- the marked cell of rank r, of the cells below n
unfoldable pub marked_cell : List ℕ → ℕ → ℕ → ℕ
marked_cell marks zero r = 0
marked_cell marks (suc n) r = cond (marked marks n) (cond (eqb (rank_in marks n) r) n (marked_cell marks n r)) (marked_cell marks n r)

-- how many records there are
abbrev pub count_in : ℕ → List ℕ → ℕ
count_in s marks = rank_in marks (cells s)

-- record r: in concentrate that of the marked cell of rank r, and in distribute that of cell r
abbrev pub record_of : Trip → ℕ → List ℕ → List ℕ → List ℕ → ℕ → Rec
record_of Concentrate s words marks aims r = record_in words marks aims (marked_cell marks (cells s) r)
record_of Distribute s words marks aims r = record_in words marks aims r

-- where record r stands after k moves; in distribute where concentrate from the cells that the aims name has it with k moves to go
abbrev pub cell_of : Trip → ℕ → List ℕ → List ℕ → ℕ → ℕ → ℕ
cell_of Concentrate s marks aims k r = stands s k r (marked_cell marks (cells s) r)
cell_of Distribute s marks aims k r = stands s (total_moves s - k) r (get_or aims r 0)

-- how many records each of the first n moves takes to another cell
abbrev pub moved_counts : Trip → ℕ → ℕ → List ℕ → List ℕ → List ℕ
moved_counts trip s n marks aims = entries (λ k. changed (count_in s marks) (cell_of trip s marks aims k) (cell_of trip s marks aims (suc k))) 0 n
