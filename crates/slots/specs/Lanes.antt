-- Six lanes that a function is lent, in its contract by their names alone: the cells that they held, and the cells that they hold.
use Rattle.std.specs.Prelude.{ℕ}
use Rattle.laws.specs.Lent.{Slice, Lent, old, new}
use Rattle.array.specs.declared.lent.LentSlots.{LentSlots}
use Rattle.array.specs.declared.lent.LentLanes.{LentLanes}
use Rattle.slots.specs.declared.Rec.{Rec}
use Rattle.slots.specs.declared.Cell.{Cell}
use Rattle.slots.specs.Cells.{record_in, cell_at, Sized}

-- what cell i held before, and what it holds
abbrev pub cells_before : Lent → Lent → Lent → Lent → Lent → Lent → ℕ → Cell
cells_before w m a w₂ m₂ a₂ = cell_at (old w) (old m) (old a) (old w₂) (old m₂) (old a₂)

abbrev pub cells_after : Lent → Lent → Lent → Lent → Lent → Lent → ℕ → Cell
cells_after w m a w₂ m₂ a₂ = cell_at (new w) (new m) (new a) (new w₂) (new m₂) (new a₂)

-- what a promise about two tables says of lent lanes: the cells before, and the cells after
abbrev pub FromTo : ((ℕ → Cell) → (ℕ → Cell) → Type 0) → Lent → Lent → Lent → Lent → Lent → Lent → Type 0
FromTo P w m a w₂ m₂ a₂ = P (cells_before w m a w₂ m₂ a₂) (cells_after w m a w₂ m₂ a₂)

-- six lanes of n cells
abbrev pub Long : ℕ → Slice → Slice → Slice → Slice → Slice → Slice → Type 0
Long n w m a w₂ m₂ a₂ = Sized n w.now m.now a.now w₂.now m₂.now a₂.now

-- the same of lanes that are lent slot by slot: the record in cell i, what the cell holds, and that they have n cells
abbrev pub records_in : LentSlots → ℕ → Rec
records_in t = record_in t.words.now t.marks.now t.aims.now

abbrev pub cells_in : LentSlots → LentSlots → ℕ → Cell
cells_in f s i = record { front = records_in f i; spare = records_in s i }

abbrev pub LongSlots : ℕ → LentSlots → LentSlots → Type 0
LongSlots n f s = Long n f.words f.marks f.aims s.words s.marks s.aims

-- and of all six at once
abbrev pub lent_cells : LentLanes → ℕ → Cell
lent_cells l = cells_in l.front.now l.spare.now

abbrev pub LongLent : ℕ → LentLanes → Type 0
LongLent n l = LongSlots n l.front.now l.spare.now
