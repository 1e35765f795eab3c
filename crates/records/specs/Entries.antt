-- What the entries promise of the lanes and logs that were lent, all of it.
use Rattle.std.specs.Prelude.{ℕ, ◌≡◌, List, length}
use Rattle.laws.specs.Lent.{Lent, old, Kept}
use Rattle.answers.specs.declared.Answer.{Answer}
use Rattle.answers.specs.Entry.{Entry, Unlogged, LogWritten, CodesLogged}
use Rattle.array.specs.Lent.{PassedLanes, of_lanes}
use Rattle.light.specs.Lanes.{table_before, table_after}
use Rattle.slots.specs.declared.Cell.{Cell}
use Rattle.slots.specs.Lanes.{cells_after}
use Rattle.lists.specs.declared.Trip.{Trip}
use Rattle.lists.specs.Lists.{total_moves, runs_of}
use Rattle.course.specs.Showing.{Shows}
use Rattle.refusals.specs.declared.Sizes.{Sizes}
use Rattle.refusals.specs.Cases.{full_cases, cut_cases}
use Rattle.refusals.specs.Cuts.{first_runs}
use Rattle.records.specs.Records.{count_in, record_of, cell_of, moved_counts}

-- after n moves every cell holds the records that stand there
abbrev pub Stood : Trip → ℕ → ℕ → List ℕ → List ℕ → List ℕ → (ℕ → Cell) → Type 0
Stood trip s n words marks aims T = Shows s (count_in s marks) (record_of trip s words marks aims) (cell_of trip s marks aims n) T

-- the lengths of the lanes that are judged by their length alone
abbrev pub sizes_of : (w w₂ m₂ a₂ : List ℕ) → Sizes
sizes_of w w₂ m₂ a₂ = record { words = length w; spare_words = length w₂; spare_marks = length m₂; spare_aims = length a₂ }

-- six lanes hold what they held
abbrev pub Unchanged : (w m a w₂ m₂ a₂ : Lent) → Type 0
Unchanged w m a w₂ m₂ a₂ = table_after w m a w₂ m₂ a₂ ≡ table_before w m a w₂ m₂ a₂

-- a full run
abbrev pub FullRun : Trip → ℕ → (w m a w₂ m₂ a₂ codes moved : Lent) → Answer → Type 0
FullRun trip s w m a w₂ m₂ a₂ codes moved =
    Entry
    (full_cases trip s (sizes_of (old w) (old w₂) (old m₂) (old a₂)) (old m) (old a) (length (old codes)) (length (old moved)))
    (runs_of trip s)
    (Stood trip s (total_moves s) (old w) (old m) (old a) (cells_after w m a w₂ m₂ a₂))
    (CodesLogged (runs_of trip s) codes × LogWritten (moved_counts trip s (total_moves s) (old m) (old a)) moved)
    (Unchanged w m a w₂ m₂ a₂ × (Kept codes × Kept moved))

-- a run up to a cut, without logs
abbrev pub CutRun : Trip → ℕ → ℕ → (w m a w₂ m₂ a₂ : Lent) → Answer → Type 0
CutRun trip s cut w m a w₂ m₂ a₂ =
    Unlogged
    (cut_cases trip s cut (sizes_of (old w) (old w₂) (old m₂) (old a₂)) (old m) (old a))
    (first_runs cut (runs_of trip s))
    (Stood trip s cut (old w) (old m) (old a) (cells_after w m a w₂ m₂ a₂))
    (Unchanged w m a w₂ m₂ a₂)

-- the same of lanes that are lent as one
abbrev pub FullRunLent : Trip → ℕ → PassedLanes → (codes moved : Lent) → Answer → Type 0
FullRunLent trip s lanes codes moved r = of_lanes (λ w m a w₂ m₂ a₂. FullRun trip s w m a w₂ m₂ a₂ codes moved r) lanes

abbrev pub CutRunLent : Trip → ℕ → ℕ → PassedLanes → Answer → Type 0
CutRunLent trip s cut lanes r = of_lanes (λ w m a w₂ m₂ a₂. CutRun trip s cut w m a w₂ m₂ a₂ r) lanes
