-- What the plain entries on records answer and leave, for every input: the cases of the stepping entry without its logs', its counts, and the table at the end.
use Rattle.std.specs.Prelude.{ℕ, ◌<◌, ◌≡◌, List, length}
use Rattle.laws.specs.Lent.{Lent, old, new, Kept}
use Rattle.array.specs.Lent.{PassedLanes, of_lanes}
use Rattle.array.specs.Cells.{cells}
use Rattle.answers.specs.declared.Answer.{Answer}
use Rattle.answers.specs.Answers.{without_logs}
use Rattle.answers.specs.Entry.{Unlogged}
use Rattle.lists.specs.declared.Trip.{Trip}
use Rattle.lists.specs.Lists.{prefix_sum_runs, runs_of}
use Rattle.slots.specs.declared.Cell.{Cell}
use Rattle.slots.specs.Lanes.{cells_after}
use Rattle.ranking.specs.Ranks.{ranks}
use Rattle.ranking.specs.Entries.{rank_cases}
use Rattle.refusals.specs.Cases.{full_cases}
use Rattle.records.specs.Entries.{sizes_of, Unchanged}
use Rattle.plainrecords.specs.Tables.{end_table}

-- the aims become the ranks
abbrev pub PlainRank : ℕ → List ℕ → Lent → Answer → Type 0
PlainRank s marks aims =
    Unlogged (without_logs (rank_cases s marks (length (old aims)) 0)) (prefix_sum_runs s) (new aims ≡ ranks s marks) (Kept aims)

-- the cells of a board are these
pub record TableIs (s : ℕ) (T T' : ℕ → Cell) : Type 0 where
  pub each : (j : ℕ) → j < cells s → T' j ≡ T j

-- every record is where the trip ends
abbrev pub PlainRun : Trip → ℕ → (w m a w₂ m₂ a₂ : Lent) → Answer → Type 0
PlainRun trip s w m a w₂ m₂ a₂ =
    Unlogged
    (without_logs (full_cases trip s (sizes_of (old w) (old w₂) (old m₂) (old a₂)) (old m) (old a) 0 0))
    (runs_of trip s)
    (TableIs s (end_table trip s (old w) (old m) (old a)) (cells_after w m a w₂ m₂ a₂))
    (Unchanged w m a w₂ m₂ a₂)

-- the same of lanes that are lent as one
abbrev pub PlainRunLent : Trip → ℕ → PassedLanes → Answer → Type 0
PlainRunLent trip s lanes r = of_lanes (λ w m a w₂ m₂ a₂. PlainRun trip s w m a w₂ m₂ a₂ r) lanes
