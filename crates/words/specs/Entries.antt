-- What each entry answers and leaves, for every input.
use Rattle.std.specs.Prelude.{ℕ, ◌≡◌, List, [], ◌∷◌, ℤ, length}
use Rattle.laws.specs.Lent.{Lent, old, new, Kept}
use Rattle.answers.specs.declared.Answer.{Answer}
use Rattle.answers.specs.Answers.{Case}
use Rattle.runs.specs.declared.Run.{Run}
use Rattle.shiftlists.specs.declared.Axis.{Axis}
use Rattle.shiftlists.specs.declared.Edge.{Edge}
use Rattle.lists.specs.Lists.{broadcast_runs, data_sum_runs, prefix_sum_runs}
use Rattle.shiftlists.specs.Cases.{distance_case}
use Rattle.shiftlists.specs.Shifts.{shift_runs}
use Rattle.answers.specs.Answers.{side_case, lane_case, log_case, cell_case}
use Rattle.answers.specs.Entry.{Entry, CodesLogged}
use Rattle.spreads.specs.Results.{broadcast_words, data_sum_words}
use Rattle.prefix.specs.Results.{prefix_sum_words}
use Rattle.shifts.specs.Results.{shift_words}

-- the tables of cases, by side, argument, the length of the lane and that of the log: of broadcast, 1, 2, 3, 4
abbrev pub broadcast_cases : ℕ → ℕ → ℕ → ℕ → List Case
broadcast_cases s i n log = side_case s ∷ lane_case s n ∷ log_case (broadcast_runs s i) log ∷ cell_case s i ∷ []

-- of a sum whose list is this one, 1, 2, 3
abbrev pub sum_cases : ℕ → List Run → ℕ → ℕ → List Case
sum_cases s list n log = side_case s ∷ lane_case s n ∷ log_case list log ∷ []

-- and of a shift, 1, 2, 3, 4
abbrev pub shift_cases : ℕ → Axis → Edge → ℤ → ℕ → ℕ → List Case
shift_cases s axis edge k n log = side_case s ∷ lane_case s n ∷ log_case (shift_runs s axis edge k) log ∷ distance_case s k ∷ []

-- an entry on words, by its table of cases, its list and its result
abbrev pub OnWords : (ℕ → ℕ → List Case) → List Run → (List ℕ → List ℕ) → Lent → Lent → Answer → Type 0
OnWords cases list result words log =
    Entry (cases (length (old words)) (length (old log))) list (new words ≡ result (old words)) (CodesLogged list log) (Kept words × Kept log)

abbrev pub Broadcast : ℕ → ℕ → Lent → Lent → Answer → Type 0
Broadcast s i = OnWords (broadcast_cases s i) (broadcast_runs s i) (broadcast_words s i)

abbrev pub DataSum : ℕ → Lent → Lent → Answer → Type 0
DataSum s = OnWords (sum_cases s (data_sum_runs s)) (data_sum_runs s) (data_sum_words s)

abbrev pub PrefixSum : ℕ → Lent → Lent → Answer → Type 0
PrefixSum s = OnWords (sum_cases s (prefix_sum_runs s)) (prefix_sum_runs s) (prefix_sum_words s)

abbrev pub Shift : ℕ → Axis → Edge → ℤ → Lent → Lent → Answer → Type 0
Shift s axis edge k = OnWords (shift_cases s axis edge k) (shift_runs s axis edge k) (shift_words s axis edge k)
