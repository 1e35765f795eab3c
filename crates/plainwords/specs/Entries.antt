-- What each plain entry on words answers and leaves, for every input: the cases of the stepping entry without its log's, its counts and its result.
use Rattle.std.specs.Prelude.{◌≡◌, ℕ, List, length, ℤ}
use Rattle.laws.specs.Lent.{Lent, old, new, Kept}
use Rattle.answers.specs.declared.Answer.{Answer}
use Rattle.answers.specs.Answers.{Case}
use Rattle.runs.specs.declared.Run.{Run}
use Rattle.shiftlists.specs.declared.Axis.{Axis}
use Rattle.shiftlists.specs.declared.Edge.{Edge}
use Rattle.lists.specs.Lists.{broadcast_runs, data_sum_runs, prefix_sum_runs}
use Rattle.shiftlists.specs.Shifts.{shift_runs}
use Rattle.answers.specs.Answers.{without_logs}
use Rattle.answers.specs.Entry.{Unlogged}
use Rattle.spreads.specs.Results.{broadcast_words, data_sum_words}
use Rattle.prefix.specs.Results.{prefix_sum_words}
use Rattle.shifts.specs.Results.{shift_words}
use Rattle.words.specs.Entries.{broadcast_cases, sum_cases, shift_cases}

-- by the stepping entry's table of cases, its list and its result
abbrev pub PlainWords : (ℕ → ℕ → List Case) → List Run → (List ℕ → List ℕ) → Lent → Answer → Type 0
PlainWords cases list result words =
    Unlogged (without_logs (cases (length (old words)) 0)) list (new words ≡ result (old words)) (Kept words)

abbrev pub PlainBroadcast : ℕ → ℕ → Lent → Answer → Type 0
PlainBroadcast s i = PlainWords (broadcast_cases s i) (broadcast_runs s i) (broadcast_words s i)

abbrev pub PlainDataSum : ℕ → Lent → Answer → Type 0
PlainDataSum s = PlainWords (sum_cases s (data_sum_runs s)) (data_sum_runs s) (data_sum_words s)

abbrev pub PlainPrefixSum : ℕ → Lent → Answer → Type 0
PlainPrefixSum s = PlainWords (sum_cases s (prefix_sum_runs s)) (prefix_sum_runs s) (prefix_sum_words s)

abbrev pub PlainShift : ℕ → Axis → Edge → ℤ → Lent → Answer → Type 0
PlainShift s axis edge k = PlainWords (shift_cases s axis edge k) (shift_runs s axis edge k) (shift_words s axis edge k)
