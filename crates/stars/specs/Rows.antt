-- The row of a bench case, worked out in two ways: by the results that the contracts cite, and by the moves, made one after the other.
use Rattle.std.specs.Prelude.{ℕ, ◌+◌, ◌-◌, List, [], ◌∷◌, ◌++◌, map, ℤ, length, get_or}
use Rattle.laws.specs.Tables.{entries}
use Rattle.answers.specs.declared.Answer.{Answer}
use Rattle.runs.specs.declared.Run.{Run}
use Rattle.array.specs.Cells.{cells}
use Rattle.runs.specs.Runs.{moves, swaps_in, codes as codes_of}
use Rattle.lists.specs.declared.Trip.{Trip}
use Rattle.lists.specs.declared.Trip.TheVariants.{Concentrate as concentrate, Distribute as distribute}
use Rattle.lists.specs.Lists.{total_moves, data_sum_runs, prefix_sum_runs, runs_of}
use Rattle.shiftlists.specs.Shifts.{distance_of, shift_runs}
use Rattle.shiftlists.specs.declared.Axis.{Axis}
use Rattle.shiftlists.specs.declared.Edge.{Edge}
use Rattle.answers.specs.Answers.{verdict, accepted_by}
use Rattle.lanes.specs.Machine.{load, unload, made, stage_runs as program_runs}
use Rattle.lanes.specs.Stages.{front}
use Rattle.spreads.specs.Programs.{data_sum}
use Rattle.spreads.specs.Results.{data_sum_words}
use Rattle.prefix.specs.Programs.{prefix_sum, prefixed}
use Rattle.prefix.specs.Results.{prefix_sum_words}
use Rattle.shifts.specs.Programs.{shift, shifted_by}
use Rattle.shifts.specs.Results.{shift_words}
use Rattle.words.specs.Entries.{sum_cases, shift_cases}
use Rattle.slots.specs.declared.Cell.{Cell}
use Rattle.slots.specs.Cells.{empty, joined, cell_at}
use Rattle.mesh.specs.Lines.{reach, leaves, none_leaves, landed, gathered, goes_at}
use Rattle.mesh.specs.Mesh.{ran_on}
use Rattle.mover.specs.Runs.{swapped, made_of, after, moved_log}
use Rattle.course.specs.Showing.{content_of}
use Rattle.clearing.specs.Cleared.{kept}
use Rattle.ranking.specs.Programs.{ranked_marks}
use Rattle.ranking.specs.Ranks.{ranks}
use Rattle.refusals.specs.declared.Sizes.{Sizes}
use Rattle.refusals.specs.Cases.{full_cases}
use Rattle.records.specs.Records.{marked_cell, count_in, record_of, cell_of, moved_counts}
use Rattle.stars.specs.Cases.{StarCase, Concentrate, Distribute, PrefixSum, DataSum, Shift}

-- the lanes of a board, cell by cell
pub record Lanes : Type 0 where
  pub words : List ℕ
  pub marks : List ℕ
  pub aims : List ℕ
  pub spare_words : List ℕ
  pub spare_marks : List ℕ
  pub spare_aims : List ℕ

-- the answer; the codes of the moves; how many records each move takes to another cell; the lanes, of concentrate and distribute after
-- move 1 and at the end, of the others the words at the end
pub record Row : Type 0 where
  pub answer : Answer
  pub codes : List ℕ
  pub moved : List ℕ
  pub states : List Lanes

abbrev pub lanes_of : List Cell → Lanes
lanes_of cs =
    record {
      words = map (λ c. c.front.word) cs;
      marks = map (λ c. c.front.mark) cs;
      aims = map (λ c. c.front.aim) cs;
      spare_words = map (λ c. c.spare.word) cs;
      spare_marks = map (λ c. c.spare.mark) cs;
      spare_aims = map (λ c. c.spare.aim) cs;
    }

abbrev pub words_only : List ℕ → Lanes
words_only words = record { words = words; marks = []; aims = []; spare_words = []; spare_marks = []; spare_aims = [] }

-- the answer to concentrate, or distribute, with n cells in each spare lane and m entries in each log
abbrev pub sizes : List ℕ → ℕ → Sizes
sizes words n = record { words = length words; spare_words = n; spare_marks = n; spare_aims = n }

abbrev pub records_answer : Trip → ℕ → (n m : ℕ) → List ℕ → List ℕ → List ℕ → Answer
records_answer trip s n m words marks aims = verdict (full_cases trip s (sizes words n) marks aims m m) (accepted_by (runs_of trip s))

-- the answer to a sum with this list, and to a shift, of n words and a log of so many entries
abbrev pub sum_answer : ℕ → List Run → ℕ → ℕ → Answer
sum_answer s list n log = verdict (sum_cases s list n log) (accepted_by list)

abbrev pub shift_answer : ℕ → Axis → Edge → ℤ → ℕ → ℕ → Answer
shift_answer s axis edge k n log = verdict (shift_cases s axis edge k n log) (accepted_by (shift_runs s axis edge k))

-- the row of concentrate, or distribute, with its moved counts and what the cells hold after k moves
abbrev pub records_row : Trip → ℕ → List ℕ → List ℕ → List ℕ → List ℕ → (ℕ → ℕ → Cell) → Row
records_row trip s words marks aims moved T =
    record {
      answer = records_answer trip s (cells s) (total_moves s) words marks aims;
      codes = codes_of (runs_of trip s);
      moved = moved;
      states = map (λ k. lanes_of (entries (T k) 0 (cells s))) (1 ∷ total_moves s ∷ []);
    }

-- the row of an operation on words, with its answer to a log of so many entries, its moves and the words at the end
abbrev pub words_row : (ℕ → Answer) → List Run → List ℕ → Row
words_row answer rs words =
    record { answer = answer (length (moves rs)); codes = codes_of rs; moved = []; states = words_only words ∷ [] }

-- concentrate, or distribute, by the contracts: every cell holds the records that stand there
unfoldable pub standing : Trip → ℕ → List ℕ → List ℕ → List ℕ → Row
unfolding content_of joined marked_cell
standing trip s words marks aims =
    records_row trip s words marks aims (moved_counts trip s (total_moves s) marks aims)
    (λ k. content_of (count_in s marks) (record_of trip s words marks aims) (cell_of trip s marks aims k))

-- the cells of a board, written down
abbrev pub look : List Cell → ℕ → Cell
look cs i = get_or cs i empty

abbrev pub written : ℕ → (ℕ → Cell) → ℕ → Cell
written s T = look (entries T 0 (cells s))

-- the cells after the first k moves of a list, and the log of these moves: run after run, and the cells written down after each
abbrev pub after_runs : Trip → ℕ → List Run → ℕ → ℕ → (ℕ → Cell) → ℕ → Cell
after_runs trip s [] swaps k T = T
after_runs trip s (r ∷ rs) swaps k T =
    after_runs trip s rs (swaps + swaps_in r.step (made_of r k)) (k - made_of r k) (written s (after trip s (r ∷ []) swaps k T))

abbrev pub log_of_runs : Trip → ℕ → List Run → ℕ → ℕ → (ℕ → Cell) → List ℕ
log_of_runs trip s [] swaps k T = []
log_of_runs trip s (r ∷ rs) swaps k T =
    moved_log trip s (r ∷ []) swaps k T
    ++ log_of_runs trip s rs (swaps + swaps_in r.step (made_of r k)) (k - made_of r k) (written s (after trip s (r ∷ []) swaps k T))

-- the same move by move, from lanes whose unmarked cells were cleared
unfoldable pub moving : Trip → ℕ → List ℕ → List ℕ → List ℕ → Row
unfolding after moved_log swapped ran_on gathered landed none_leaves leaves goes_at reach joined
moving trip s words marks aims = from (cell_at (kept marks words) marks (kept marks aims) [] [] [])
  where
    from : (ℕ → Cell) → Row
    from T =
        records_row trip s words marks aims (log_of_runs trip s (runs_of trip s) 0 (total_moves s) T)
        (λ k. after_runs trip s (runs_of trip s) 0 k T)

-- by the results that the contracts cite
abbrev pub result_row : StarCase → Row
result_row (Concentrate s words marks) = standing concentrate s words marks (ranks s marks)
result_row (Distribute s words marks aims) = standing distribute s words marks aims
result_row (PrefixSum s words) = words_row (sum_answer s (prefix_sum_runs s) (length words)) (prefix_sum_runs s) (prefix_sum_words s words)
result_row (DataSum s words) = words_row (sum_answer s (data_sum_runs s) (length words)) (data_sum_runs s) (data_sum_words s words)
result_row (Shift s axis edge k words) =
    words_row (shift_answer s axis edge k (length words)) (shift_runs s axis edge k) (shift_words s axis edge k words)

-- by the moves, made one after the other
unfoldable pub moved_row : StarCase → Row
unfolding front
moved_row (Concentrate s words marks) = moving concentrate s words marks (unload s (ranked_marks s (load s marks)))
moved_row (Distribute s words marks aims) = moving distribute s words marks aims
moved_row (PrefixSum s words) =
    words_row (sum_answer s (prefix_sum_runs s) (length words)) (program_runs (prefix_sum s)) (unload s (prefixed s (load s words)))
moved_row (DataSum s words) =
    words_row (sum_answer s (data_sum_runs s) (length words)) (program_runs (data_sum s)) (unload s (made s (data_sum s) (load s words)))
moved_row (Shift s axis edge k words) =
    words_row (shift_answer s axis edge k (length words)) (program_runs (shift s axis edge (distance_of k)))
    (unload s (shifted_by s axis edge (distance_of k) (load s words)))
