-- What a replay answers: the first move at which a capture leaves the rule, that it ends early, or that all agrees; or a refusal.
use Rattle.std.specs.Prelude.{Result, Ok, Err, ℕ, zero, suc, ◌-◌, List, [], ◌∷◌, ◌++◌, Bool, true, false, cond, ◌&&◌, length, get_or, eqb}
use Rattle.runs.specs.Runs.{codes}
use Rattle.lists.specs.declared.Trip.TheVariants.{Concentrate}
use Rattle.lists.specs.Lists.{total_moves, concentrate_runs}
use Rattle.array.specs.Cells.{cells}
use Rattle.slots.specs.declared.Rec.{Rec}
use Rattle.slots.specs.declared.Cell.{Cell}
use Rattle.course.specs.Showing.{content_of}
use Rattle.records.specs.Records.{count_in, record_of, cell_of}
use Rattle.answers.specs.Answers.{Case}
use Rattle.answers.specs.Answers.{case_of, side_case, lane_case}
use Rattle.marks.specs.Marks.{marks_case}
use Rattle.refusals.specs.Cases.{aims_case}
use Rattle.captures.specs.declared.Held.{Held}
use Rattle.answers.specs.declared.Refusal.{Refusal}
use Rattle.answers.specs.declared.Refusal.TheVariants.{Side, Lane, Mark, Aim, Capture}
use Rattle.captures.specs.declared.Replayed.{Replayed}
use Rattle.captures.specs.declared.Replayed.TheVariants.{Agrees, Differs, Early}
use Rattle.captures.specs.Captures.{held_of, Captured, CaptureVerdict, is_capture, no_capture, capture_verdict}

-- the record in a slot of a cell, where there is one
abbrev pub held_in : ℕ → ℕ → Rec → List Held
held_in cell slot x = cond (eqb x.mark 0) [] (held_of cell slot x.word x.aim ∷ [])

-- the records in the cells below n, in their order
unfoldable pub held_below : (ℕ → Cell) → ℕ → List Held
held_below T zero = []
held_below T (suc i) = held_below T i ++ (held_in i 0 (T i).front ++ held_in i 1 (T i).spare)

-- what cell j holds after so many moves of concentrate, as its runs up to a cut leave it (`records`, `Stood`)
abbrev pub state_after : ℕ → List ℕ → List ℕ → List ℕ → ℕ → ℕ → Cell
state_after s words marks aims made = content_of (count_in s marks) (record_of Concentrate s words marks aims) (cell_of Concentrate s marks aims made)

-- the records after them
abbrev pub records_after : ℕ → List ℕ → List ℕ → List ℕ → ℕ → List Held
records_after s words marks aims made = held_below (state_after s words marks aims made) (cells s)

-- the code of move number m of the list, from 1
abbrev pub code_at : ℕ → ℕ → ℕ
code_at s number = get_or (codes (concentrate_runs s)) (number - 1) 0

-- the same cell, slot, word and aim
abbrev pub same_held : Held → Held → Bool
same_held x y = eqb x.cell y.cell && (eqb x.slot y.slot && (eqb x.word y.word && eqb x.aim y.aim))

-- the same records, all of them and no others
unfoldable pub same_records : List Held → List Held → Bool
same_records [] [] = true
same_records [] (y ∷ ys) = false
same_records (x ∷ xs) [] = false
same_records (x ∷ xs) (y ∷ ys) = same_held x y && same_records xs ys

-- a captured move has the list's code and leaves the rule's records
abbrev pub agrees_at : ℕ → List ℕ → List ℕ → List ℕ → ℕ → Captured → Bool
agrees_at s words marks aims number m = eqb m.code (code_at s number) && same_records m.records (records_after s words marks aims number)

-- the moves behind so many that agree, up to the first that does not; without one, a capture that does not have the whole list ends early
unfoldable pub compared : ℕ → List ℕ → List ℕ → List ℕ → ℕ → List Captured → Replayed
compared s words marks aims made [] = cond (eqb made (total_moves s)) Agrees (Early made)
compared s words marks aims made (m ∷ ms) =
    cond (agrees_at s words marks aims (suc made) m) (compared s words marks aims (suc made) ms) (Differs (suc made))

-- 10: the capture, at its first bad line
abbrev pub capture_case : CaptureVerdict → Case
capture_case (is_capture hs ms) = case_of false 10 0
capture_case (no_capture k) = case_of true 10 k

-- the cases of the starting table, 1, 2, 5 and 6
abbrev pub start_cases : ℕ → List ℕ → List ℕ → List ℕ → List Case
start_cases s words marks aims =
    side_case s ∷ lane_case s (length words) ∷ lane_case s (length marks) ∷ lane_case s (length aims) ∷ marks_case marks ∷ aims_case Concentrate s marks aims ∷ []

-- and of a replay
abbrev pub replay_cases : ℕ → List ℕ → List ℕ → List ℕ → CaptureVerdict → List Case
replay_cases s words marks aims v = start_cases s words marks aims ++ (capture_case v ∷ [])

-- the moves of a capture that is one
abbrev pub moves_in : CaptureVerdict → List Captured
moves_in (is_capture hs ms) = ms
moves_in (no_capture k) = []

-- the refusal of a case that applies, and else what follows
abbrev pub unless_applies : Case → Refusal → Result Replayed Refusal → Result Replayed Refusal
unless_applies c refusal otherwise = cond c.applies (Err refusal) otherwise

-- a capture that is none is refused at its first bad line; else its moves are compared
abbrev pub capture_by : ℕ → List ℕ → List ℕ → List ℕ → CaptureVerdict → Result Replayed Refusal
capture_by s words marks aims (is_capture hs ms) = Ok (compared s words marks aims 0 ms)
capture_by s words marks aims (no_capture k) = Err (Capture k)

-- what a starting table and a verdict on a capture come to: the refusal of the first case that applies, and else what comparing the moves gives
unfoldable pub replay_by : ℕ → List ℕ → List ℕ → List ℕ → CaptureVerdict → Result Replayed Refusal
replay_by s words marks aims v =
    unless_applies (side_case s) Side
    (unless_applies (lane_case s (length words)) Lane
    (unless_applies (lane_case s (length marks)) Lane
    (unless_applies (lane_case s (length aims)) Lane
    (unless_applies (marks_case marks) (Mark (marks_case marks).place)
    (unless_applies (aims_case Concentrate s marks aims) (Aim (aims_case Concentrate s marks aims).place)
    (capture_by s words marks aims v))))))

abbrev pub replay_of : ℕ → List ℕ → List ℕ → List ℕ → List ℕ → Result Replayed Refusal
replay_of s words marks aims capture = replay_by s words marks aims (capture_verdict s capture)
