-- When concentrate and distribute refuse, case by case in the order of their numbers.
use Rattle.std.specs.Prelude.{ℕ, ◌-◌, ◌<◌, ◌≡◌, Bool, false, not, ◌&&◌, ◌||◌, List, [], ◌∷◌, ◌++◌, ltb, leb, eqb, length, get_or}
use Rattle.laws.specs.Searching.{first}
use Rattle.answers.specs.Answers.{Case}
use Rattle.array.specs.declared.lent.LentSlots.{LentSlots}
use Rattle.array.specs.Cells.{is_side, is_cell}
use Rattle.answers.specs.Answers.{case_of, side_case, lane_case, log_case}
use Rattle.lists.specs.declared.Trip.{Trip}
use Rattle.lists.specs.declared.Trip.TheVariants.{Concentrate, Distribute}
use Rattle.lists.specs.Lists.{total_moves, runs_of}
use Rattle.marks.specs.Marks.{rank_in, marks_case}
use Rattle.refusals.specs.declared.Sizes.{Sizes}
use Rattle.refusals.specs.declared.Frame.{Frame}

abbrev pub marked : List ℕ → ℕ → Bool
marked marks i = eqb (get_or marks i 0) 1

-- what is wrong with cell i, by its rank, mark and aim and the aim before it. Concentrate: a marked cell's aim is not its rank.
-- Distribute: it is marked after an unmarked one, or its marked aim is no cell or not above the aim before it
abbrev pub bad_in : Trip → ℕ → ℕ → ℕ → ℕ → ℕ → ℕ → Bool
bad_in Concentrate s i rank mark aim previous = eqb mark 1 && not (eqb aim rank)
bad_in Distribute s i rank mark aim previous = eqb mark 1 && (ltb rank i || (not (is_cell s aim) || (ltb 0 i && leb aim previous)))

abbrev pub bad_aim : Trip → ℕ → List ℕ → List ℕ → ℕ → Bool
bad_aim trip s marks aims i = bad_in trip s i (rank_in marks i) (get_or marks i 0) (get_or aims i 0) (get_or aims (i - 1) 0)

-- 6: the first such cell
abbrev pub first_aim : Trip → ℕ → List ℕ → List ℕ → ℕ
first_aim trip s marks aims = first (bad_aim trip s marks aims) (length marks)

abbrev pub aims_case : Trip → ℕ → List ℕ → List ℕ → Case
aims_case trip s marks aims = case_of (ltb (first_aim trip s marks aims) (length marks)) 6 (first_aim trip s marks aims)

-- 7: a cut beyond the moves of the list
abbrev pub cut_case : ℕ → ℕ → Case
cut_case s cut = case_of (is_side s && ltb (total_moves s) cut) 7 0

-- 1 and 2, of so many marks and aims, and of the lanes that are judged by their length alone
abbrev pub lane_cases : ℕ → ℕ → ℕ → Sizes → List Case
lane_cases s marks aims n =
    side_case s ∷ lane_case s n.words ∷ lane_case s marks ∷ lane_case s aims ∷
    lane_case s n.spare_words ∷ lane_case s n.spare_marks ∷ lane_case s n.spare_aims ∷ []

-- the cases of a full run, 1, 2, 3, 5, 6, with so long logs of the codes and of the moved counts
abbrev pub full_cases : Trip → ℕ → Sizes → List ℕ → List ℕ → ℕ → ℕ → List Case
full_cases trip s n marks aims codes moved =
    lane_cases s (length marks) (length aims) n
    ++ (log_case (runs_of trip s) codes ∷ log_case (runs_of trip s) moved ∷ marks_case marks ∷ aims_case trip s marks aims ∷ [])

-- and of a cut run, 1, 2, 5, 6, 7
abbrev pub cut_cases : Trip → ℕ → ℕ → Sizes → List ℕ → List ℕ → List Case
cut_cases trip s cut n marks aims =
    lane_cases s (length marks) (length aims) n ++ (marks_case marks ∷ aims_case trip s marks aims ∷ cut_case s cut ∷ [])

-- the lengths of lanes that are lent, of the front slots and of the spare ones
abbrev pub sizes_in : LentSlots → LentSlots → Sizes
sizes_in t u = record { words = length t.words.now; spare_words = length u.words.now; spare_marks = length u.marks.now; spare_aims = length u.aims.now }

-- they are this frame
pub record Framed (s : ℕ) (t u : LentSlots) (f : Frame) : Type 0 where
  pub side : f.side ≡ s
  pub sizes : f.sizes ≡ sizes_in t u
  pub marks : f.marks.now ≡ t.marks.now
  pub aims : f.aims.now ≡ t.aims.now

-- the same cases, of a frame
abbrev pub lanes_of : Frame → List Case
lanes_of t = lane_cases t.side (length t.marks.now) (length t.aims.now) t.sizes

abbrev pub aims_of : Trip → Frame → Case
aims_of trip t = aims_case trip t.side t.marks.now t.aims.now

abbrev pub full_of : Trip → Frame → ℕ → ℕ → List Case
full_of trip t = full_cases trip t.side t.sizes t.marks.now t.aims.now

abbrev pub cut_of : Trip → ℕ → Frame → List Case
cut_of trip cut t = cut_cases trip t.side cut t.sizes t.marks.now t.aims.now

-- marks and aims that are not refused
pub record Good (trip : Trip) (s : ℕ) (marks aims : List ℕ) : Type 0 where
  pub marks_good : (i : ℕ) → i < length marks → get_or marks i 0 < 2
  pub aims_good : (i : ℕ) → i < length marks → bad_aim trip s marks aims i ≡ false
