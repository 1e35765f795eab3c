-- The stretch of words of a group, and when it is refused.
use Rattle.std.specs.Prelude.{ℕ, cond, not, List, [], ◌∷◌, ltb, eqb, length, take, drop}
use Rattle.answers.specs.declared.Answer.{Answer}
use Rattle.answers.specs.Answers.{Case}
use Rattle.array.specs.Cells.{groups, cell}
use Rattle.runs.specs.Runs.{no_runs}
use Rattle.answers.specs.Answers.{accepted_by, case_of, verdict, side_case, lane_case}

-- 4: there is no such group
abbrev pub group_case : ℕ → ℕ → Case
group_case s g = case_of (not (ltb g (groups s))) 4 0

-- the cases of a group's stretch, 1, 2 and 4, of a lane of n words
abbrev pub group_cases : ℕ → ℕ → ℕ → List Case
group_cases s g n = side_case s ∷ lane_case s n ∷ group_case s g ∷ []

-- no move is made
abbrev pub group_answer : ℕ → ℕ → ℕ → Answer
group_answer s g n = verdict (group_cases s g n) (accepted_by no_runs)

-- the stretch of group g, and an empty one where the answer refuses
abbrev pub group_words : ℕ → ℕ → List ℕ → List ℕ
group_words s g words = cond (eqb (group_answer s g (length words)).number 0) (take (groups s) (drop (cell s g 0) words)) []
