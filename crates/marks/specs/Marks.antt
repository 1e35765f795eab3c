-- Marks: 0 or 1 in each cell, and the rank that they give a marked cell.
use Rattle.std.specs.Prelude.{ℕ, suc, Bool, cond, List, [], ◌∷◌, length, nat_lt}
use Rattle.laws.specs.Sums.{sum_of}
use Rattle.answers.specs.Answers.{Case, case_of}

abbrev pub is_mark : ℕ → Bool
is_mark m = nat_lt m 2

-- the first cell, from cell i on, whose mark is neither 0 nor 1, and the end where there is none
abbrev pub first_bad : ℕ → List ℕ → ℕ
first_bad i [] = i
first_bad i (m ∷ ms) = cond (is_mark m) (first_bad (suc i) ms) i

-- 5: a mark is neither 0 nor 1, at the first such cell
abbrev pub marks_case : List ℕ → Case
marks_case marks = case_of (nat_lt (first_bad 0 marks) (length marks)) 5 (first_bad 0 marks)

-- the rank of cell i: how many cells of smaller index are marked
abbrev pub rank_in : List ℕ → ℕ → ℕ
rank_in marks i = sum_of i marks
