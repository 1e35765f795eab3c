-- What an entry answers: the first of its cases that applies, or that it was accepted.
use Rattle.std.specs.Prelude.{ℕ, ◌%◌, ◌^◌, Bool, cond, not, List, [], ◌∷◌, length, ◌==◌, nat_lt, Result, Ok, Err}
use Rattle.answers.specs.declared.Answer.{Answer}
use Rattle.answers.specs.declared.Moves.{Moves}
use Rattle.answers.specs.declared.Refusal.{Refusal}
use Rattle.answers.specs.declared.Refusal.TheVariants.{Side, Lane, Log, Argument, Mark, Aim, Cut, Job, Capture}
use Rattle.runs.specs.declared.Run.{Run}
use Rattle.array.specs.Cells.{is_side, is_cell, cells}
use Rattle.runs.specs.Runs.{moves, electronic, swaps}

abbrev pub refused : ℕ → ℕ → Answer
refused number place = record { number = number; place = place; electronic = 0; swaps = 0 }

abbrev pub accepted : ℕ → ℕ → Answer
accepted electronic swaps = record { number = 0; place = 0; electronic = electronic; swaps = swaps }

-- the number of a refusal, and the place that it names, or 0
abbrev pub number_of : Refusal → ℕ
number_of Side = 1
number_of Lane = 2
number_of Log = 3
number_of Argument = 4
number_of (Mark i) = 5
number_of (Aim i) = 6
number_of Cut = 7
number_of (Job l) = 8
number_of (Capture l) = 10

abbrev pub place_of : Refusal → ℕ
place_of Side = 0
place_of Lane = 0
place_of Log = 0
place_of Argument = 0
place_of (Mark i) = i
place_of (Aim i) = i
place_of Cut = 0
place_of (Job l) = l
place_of (Capture l) = l

-- what an entry returns, as an answer
abbrev pub answer_of : Result Moves Refusal → Answer
answer_of (Ok m) = accepted m.electronic m.swaps
answer_of (Err e) = refused (number_of e) (place_of e)

-- the answer of a list that was made; a count takes 64 bits
abbrev pub accepted_by : List Run → Answer
accepted_by rs = accepted (electronic rs % 2 ^ 64) (swaps rs % 2 ^ 64)

-- a case: whether it applies, and the number and the place of its refusal
pub record Case : Type 0 where
  pub applies : Bool
  pub number : ℕ
  pub place : ℕ

abbrev pub case_of : Bool → ℕ → ℕ → Case
case_of applies number place = record { applies = applies; number = number; place = place }

-- the answer of a case that applies, and else another
abbrev pub refusing : Case → Answer → Answer
refusing c otherwise = cond c.applies (refused c.number c.place) otherwise

-- the first case that applies, and else the accepted answer
abbrev pub verdict : List Case → Answer → Answer
verdict [] otherwise = otherwise
verdict (c ∷ cs) otherwise = refusing c (verdict cs otherwise)

-- 1: the side is not 1 to 8
abbrev pub side_case : ℕ → Case
side_case s = case_of (not (is_side s)) 1 0

-- 2: a lane is not exactly s⁴ long
abbrev pub lane_case : ℕ → ℕ → Case
lane_case s n = case_of (not (n == cells s)) 2 0

-- 3: a log is shorter than the move list
abbrev pub log_case : List Run → ℕ → Case
log_case rs n = case_of (nat_lt n (length (moves rs))) 3 0

-- 4: there is no such cell
abbrev pub cell_case : ℕ → ℕ → Case
cell_case s i = case_of (not (is_cell s i)) 4 0

-- a table of cases without its logs' cases, of an entry that is lent none
abbrev pub without_logs : List Case → List Case
without_logs [] = []
without_logs (c ∷ cs) = cond (c.number == 3) (without_logs cs) (c ∷ without_logs cs)
