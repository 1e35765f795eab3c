-- What every entry promises, by its table of cases and its move list.
use Rattle.std.specs.Prelude.{◌≡◌, ℕ, List, ◌++◌, length, drop, ◌≢◌}
use Rattle.laws.specs.Lent.{Lent, old, new}
use Rattle.runs.specs.declared.Run.{Run}
use Rattle.runs.specs.Runs.{codes}
use Rattle.answers.specs.declared.Answer.{Answer}
use Rattle.answers.specs.Answers.{Case}
use Rattle.answers.specs.Answers.{verdict, accepted_by}

-- the answer is the verdict of the cases, with the counts of the list; accepted, the lanes and the logs are these; refused, all is as it was
pub record Entry (cases : List Case) (list : List Run) (Lanes Logs Kept : Type 0) (r : Answer) : Type 0 where
  pub answer : r ≡ verdict cases (accepted_by list)
  pub lanes : r.number ≡ 0 → Lanes
  pub logs : r.number ≡ 0 → Logs
  pub kept : (r.number ≢ 0) → Kept

-- an entry without logs
abbrev pub Unlogged : List Case → List Run → (Lanes Kept : Type 0) → Answer → Type 0
Unlogged cases list Lanes Kept = Entry cases list Lanes (Unit {0}) Kept

-- a log with these numbers in front, and its tail as it was
abbrev pub in_front : List ℕ → List ℕ → List ℕ
in_front numbers log = numbers ++ drop (length numbers) log

-- these numbers were written into a log
abbrev pub LogWritten : List ℕ → Lent → Type 0
LogWritten numbers log = new log ≡ in_front numbers (old log)

-- the codes of a list were
abbrev pub CodesLogged : List Run → Lent → Type 0
CodesLogged list log = LogWritten (codes list) log
