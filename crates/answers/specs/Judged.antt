-- What a check says: it refuses by the first of its cases that applies, and passes where none does.
use Rattle.std.specs.Prelude.{◌≡◌, List, Result, Ok, Err}
use Rattle.answers.specs.declared.Answer.{Answer}
use Rattle.answers.specs.declared.Refusal.{Refusal}
use Rattle.answers.specs.Answers.{Case, refused, number_of, place_of, verdict}

-- the answer behind a check: its refusal, and else another
abbrev pub answer_behind : Result (Unit {0}) Refusal → Answer → Answer
answer_behind (Ok u) otherwise = otherwise
answer_behind (Err e) otherwise = refused (number_of e) (place_of e)

pub record Judged (cases : List Case) (r : Result (Unit {0}) Refusal) : Type 0 where
  pub so : (otherwise : Answer) → verdict cases otherwise ≡ answer_behind r otherwise
