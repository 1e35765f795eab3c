-- What C gets of a replay: which case it is, and its numbers; a number that a case does not have is 0.
use Rattle.std.specs.Prelude.{Result, Ok, Err}
use Rattle.answers.specs.declared.Refusal.{Refusal}
use Rattle.answers.specs.Answers.{number_of, place_of}
use Rattle.captures.specs.declared.Replayed.{Replayed}
use Rattle.captures.specs.declared.Replayed.TheVariants.{Agrees, Differs, Early}
use Rattle.otis.specs.declared.Outcome.{Outcome}

abbrev pub outcome_of : Result Replayed Refusal → Outcome
outcome_of (Ok Agrees) = record { outcome = 0; step = 0; number = 0; place = 0 }
outcome_of (Ok (Differs m)) = record { outcome = 1; step = m; number = 0; place = 0 }
outcome_of (Ok (Early m)) = record { outcome = 2; step = m; number = 0; place = 0 }
outcome_of (Err e) = record { outcome = 3; step = 0; number = number_of e; place = place_of e }
