-- No two refusals have the same number and place, and no two results the same answer: what is said of an answer is said of the result.
use Rattle.std.proofs.Common.{◌≡◌, refl, sym, ap, ◌∙◌}
use Rattle.std.specs.Prelude.{Result, Ok, Err, cond, ◌==◌}
use Rattle.answers.specs.declared.Answer.{Answer}
use Rattle.answers.specs.declared.Moves.{Moves}
use Rattle.answers.specs.declared.Refusal.{Refusal}
use Rattle.answers.specs.declared.Refusal.TheVariants.{Side, Lane, Log, Argument, Mark, Aim, Cut, Job, Capture}
use Rattle.answers.specs.Answers.{refused, number_of, place_of, answer_of}
use Rattle.answers.proofs.Judging.{refuses}

-- the refusal that a number and a place name
abbrev pub refusal_in : Answer → Refusal
refusal_in a =
    cond (a.number == 1) Side
    (cond (a.number == 2) Lane
    (cond (a.number == 3) Log
    (cond (a.number == 4) Argument
    (cond (a.number == 5) (Mark a.place)
    (cond (a.number == 6) (Aim a.place) (cond (a.number == 7) Cut (cond (a.number == 8) (Job a.place) (Capture a.place))))))))

pub named : (x : Refusal) → refusal_in (refused (number_of x) (place_of x)) ≡ x
named Side = refl
named Lane = refl
named Log = refl
named Argument = refl
named (Mark i) = refl
named (Aim i) = refl
named Cut = refl
named (Job l) = refl
named (Capture l) = refl

pub same_refusal : (x y : Refusal) → refused (number_of x) (place_of x) ≡ refused (number_of y) (place_of y) → x ≡ y
same_refusal x y e = sym (named x) ∙ ap refusal_in e ∙ named y

-- the moves of an accepted answer
abbrev moves_in : Answer → Moves
moves_in a = record { electronic = a.electronic; swaps = a.swaps }

pub same_result : (r r' : Result Moves Refusal) → answer_of r ≡ answer_of r' → r ≡ r'
same_result (Ok m) (Ok n) e = ap (λ (a : Answer). Ok (moves_in a)) e
same_result (Ok m) (Err y) e = absurd (refuses y (sym (ap (λ (a : Answer). a.number) e)))
same_result (Err x) (Ok n) e = absurd (refuses x (ap (λ (a : Answer). a.number) e))
same_result (Err x) (Err y) e = ap Err (same_refusal x y e)
