-- Checks one behind the other: where one passes the cases behind it decide, and where one refuses that is the answer.
use Rattle.std.proofs.Common.{◌≡◌, true, List, [], ◌∷◌, ◌++◌, refl, sym, ap, ◌∙◌, arith}
use Rattle.std.specs.Option.{ok_or}
use Rattle.std.specs.Prelude.{Option, None, Result, Ok, Err, IsOk}
use Rattle.answers.specs.declared.Answer.{Answer}
use Rattle.answers.specs.declared.Moves.{Moves}
use Rattle.answers.specs.declared.Refusal.{Refusal}
use Rattle.answers.specs.declared.Refusal.TheVariants.{Side, Lane, Log, Argument, Mark, Aim, Cut, Job, Capture}
use Rattle.answers.specs.Answers.{Case, accepted, refusing, verdict, number_of, answer_of}
use Rattle.answers.specs.Judged.{Judged, answer_behind}
use Rattle.answers.proofs.Verdicts.{NoneApplies, all_refuse, none_applies}

pub verdict-append : (cs ds : List Case) (a : Answer) → verdict (cs ++ ds) a ≡ verdict cs (verdict ds a)
verdict-append [] ds a = refl
verdict-append (c ∷ cs) ds a = ap (refusing c) (verdict-append cs ds a)

module _ {cs : List Case} {r : Result (Unit {0}) Refusal} (j : Judged cs r) where
  pub behind : (ds : List Case) (a : Answer) → verdict (cs ++ ds) a ≡ answer_behind r (verdict ds a)
  behind ds a = verdict-append cs ds a ∙ j.so (verdict ds a)

  pub passed : {u : Unit {0}} → r ≡ Ok u → (ds : List Case) (a : Answer) → verdict (cs ++ ds) a ≡ verdict ds a
  passed e ds a = behind ds a ∙ ap (λ (x : Result (Unit {0}) Refusal). answer_behind x (verdict ds a)) e

  -- a check that passes says that no case of it applies
  pub none_judged : {u : Unit {0}} → all_refuse cs ≡ true → r ≡ Ok u → NoneApplies cs
  none_judged n e =
      let nothing : Answer = accepted 0 0 in
      none_applies cs nothing n (ap (λ (x : Answer). x.number) (j.so nothing ∙ ap (λ (x : Result (Unit {0}) Refusal). answer_behind x nothing) e))

-- what a `?` behind `ok_or` returns
pub none_refused : {T U : Type 0} {o : Option T} {x y z : Refusal} {r : Result U Refusal} → r ≡ Err z → z ≡ y
    → ◌≡◌ {A = Result T Refusal} (Err y) (ok_or o x) → o ≡ None → r ≡ Err x
none_refused {T} {x = x} {y = y} e f v n =
    let w : ◌≡◌ {A = Result T Refusal} (Err y) (Err x) = rw n at v in
    let g : y ≡ x = cc in
    rw (e, f, g)

-- a refusal has a number
pub refuses : (x : Refusal) → number_of x ≡ 0 → ⊥
refuses Side h = omega arith
refuses Lane h = omega arith
refuses Log h = omega arith
refuses Argument h = omega arith
refuses (Mark i) h = omega arith
refuses (Aim i) h = omega arith
refuses Cut h = omega arith
refuses (Job l) h = omega arith
refuses (Capture l) h = omega arith

pub refusal_numbered : {r : Result Moves Refusal} {x : Refusal} → r ≡ Err x → (answer_of r).number ≡ 0 → ⊥
refusal_numbered {x = x} e h = refuses x (sym (ap (λ (r : Result Moves Refusal). (answer_of r).number) e) ∙ h)

-- so what has none is accepted
pub accepted_ok : (r : Result Moves Refusal) → (answer_of r).number ≡ 0 → IsOk r
accepted_ok (Ok n) h = refl
accepted_ok (Err e) h = absurd (refuses e h)

-- and an answer with moves has none
pub accepts : {r : Result Moves Refusal} {m : Moves} → r ≡ Ok m → (answer_of r).number ≡ 0
accepts e = ap (λ (r : Result Moves Refusal). (answer_of r).number) e
