-- How two engines agree: by one table of cases, with the logs' cases and without them.
use mathlib.Core.Path.{◌≡◌, refl, sym, ap, ◌∙◌, subst}
use mathlib.Core.Bool.{Bool, true, false, ◌&&◌}
use mathlib.Core.List.{List, [], ◌∷◌}
use Rattle.runs.specs.declared.Run.{Run}
use Rattle.answers.specs.declared.Answer.{Answer}
use Rattle.answers.specs.Answers.{Case}
use Rattle.answers.specs.Answers.{accepted_by, verdict, without_logs}
use Rattle.answers.specs.Entry.{Entry, Unlogged}
use Rattle.answers.proofs.Lowest.{ascending}
use Rattle.answers.proofs.Outcomes.{same_outcome}
use Rattle.answers.proofs.Verdicts.{all_refuse}
use Rattle.engines.specs.Engines.{comes_later, EnginesAgree}
use Rattle.engines.proofs.Unlogged.{logs_pass, behind_logs, Overtaken, without_logs_lem, logs_short}

-- a table with one log
pub and_true : (b : Bool) → (b && true) ≡ b
and_true true = refl
and_true false = refl

-- of the numbers above 3 no case applies but those that come later: a bad argument, 4, has the empty list, and for that every log has room
abbrev pub LaterAlone : List Case → Type 0
LaterAlone [] = Unit {0}
LaterAlone (c ∷ cs) = (c.applies ≡ true → behind_logs c.number ≡ comes_later c.number) × LaterAlone cs

later_alone : (cs : List Case) (a : Answer) → a.number ≡ 0 → LaterAlone cs → behind_logs (verdict cs a).number ≡ comes_later (verdict cs a).number
later_alone [] a z l = rw z
later_alone (c ∷ cs) a z l = go c.applies refl (later_alone cs a z l.1)
  where
    go : (t : Bool) → c.applies ≡ t → behind_logs (verdict cs a).number ≡ comes_later (verdict cs a).number
        → behind_logs (verdict (c ∷ cs) a).number ≡ comes_later (verdict (c ∷ cs) a).number
    go true e deeper = rw e (l.0 e)
    go false e deeper = rw e deeper

-- a table of cases of which those of the logs apply where there is no room
pub record WithLogs (room : Bool) (cs : List Case) : Type 0 where
  pub ascends : ascending cs ≡ true
  pub refuses : all_refuse cs ≡ true
  pub logs : logs_pass cs ≡ room
  pub later : room ≡ false → LaterAlone (without_logs cs)

module _ {room : Bool} {cs plain : List Case} {list : List Run} {Lanes Lanes' Logs Kept Kept' Same : Type 0} {r p : Answer} (t : WithLogs room cs) (same : without_logs cs ≡ plain)
    (z : Entry cs list Lanes Logs Kept r) (z' : Unlogged plain list Lanes' Kept' p)
    (accepted : r.number ≡ 0 → Lanes → Lanes' → Same) (refused : Kept → Kept' → Same) where
  abbrev given : Answer
  given = accepted_by list

  plainly : p ≡ verdict (without_logs cs) given
  plainly = z'.answer ∙ ap (λ (k : List Case). verdict k given) (sym same)

  -- with one answer both accept or both refuse
  both : r ≡ p → (r ≡ p) × Same
  both e =
      let by_table : Entry cs list Lanes' (Unit {0}) Kept' p = record { answer = sym e ∙ z.answer; lanes = z'.lanes; logs = z'.logs; kept = z'.kept } in
      same_outcome z by_table (λ h l l' _ _. accepted h l l') refused

  -- without room a case of number 3 applies
  short : room ≡ false → Overtaken r p
  short h = rw (z.answer, plainly) (logs_short cs given refl t.ascends t.refuses (t.logs ∙ h))

  later_is : room ≡ false → behind_logs p.number ≡ comes_later p.number
  later_is h = rw plainly (later_alone (without_logs cs) given refl (t.later h))

  pub engines_agree : EnginesAgree room r p Same
  engines_agree = record {
    with_room = λ h. both (z.answer ∙ without_logs_lem cs given (t.logs ∙ h) ∙ sym plainly);
    three = λ h. (short h).three ∙ later_is h;
    others = λ h k. both ((short h).others (later_is h ∙ k));
  }

-- two outcomes of a plain entry on the same input
pub plain-same : {cs cs' : List Case} {list : List Run} {Lanes Lanes' Kept Kept' Same : Type 0} {p p' : Answer} → cs ≡ cs'
    → Unlogged cs list Lanes Kept p → Unlogged cs' list Lanes' Kept' p' → (p.number ≡ 0 → Lanes → Lanes' → Same) → (Kept → Kept' → Same) → (p ≡ p') × Same
plain-same {list = list} {Lanes' = Lanes'} {Kept' = Kept'} {p' = p'} e z z' accepted refused =
    same_outcome z (subst (λ (k : List Case). Unlogged k list Lanes' Kept' p') (sym e) z') (λ h l l' _ _. accepted h l l') refused
