-- Two outcomes that a contract allows for one input are the same: both refuse or both accept, with one answer.
use Rattle.std.proofs.Common.{◌≡◌, ℕ, List, sym, ap, ◌∙◌, ⊎_elim}
use denote.Ref.{at_last}
use Rattle.laws.specs.Lent.{Lent}
use Rattle.laws.proofs.Deciding.{same?}
use Rattle.runs.specs.declared.Run.{Run}
use Rattle.answers.specs.declared.Answer.{Answer}
use Rattle.answers.specs.Answers.{Case}
use Rattle.answers.specs.Entry.{Entry}

-- the same loan, with these numbers in it afterwards. Of a loan a contract reads what it held and what it holds, and no more
abbrev pub left_with : Lent → List ℕ → Lent
left_with l numbers = record { entry = l.entry; exit = at_last l.exit numbers }

module _ {cases : List Case} {list : List Run} {Lanes Lanes' Logs Logs' Kept Kept' : Type 0} {r r' : Answer}
    (z : Entry cases list Lanes Logs Kept r) (z' : Entry cases list Lanes' Logs' Kept' r') where
  pub same_answer : r ≡ r'
  same_answer = z.answer ∙ sym z'.answer

  -- so what holds of two accepted outcomes, and of two refused ones, holds
  pub same_outcome : {Same : Type 0} → (r.number ≡ 0 → Lanes → Lanes' → Logs → Logs' → Same) → (Kept → Kept' → Same) → (r ≡ r') × Same
  same_outcome accepted refused =
      let n : r.number ≡ r'.number = ap (λ (x : Answer). x.number) same_answer in (
        same_answer,
        ⊎_elim
            (λ h. accepted h (z.lanes h) (z'.lanes (sym n ∙ h)) (z.logs h) (z'.logs (sym n ∙ h)))
            (λ d. refused (z.kept d) (z'.kept (λ h. d (n ∙ h))))
            (same? r.number 0),
      )
