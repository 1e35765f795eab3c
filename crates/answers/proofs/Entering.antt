-- How an entry meets its promise: refused, all is as it was; accepted, the lanes and the logs are those of its list.
use Rattle.std.proofs.Common.{◌≡◌, ℕ, ◌+◌, ◌≤◌, false, List, ◌++◌, length, drop, ap, ◌∙◌, arith, ltb-false}
use lib.ListN.{length-map}
use lib.Seq.{sets, sets-eq}
use Rattle.runs.specs.declared.Run.{Run}
use Rattle.array.specs.Moves.{code_of}
use Rattle.runs.specs.Runs.{moves, codes}
use Rattle.answers.specs.declared.Answer.{Answer}
use Rattle.answers.specs.Answers.{Case}
use Rattle.answers.specs.Answers.{accepted_by, verdict, log_case}
use Rattle.answers.specs.Entry.{Entry, in_front}

module _ {cases : List Case} {list : List Run} {Lanes Logs Kept : Type 0} {r : Answer} (e : r ≡ verdict cases (accepted_by list)) where
  pub entry_refused : (r.number ≡ 0 → ⊥) → Kept → Entry cases list Lanes Logs Kept r
  entry_refused d k = record { answer = e; lanes = λ h. absurd (d h); logs = λ h. absurd (d h); kept = λ h. k }

  pub entry_accepted : r.number ≡ 0 → Lanes → Logs → Entry cases list Lanes Logs Kept r
  entry_accepted z l g = record { answer = e; lanes = λ h. l; logs = λ h. g; kept = λ h. absurd (h z) }

-- a log that is long enough, written from its start on
pub written : (numbers log : List ℕ) → length numbers ≤ length log → sets log 0 numbers ≡ in_front numbers log
written numbers log h =
    let n : 0 + length numbers ≡ length numbers = omega arith in
    sets-eq numbers log 0 (omega arith) ∙ ap (λ (k : ℕ). numbers ++ drop k log) n

pub codes-length : (list : List Run) → length (codes list) ≡ length (moves list)
codes-length list = length-map (moves list) code_of

-- the codes of a list in a log that was not refused
pub logged : (list : List Run) (log : List ℕ) {log' : List ℕ} {runs : List Run} → (log_case list (length log)).applies ≡ false → runs ≡ list
    → log' ≡ sets log 0 (codes runs) → log' ≡ in_front (codes list) log
logged list log h f e =
    let room = ltb-false (length log) (length (moves list)) h in
    e ∙ ap (λ (rs : List Run). sets log 0 (codes rs)) f ∙ written (codes list) log (omega (arith, codes-length list, room))
