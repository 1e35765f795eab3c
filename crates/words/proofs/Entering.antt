-- Where an entry accepts, the lane holds the result and the log the codes.
use Prim.Native.Nat.{ℕ}
use mathlib.Core.Path.{◌≡◌}
use mathlib.Core.Bool.{true}
use mathlib.Core.List.{List, ◌∷◌}
use lib.ListN.{length}
use lib.Seq.{sets}
use borrow.Author.Tests.{eq-eqb}
use Rattle.answers.specs.declared.Answer.{Answer}
use Rattle.answers.specs.Answers.{Case}
use Rattle.runs.specs.declared.Run.{Run}
use Rattle.array.specs.Cells.{cells, is_board}
use Rattle.runs.specs.Runs.{codes}
use Rattle.answers.specs.Answers.{accepted_by, verdict, side_case, lane_case, log_case}
use Rattle.answers.specs.Entry.{Entry, in_front}
use Rattle.answers.proofs.Verdicts.{NoneApplies, all_refuse, none_refuses, side_built, lane_whole}
use Rattle.answers.proofs.Entering.{entry_accepted, logged}

-- the table of cases of an entry on words, with what it has behind 1, 2 and 3
abbrev table : ℕ → List Run → List Case → ℕ → ℕ → List Case
table s list rest n log = side_case s ∷ lane_case s n ∷ log_case list log ∷ rest

module _ (s : ℕ) (list : List Run) (rest : List Case) (words log result : List ℕ) where
  pub on_words : {words' log' : List ℕ} {runs : List Run} {K : Type 0} {r : Answer} → all_refuse rest ≡ true
      → r ≡ verdict (table s list rest (length words) (length log)) (accepted_by list) → r.number ≡ 0
      → (is_board s (length words) ≡ true → NoneApplies rest → words' ≡ result) → runs ≡ list → log' ≡ sets log 0 (codes runs)
      → Entry (table s list rest (length words) (length log)) list (words' ≡ result) (log' ≡ in_front (codes list) log) K r
  on_words all e z x f g =
      let k = none_refuses (table s list rest (length words) (length log)) (accepted_by list) all e z in
      let board : is_board s (length words) ≡ true = rw (side_built s k.0) (eq-eqb (length words) (cells s) (lane_whole s (length words) k.1.0)) in
      entry_accepted e z (x board k.1.1.1) (logged list log k.1.1.0 f g)
