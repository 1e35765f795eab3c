-- The contract of rank.
use Rattle.std.specs.Prelude.{ℕ, ◌≡◌, List, [], ◌∷◌, length}
use Rattle.laws.specs.Lent.{Lent, old, new, Kept}
use Rattle.answers.specs.declared.Answer.{Answer}
use Rattle.answers.specs.Answers.{Case}
use Rattle.lists.specs.Lists.{prefix_sum_runs}
use Rattle.answers.specs.Answers.{side_case, lane_case, log_case}
use Rattle.answers.specs.Entry.{Entry, CodesLogged}
use Rattle.marks.specs.Marks.{marks_case}
use Rattle.ranking.specs.Ranks.{ranks}

-- the cases of rank, 1, 2, 3 and 5, of marks, so many aims and so long a log
abbrev pub rank_cases : ℕ → List ℕ → ℕ → ℕ → List Case
rank_cases s marks aims log =
    side_case s ∷ lane_case s (length marks) ∷ lane_case s aims ∷ log_case (prefix_sum_runs s) log ∷ marks_case marks ∷ []

-- the aims become the ranks
abbrev pub Ranked : ℕ → List ℕ → Lent → Lent → Answer → Type 0
Ranked s marks aims codes =
    Entry (rank_cases s marks (length (old aims)) (length (old codes))) (prefix_sum_runs s)
    (new aims ≡ ranks s marks) (CodesLogged (prefix_sum_runs s) codes) (Kept aims × Kept codes)
