-- What the program writes for a text: the answer to a job, or the one line of a refusal.
use Rattle.std.specs.Prelude.{ℕ, suc, cond, List, Ok, Err, map, length, get_or, eqb}
use Rattle.laws.specs.Sums.{sum}
use Rattle.laws.specs.Tables.{entries}
use Rattle.runs.specs.Runs.{codes}
use Rattle.lists.specs.Lists.{concentrate_runs}
use Rattle.travel.specs.Travel.{concentrate_moves, stands}
use Rattle.answers.specs.Answers.{number_of, place_of}
use Rattle.jobtext.specs.declared.CellWord.{CellWord}
use Rattle.jobtext.specs.Verdicts.{TextVerdict}
use Rattle.answertext.specs.Answers.{answer_text, refused_text}

-- the cell of the record of rank r, and the words in the order of the ranks: the marked cells of a job stand in order
abbrev pub home_of : List CellWord → ℕ → ℕ
home_of es r = get_or (map (λ e. e.index) es) r 0

abbrev pub words_in : List CellWord → List ℕ
words_in es = map (λ e. e.word) es

-- how many records change cell in move k of concentrate
abbrev pub moved_in : ℕ → List CellWord → ℕ → ℕ
moved_in s es k = sum (length es) (λ r. cond (eqb (stands s k r (home_of es r)) (stands s (suc k) r (home_of es r))) 0 1)

-- the moved counts of all its moves
abbrev pub job_counts : ℕ → List CellWord → List ℕ
job_counts s es = entries (moved_in s es) 0 (length (concentrate_moves s))

-- the output of a verdict: of a job the moves of concentrate, and its records in their order
unfoldable pub output_of : TextVerdict → List ℕ
output_of (Ok t) = answer_text (codes (concentrate_runs t.side)) (job_counts t.side t.marked) (words_in t.marked)
output_of (Err e) = refused_text (number_of e) (place_of e)
