-- What the program writes for a job and a capture: one line.
use Rattle.std.specs.Prelude.{ℕ, List, [], ◌∷◌, Result, Ok, Err, replicate}
use Rattle.texts.specs.Bytes.{bytes}
use Rattle.array.specs.Cells.{cells}
use Rattle.printing.specs.Printed.{decimal, line}
use Rattle.answers.specs.declared.Refusal.{Refusal}
use Rattle.answers.specs.Answers.{number_of, place_of}
use Rattle.jobtext.specs.declared.CellWord.{CellWord}
use Rattle.jobtext.specs.Verdicts.{TextVerdict, text_verdict}
use Rattle.jobtext.specs.Lanes.{with_cells}
use Rattle.answertext.specs.Answers.{refused_text}
use Rattle.ranking.specs.Ranks.{ranks}
use Rattle.captures.specs.declared.Replayed.{Replayed}
use Rattle.captures.specs.declared.Replayed.TheVariants.{Agrees, Differs, Early}
use Rattle.captures.specs.Replays.{replay_of}

-- the line of a replay, and of one that is refused
unfoldable pub replayed_line : Replayed → List ℕ
replayed_line Agrees = line (bytes "agrees" ∷ [])
replayed_line (Differs m) = line (bytes "differs" ∷ decimal m ∷ [])
replayed_line (Early m) = line (bytes "early" ∷ decimal m ∷ [])

unfoldable pub replay_line : Result Replayed Refusal → List ℕ
replay_line (Ok x) = replayed_line x
replay_line (Err e) = refused_text (number_of e) (place_of e)

-- a lane of the table that a job starts from: the values of its marked cells, and 0 elsewhere
abbrev pub start_lane : (CellWord → ℕ) → ℕ → List CellWord → List ℕ
start_lane value s es = with_cells value es (replicate (cells s) 0)

abbrev pub start_words : ℕ → List CellWord → List ℕ
start_words = start_lane (λ e. e.word)

abbrev pub start_marks : ℕ → List CellWord → List ℕ
start_marks = start_lane (λ e. 1)

-- the replay of a capture from a verdict on a job: its marked cells are ranked; a text that is no job is refused by its own number and place
unfoldable pub replay_from : TextVerdict → List ℕ → Result Replayed Refusal
replay_from (Ok t) capture =
    replay_of t.side (start_words t.side t.marked) (start_marks t.side t.marked) (ranks t.side (start_marks t.side t.marked)) capture
replay_from (Err e) capture = Err e

-- the line for the bytes of a job and of a capture
abbrev pub replay_text : List ℕ → List ℕ → List ℕ
replay_text job capture = replay_line (replay_from (text_verdict job) capture)
