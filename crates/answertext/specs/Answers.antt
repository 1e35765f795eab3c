-- The text of an answer.
use Rattle.std.specs.Prelude.{ℕ, suc, List, [], ◌∷◌, ◌++◌, Option, Some, None, length, slice_index}
use Rattle.texts.specs.Bytes.{bytes, tab}
use Rattle.array.specs.declared.moves.Way.TheVariants.{Right, Left, Up, Down}
use Rattle.array.specs.declared.moves.Move.{Move}
use Rattle.array.specs.declared.moves.Move.TheVariants.{Swap, Electronic}
use Rattle.array.specs.declared.moves.LogLine.{LogLine}
use Rattle.answertext.specs.declared.Totals.{Totals}
use Rattle.printing.specs.Printed.{decimal, line, rows}
use Rattle.answertext.specs.Log.{lines, line_of, totals_of}

-- E electronic, or O optical
unfoldable pub kind_text : Move → List ℕ
kind_text Swap = bytes "O"
kind_text (Electronic w) = bytes "E"

unfoldable pub way_text : Move → List ℕ
way_text Swap = bytes "swap"
way_text (Electronic Right) = bytes "right"
way_text (Electronic Left) = bytes "left"
way_text (Electronic Up) = bytes "up"
way_text (Electronic Down) = bytes "down"

unfoldable pub header : List ℕ
header = line (bytes "move" ∷ bytes "kind" ∷ bytes "way" ∷ bytes "moved" ∷ [])

-- move number n: its kind, its way, and how many records changed cell; a code that is no move has no line
unfoldable pub move_line : ℕ → Option LogLine → List ℕ
move_line n (Some l) = line (decimal n ∷ kind_text l.step ∷ way_text l.step ∷ decimal l.moved ∷ [])
move_line n None = []

-- electronic moves, optical moves, sum of the moved column
unfoldable pub all_line : Totals → List ℕ
all_line t = line (bytes "all" ∷ decimal t.electronic ∷ decimal t.optical ∷ decimal t.moved ∷ [])

-- a record: cell, word
unfoldable pub record_line : ℕ → ℕ → List ℕ
record_line cell word = line (decimal cell ∷ decimal word ∷ [])

-- line i of a log, as move i + 1, and record i
unfoldable pub move_row : (ℕ → Option LogLine) → ℕ → List ℕ
move_row l i = move_line (suc i) (l i)

unfoldable pub record_row : List ℕ → ℕ → List ℕ
record_row words i = record_line i (slice_index words i)

-- the whole: the moves of n log lines, what they add up to, and the records in the first cells
unfoldable pub log_text : (ℕ → Option LogLine) → ℕ → List ℕ → List ℕ
log_text l n words =
    ((header ++ rows (move_row l) n) ++ all_line (totals_of l n)) ++ rows (record_row words) (length words)

abbrev pub answer_text : List ℕ → List ℕ → List ℕ → List ℕ
answer_text codes moved words = log_text (line_of codes moved) (lines codes moved) words

-- the one line of a refused job
unfoldable pub refused_text : ℕ → ℕ → List ℕ
refused_text number place = line (bytes "refused" ∷ decimal number ∷ decimal place ∷ [])

-- the kind and the way of a move, each with the tab after it
unfoldable pub step_text : Move → List ℕ
step_text m = kind_text m ++ (tab ∷ (way_text m ++ (tab ∷ [])))
