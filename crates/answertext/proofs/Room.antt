-- How long an answer can be.
use Rattle.std.proofs.Common.{◌≡◌, ℕ, zero, suc, ◌+◌, ◌*◌, ◌≤◌, List, Option, Some, None, length, get_or, refl, suc-mul, arith, length-append}
use Rattle.array.specs.declared.moves.Way.TheVariants.{Right, Left, Up, Down}
use Rattle.array.specs.declared.moves.Move.{Move}
use Rattle.array.specs.declared.moves.Move.TheVariants.{Swap, Electronic}
use Rattle.array.specs.declared.moves.LogLine.{LogLine}
use Rattle.printing.specs.Printed.{line, rows}
use Rattle.printing.proofs.Digits.{decimal_short}
use Rattle.answertext.specs.declared.Totals.{Totals}
use Rattle.answertext.specs.Log.{lines, line_of, totals_of}
use Rattle.answertext.specs.Answers.{kind_text, way_text, header, move_line, all_line, record_line, move_row, record_row, log_text, answer_text, refused_text}

step_short : (m : Move) → length (kind_text m) + length (way_text m) ≤ 6
unfolding kind_text way_text
step_short Swap = omega arith
step_short (Electronic Right) = omega arith
step_short (Electronic Left) = omega arith
step_short (Electronic Up) = omega arith
step_short (Electronic Down) = omega arith

move_short : (n : ℕ) (l : Option LogLine) → length (move_line n l) ≤ 50
unfolding move_line line
move_short n (Some l) = simp length-append (omega (arith, decimal_short n, decimal_short l.moved, step_short l.step))
move_short n None = omega arith

all_short : (t : Totals) → length (all_line t) ≤ 67
unfolding all_line line
all_short t = simp length-append (omega (arith, decimal_short t.electronic, decimal_short t.optical, decimal_short t.moved))

record_short : (cell word : ℕ) → length (record_line cell word) ≤ 42
unfolding record_line line
record_short cell word = simp length-append (omega (arith, decimal_short cell, decimal_short word))

rows_short : (f : ℕ → List ℕ) (m n : ℕ) → ((i : ℕ) → length (f i) ≤ m) → length (rows f n) ≤ n * m
unfolding rows
rows_short f m zero h = omega arith
rows_short f m (suc n) h = rw (length-append, suc-mul) (omega (arith, rows_short f m n h, h n))

move_row_short : (l : ℕ → Option LogLine) (i : ℕ) → length (move_row l i) ≤ 50
unfolding move_row
move_row_short l i = move_short (suc i) (l i)

record_row_short : (words : List ℕ) (i : ℕ) → length (record_row words i) ≤ 42
unfolding record_row
record_row_short words i = record_short i (get_or words i 0)

header_long : length header ≡ 20
unfolding header line
header_long = refl

log_short : (l : ℕ → Option LogLine) (n : ℕ) (words : List ℕ) → length (log_text l n words) ≤ 20 + n * 50 + 67 + length words * 42
unfolding log_text
log_short l n words =
    simp length-append (omega (arith, header_long, rows_short (move_row l) 50 n (move_row_short l), all_short (totals_of l n), rows_short (record_row words) 42 (length words) (record_row_short words)))

-- the answer to a job fits 196,608 bytes
pub answer_fits : (codes moved words : List ℕ) → length codes ≤ 51 → length words ≤ 4096 → length (answer_text codes moved words) ≤ 196608
answer_fits codes moved words h k =
    let n : lines codes moved ≤ 51 = omega arith in
    omega (arith, log_short (line_of codes moved) (lines codes moved) words)

-- a refusal is one short line
pub refusal_short : (number place : ℕ) → length (refused_text number place) ≤ 50
unfolding refused_text line
refusal_short number place = simp length-append (omega (arith, decimal_short number, decimal_short place))
