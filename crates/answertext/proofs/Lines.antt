-- The lines of an answer, piece by piece.
use Rattle.std.proofs.Common.{◌≡◌, ℕ, ◌+◌, List, ◌++◌, Option, Some, None, length, get_or, append_assoc, add-one}
use Rattle.texts.specs.Bytes.{bytes}
use Rattle.array.specs.declared.moves.LogLine.{LogLine}
use Rattle.printing.specs.declared.Printer.{Printer}
use Rattle.printing.specs.Printed.{line, rows, field}
use Rattle.printing.specs.Printers.{Put}
use Rattle.printing.proofs.Putting.{put_nothing, put_then, rows_next}
use Rattle.answertext.specs.declared.Totals.{Totals}
use Rattle.answertext.specs.Log.{lines, line_of, totals_of}
use Rattle.answertext.specs.Answers.{header, move_line, all_line, record_line, move_row, record_row, log_text, answer_text, refused_text, step_text}

-- the line of a move
pub no_move_put : (number : ℕ) (logged : Option LogLine) {a : Printer} → logged ≡ None → Put (move_line number logged) a a
unfolding move_line
no_move_put number logged {a} e = rw e (put_nothing a)

pub move_put : (number : ℕ) (logged : Option LogLine) (l : LogLine) → logged ≡ Some l → {a b c d : Printer}
    → Put (field number 9) a b → {text : List ℕ} → text ≡ step_text l.step → Put text b c
    → {moved : ℕ} → moved ≡ l.moved → Put (field moved 10) c d → Put (move_line number logged) a d
move_put number logged l e p f q g s = rw (e, spelt) (put_then (put_then p (rw f at q)) (rw g at s))
  where
    spelt : move_line number (Some l) ≡ (field number 9 ++ step_text l.step) ++ field l.moved 10
    spelt = unfold move_line line field step_text in simp append_assoc

pub record_put : (cell word : ℕ) {a b c : Printer} → Put (field cell 9) a b → Put (field word 10) b c → Put (record_line cell word) a c
record_put cell word p q = rw spelt (put_then p q)
  where
    spelt : record_line cell word ≡ field cell 9 ++ field word 10
    spelt = unfold record_line line field in simp append_assoc

pub all_put : (t : Totals) {a b c d e : Printer} → Put (bytes "all\t") a b → Put (field t.electronic 9) b c → Put (field t.optical 9) c d
    → Put (field t.moved 10) d e → Put (all_line t) a e
all_put t p q s u = rw spelt (put_then (put_then (put_then p q) s) u)
  where
    spelt : all_line t ≡ ((bytes "all\t" ++ field t.electronic 9) ++ field t.optical 9) ++ field t.moved 10
    spelt = unfold all_line line field in simp append_assoc

-- one row more of the moves, and of the records
pub moves_next : (codes moved : List ℕ) (i : ℕ) {a b c : Printer} → Put (rows (move_row (line_of codes moved)) i) a b
    → {logged : Option LogLine} → logged ≡ line_of codes moved i → Put (move_line (i + 1) logged) b c → Put (rows (move_row (line_of codes moved)) (i + 1)) a c
unfolding move_row
moves_next codes moved i p e q = rows_next (move_row (line_of codes moved)) p (rw (← e, ← add-one) q)

pub records_next : (words : List ℕ) (i : ℕ) {a b c : Printer} → Put (rows (record_row words) i) a b → Put (record_line i (get_or words i 0)) b c
    → Put (rows (record_row words) (i + 1)) a c
unfolding record_row
records_next words i p q = rows_next (record_row words) p q

-- whole texts
pub answer_put : (codes moved words : List ℕ) {t : Totals} {a b c d e : Printer}
    → Put (bytes "move\tkind\tway\tmoved\n") a b
    → Put (rows (move_row (line_of codes moved)) (lines codes moved)) b c
    → t ≡ totals_of (line_of codes moved) (lines codes moved)
    → Put (all_line t) c d
    → Put (rows (record_row words) (length words)) d e
    → Put (answer_text codes moved words) a e
unfolding log_text header line
answer_put codes moved words p q s u v = put_then (put_then (put_then p q) (rw s at u)) v

pub refusal_put : (number place : ℕ) {a b c d : Printer} → Put (bytes "refused\t") a b → Put (field number 9) b c → Put (field place 10) c d
    → Put (refused_text number place) a d
refusal_put number place p q s = rw spelt (put_then (put_then p q) s)
  where
    spelt : refused_text number place ≡ (bytes "refused\t" ++ field number 9) ++ field place 10
    spelt = unfold refused_text line field in simp append_assoc
