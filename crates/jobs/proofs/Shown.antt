-- Outputs of whole texts, computed: the job of the scope with its nine moved counts, and texts that are refused.
use Prim.Native.String.{String}
use mathlib.Core.Path.{◌≡◌, refl}
use mathlib.Core.List.{List, [], ◌∷◌, map}
use Prim.Native.Nat.{ℕ}
use Rattle.texts.specs.Bytes.{bytes}
use Rattle.texts.specs.Numbers.{digits_from, number_of}
use Rattle.texts.specs.Lines.{bytes_before, first_field, second_field, with_byte, lines_of}
use Rattle.printing.specs.Printed.{digits, line, rows}
use Rattle.jobtext.specs.Verdicts.{side_of, mark_line, also, cells_from, job_from, text_verdict}
use Rattle.answertext.specs.Log.{column_sum, totals_of}
use Rattle.answertext.specs.Answers.{kind_text, way_text, header, move_line, all_line, record_line, move_row, record_row, log_text, refused_text}
use Rattle.jobs.specs.Outputs.{output_of}

unfoldable pub output_for : String → List ℕ
unfolding output_of text_verdict job_from cells_from also lines_of with_byte mark_line side_of first_field second_field bytes_before number_of digits_from log_text header rows move_row move_line record_row record_line all_line totals_of column_sum line kind_text way_text digits refused_text
output_for t = output_of (text_verdict (bytes t))

pub the_job :
    output_for "side\t2\n1\t70\n6\t71\n11\t72\n"
    ≡ bytes "move\tkind\tway\tmoved\n1\tE\tright\t1\n2\tE\tleft\t2\n3\tE\tup\t1\n4\tE\tdown\t0\n5\tO\tswap\t0\n6\tE\tright\t0\n7\tE\tleft\t1\n8\tE\tup\t1\n9\tO\tswap\t2\nall\t7\t2\t8\n0\t70\n1\t71\n2\t72\n"
unfolding output_for
the_job = refl

-- side 1, its cell marked: two swaps, and nothing moves
pub one_cell : output_for "side\t1\n0\t4294967295\n" ≡ bytes "move\tkind\tway\tmoved\n1\tO\tswap\t0\n2\tO\tswap\t0\nall\t0\t2\t0\n0\t4294967295\n"
unfolding output_for
one_cell = refl

-- refused: an index that does not rise, and a side that there is not
pub refused_jobs : map output_for ("side\t2\n5\t1\n5\t1\n" ∷ "side\t9\n" ∷ []) ≡ bytes "refused\t8\t3\n" ∷ bytes "refused\t1\t0\n" ∷ []
unfolding output_for
refused_jobs = refl
