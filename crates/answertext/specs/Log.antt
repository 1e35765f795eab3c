-- A log: the codes of the moves and their moved counts, as log lines, and what these add up to.
use Rattle.std.specs.Prelude.{ℕ, ◌+◌, ◌%◌, ◌^◌, min, List, Option, Some, None, length, slice_index}
use Rattle.laws.specs.Sums.{sum}
use Rattle.array.specs.declared.moves.LogLine.{LogLine}
use Rattle.array.specs.Moves.{logged_of}
use Rattle.runs.specs.Runs.{electronic_in, swaps_in}
use Rattle.answertext.specs.declared.Totals.{Totals}

-- how many lines a log has: as many as it has both codes and counts for
abbrev pub lines : List ℕ → List ℕ → ℕ
lines codes moved = min (length codes) (length moved)

-- line k
abbrev pub line_of : List ℕ → List ℕ → ℕ → Option LogLine
line_of codes moved k = logged_of (slice_index codes k) (slice_index moved k)

-- how many electronic moves a line is, how many optical moves, and how many records changed cell in it
abbrev pub electronic_of : Option LogLine → ℕ
electronic_of (Some l) = electronic_in l.step 1
electronic_of None = 0

abbrev pub optical_of : Option LogLine → ℕ
optical_of (Some l) = swaps_in l.step 1
optical_of None = 0

abbrev pub moved_of : Option LogLine → ℕ
moved_of (Some l) = l.moved
moved_of None = 0

-- the sum of a column over n lines; a total takes 64 bits
unfoldable pub column_sum : (Option LogLine → ℕ) → (ℕ → Option LogLine) → ℕ → ℕ
column_sum value l n = sum n (λ k. value (l k)) % 2 ^ 64

unfoldable pub totals_of : (ℕ → Option LogLine) → ℕ → Totals
totals_of l n = record { electronic = column_sum electronic_of l n; optical = column_sum optical_of l n; moved = column_sum moved_of l n }

-- totals with one line more
unfoldable pub added_to : Totals → Option LogLine → Totals
added_to t (Some l) = record {
  electronic = (t.electronic + electronic_in l.step 1) % 2 ^ 64;
  optical = (t.optical + swaps_in l.step 1) % 2 ^ 64;
  moved = (t.moved + l.moved) % 2 ^ 64;
}
added_to t None = t
