-- What broadcast and data sum leave in the words, as a list.
use Rattle.std.specs.Prelude.{ℕ, ◌%◌, ◌^◌, cond, ◌&&◌, List, length, get_or, replicate}
use Rattle.laws.specs.Sums.{sum_of}
use Rattle.array.specs.Cells.{cells, is_cell, is_board}

-- every word is that of cell i
abbrev pub broadcast_words : ℕ → ℕ → List ℕ → List ℕ
broadcast_words s i words = replicate (cells s) (get_or words i 0)

-- every word is the sum of all, modulo 2 ^ 32
abbrev pub data_sum_words : ℕ → List ℕ → List ℕ
data_sum_words s words = replicate (cells s) (sum_of (cells s) words % (2 ^ 32))

-- the same for every side, cell and lane: what is no lane of a board stays, and so does a lane where there is no such cell
abbrev pub broadcast_lane : ℕ → ℕ → List ℕ → List ℕ
broadcast_lane s i l = cond (is_board s (length l) && is_cell s i) (broadcast_words s i l) l

abbrev pub data_sum_lane : ℕ → List ℕ → List ℕ
data_sum_lane s l = cond (is_board s (length l)) (data_sum_words s l) l
