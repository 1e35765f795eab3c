-- What prefix sum leaves in the words, as a list.
use Rattle.std.specs.Prelude.{ℕ, suc, ◌%◌, ◌^◌, cond, List, length}
use Rattle.laws.specs.Sums.{sum_of}
use Rattle.laws.specs.Tables.{entries}
use Rattle.array.specs.Cells.{cells, is_board}

-- the word at i is the sum of words 0 to i, modulo 2 ^ 32
abbrev pub prefix_sum_words : ℕ → List ℕ → List ℕ
prefix_sum_words s words = entries (λ i. sum_of (suc i) words % (2 ^ 32)) 0 (cells s)

-- the same for every side and lane: what is no lane of a board stays
abbrev pub prefix_sum_lane : ℕ → List ℕ → List ℕ
prefix_sum_lane s l = cond (is_board s (length l)) (prefix_sum_words s l) l
