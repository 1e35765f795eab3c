-- The swap of one lane: each cell takes what its partner held.
use Rattle.std.specs.Prelude.{ℕ, cond, List, length, get_or}
use Rattle.laws.specs.Tables.{entries}
use Rattle.array.specs.Cells.{is_board, cells, partner}

-- a lane after a swap; what is no lane of a board stays as it is
abbrev pub swapped_lane : ℕ → List ℕ → List ℕ
swapped_lane s l = cond (is_board s (length l)) (entries (λ i. get_or l (partner s i) 0) 0 (cells s)) l
