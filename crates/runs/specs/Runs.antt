-- Runs of moves, and what they are as a list: its moves one by one, its codes, its counts.
use Rattle.std.specs.Prelude.{ℕ, ◌+◌, List, [], ◌∷◌, ◌++◌, map, replicate, Option, slice_get}
use Rattle.array.specs.declared.moves.Way.{Way}
use Rattle.array.specs.declared.moves.Move.{Move}
use Rattle.array.specs.declared.moves.Move.TheVariants.{Swap, Electronic}
use Rattle.runs.specs.declared.Run.{Run}
use Rattle.array.specs.Moves.{code_of}

-- n moves one way, and n swaps
abbrev pub along : Way → ℕ → Run
along w n = record { step = Electronic w; times = n }

abbrev pub swapping : ℕ → Run
swapping n = record { step = Swap; times = n }

-- a run the whole way, n electronic moves, or one swap
abbrev pub whole : ℕ → Move → Run
whole n Swap = swapping 1
whole n (Electronic w) = along w n

-- the list of an argument that is refused: no moves
abbrev pub no_runs : List Run
no_runs = replicate 9 (swapping 0)

-- the moves of runs, one by one, and their codes
abbrev pub moves : List Run → List Move
moves [] = []
moves (r ∷ rs) = replicate r.times r.step ++ moves rs

abbrev pub codes : List Run → List ℕ
codes rs = map code_of (moves rs)

-- move k of a list, where it is as long
abbrev pub step_in : List Move → ℕ → Option Move
step_in ms k = slice_get ms k

-- how many of n moves of a kind are electronic, and how many swaps
abbrev pub electronic_in : Move → ℕ → ℕ
electronic_in Swap n = 0
electronic_in (Electronic w) n = n

abbrev pub swaps_in : Move → ℕ → ℕ
swaps_in Swap n = n
swaps_in (Electronic w) n = 0

-- how many moves of runs are electronic, and how many swaps
abbrev pub electronic : List Run → ℕ
electronic [] = 0
electronic (r ∷ rs) = electronic_in r.step r.times + electronic rs

abbrev pub swaps : List Run → ℕ
swaps [] = 0
swaps (r ∷ rs) = swaps_in r.step r.times + swaps rs
