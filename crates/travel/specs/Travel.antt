-- Where a record stands. A record has a rank and started in a cell; each move takes it as the move rule says.
use Rattle.std.specs.Prelude.{ℕ, zero, suc, ◌-◌, ◌/◌, ◌%◌, cond, List, [], ◌∷◌, take, ltb}
use Rattle.array.specs.declared.moves.Way.{Way}
use Rattle.array.specs.declared.moves.Way.TheVariants.{Right, Left, Up, Down}
use Rattle.array.specs.declared.moves.Move.{Move}
use Rattle.array.specs.declared.moves.Move.TheVariants.{Swap, Electronic}
use Rattle.array.specs.Cells.{groups, partner, place, row, column, onward}
use Rattle.runs.specs.Runs.{moves}
use Rattle.lists.specs.Lists.{concentrate_runs}

-- how far place h lies from place p, one way: 0 where its column or row is not greater that way
abbrev pub distance : ℕ → Way → ℕ → ℕ → ℕ
distance s Right h p = column s h - column s p
distance s Left h p = column s p - column s h
distance s Up h p = row s p - row s h
distance s Down h p = row s h - row s p

-- the cell after one electronic move of a record in cell i that heads for place h of its group
abbrev pub toward : ℕ → Way → ℕ → ℕ → ℕ
toward s w h i = cond (ltb 0 (distance s w h (place s i))) (onward s w i) i

-- before the first swap a record of rank r heads for place r mod N, between the swaps for place r div N
abbrev pub heading : ℕ → ℕ → ℕ → ℕ
heading s zero r = r % groups s
heading s (suc swaps) r = r / groups s

-- the cell of a record of rank r that was in cell i, once the moves are made, where so many swaps were made before them
abbrev pub travel : ℕ → ℕ → ℕ → List Move → ℕ → ℕ
travel s swaps r [] i = i
travel s swaps r (Swap ∷ ms) i = travel s (suc swaps) r ms (partner s i)
travel s swaps r (Electronic w ∷ ms) i = travel s swaps r ms (toward s w (heading s swaps r) i)

-- the moves of concentrate, one by one
abbrev pub concentrate_moves : ℕ → List Move
concentrate_moves s = moves (concentrate_runs s)

-- the cell, after k moves of concentrate, of the record of rank r that started in cell i
abbrev pub stands : ℕ → ℕ → ℕ → ℕ → ℕ
stands s k r i = travel s 0 r (take k (concentrate_moves s)) i
