-- The move list of each operation but the shifts, in nine runs; a shorter list has runs of no moves.
use Rattle.std.specs.Prelude.{ℕ, ◌+◌, ◌-◌, ◌*◌, cond, List, [], ◌∷◌, ◌++◌, map}
use Rattle.array.specs.declared.moves.Way.TheVariants.{Right, Left, Up, Down}
use Rattle.runs.specs.declared.Run.{Run}
use Rattle.lists.specs.declared.Trip.{Trip}
use Rattle.lists.specs.declared.Trip.TheVariants.{Concentrate, Distribute}
use Rattle.array.specs.Cells.{place, group, row, column, is_cell}
use Rattle.array.specs.Moves.{swap, right, left, up, down}
use Rattle.runs.specs.Runs.{no_runs, along, swapping, whole}

-- how many moves prefix sum, rank, concentrate and distribute have
abbrev pub total_moves : ℕ → ℕ
total_moves s = 7 * (s - 1) + 2

-- from place p to its whole group
abbrev pub spread_runs : ℕ → ℕ → List Run
spread_runs s p =
    along Left (column s p) ∷ along Right (s - 1 - column s p) ∷ along Up (row s p) ∷ along Down (s - 1 - row s p) ∷ []

-- broadcast from cell i
abbrev pub broadcast_list : ℕ → ℕ → List Run
broadcast_list s i = spread_runs s (place s i) ++ (swapping 1 ∷ spread_runs s (group s i))

abbrev pub broadcast_runs : ℕ → ℕ → List Run
broadcast_runs s i = cond (is_cell s i) (broadcast_list s i) no_runs

abbrev pub data_sum_runs : ℕ → List Run
data_sum_runs s = map (whole (s - 1)) (right ∷ left ∷ down ∷ up ∷ swap ∷ right ∷ left ∷ down ∷ up ∷ [])

-- prefix sum and rank
abbrev pub prefix_sum_runs : ℕ → List Run
prefix_sum_runs s = map (whole (s - 1)) (right ∷ down ∷ swap ∷ right ∷ down ∷ left ∷ swap ∷ up ∷ left ∷ [])

abbrev pub concentrate_runs : ℕ → List Run
concentrate_runs s = map (whole (s - 1)) (right ∷ left ∷ up ∷ down ∷ swap ∷ right ∷ left ∷ up ∷ swap ∷ [])

abbrev pub distribute_runs : ℕ → List Run
distribute_runs s = map (whole (s - 1)) (swap ∷ down ∷ right ∷ left ∷ swap ∷ up ∷ down ∷ right ∷ left ∷ [])

-- the list of a trip
abbrev pub runs_of : Trip → ℕ → List Run
runs_of Concentrate s = concentrate_runs s
runs_of Distribute s = distribute_runs s
