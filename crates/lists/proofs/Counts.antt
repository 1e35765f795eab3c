-- How many moves each list has, electronic and by light, for every side.
use Prim.Native.Nat.{ℕ, ◌-◌, ◌*◌, ◌<◌}
use mathlib.Core.Path.{◌≡◌, refl}
use mathlib.Core.Bool.{true, cond}
use native.Mathlib.Omega.{arith}
use lib.ListN.{length}
use Rattle.array.specs.Cells.{is_side, cells, group, place}
use Rattle.runs.specs.Runs.{moves, electronic, swaps}
use Rattle.runs.proofs.Lengths.{length-moves}
use Rattle.lists.specs.Lists.{total_moves, broadcast_list, data_sum_runs, prefix_sum_runs, concentrate_runs, distribute_runs}
use Rattle.array.proofs.Board.{row_in, column_in, place_in, group_in}

-- what the code counts on a board
pub total_on_board : (s n : ℕ) → is_side s ≡ true → n ≡ cond (is_side s) (total_moves s) 0 → n ≡ total_moves s
total_on_board s n h e = rw h at e

module _ (s : ℕ) where
  pub data_sum-electronic : electronic (data_sum_runs s) ≡ 8 * (s - 1)
  data_sum-electronic = omega arith

  pub data_sum-swaps : swaps (data_sum_runs s) ≡ 1
  data_sum-swaps = refl

  -- prefix sum and rank
  pub prefix_sum-electronic : electronic (prefix_sum_runs s) ≡ 7 * (s - 1)
  prefix_sum-electronic = omega arith

  pub prefix_sum-swaps : swaps (prefix_sum_runs s) ≡ 2
  prefix_sum-swaps = refl

  pub prefix_sum-length : length (moves (prefix_sum_runs s)) ≡ total_moves s
  prefix_sum-length = omega (arith, length-moves (prefix_sum_runs s), prefix_sum-electronic)

  pub concentrate_electronic : electronic (concentrate_runs s) ≡ 7 * (s - 1)
  concentrate_electronic = omega arith

  pub concentrate_swaps : swaps (concentrate_runs s) ≡ 2
  concentrate_swaps = refl

  pub concentrate_length : length (moves (concentrate_runs s)) ≡ total_moves s
  concentrate_length = omega (arith, length-moves (concentrate_runs s), concentrate_electronic)

  pub distribute_electronic : electronic (distribute_runs s) ≡ 7 * (s - 1)
  distribute_electronic = omega arith

  pub distribute_swaps : swaps (distribute_runs s) ≡ 2
  distribute_swaps = refl

  pub distribute_length : length (moves (distribute_runs s)) ≡ total_moves s
  distribute_length = omega (arith, length-moves (distribute_runs s), distribute_electronic)

-- broadcast, from any cell
module _ {s : ℕ} (pos : 0 < s) (i : ℕ) (h : i < cells s) where
  pub broadcast-electronic : electronic (broadcast_list s i) ≡ 4 * (s - 1)
  broadcast-electronic =
      omega (arith, column_in pos (place s i), row_in pos (place s i) (place_in pos i), column_in pos (group s i), row_in pos (group s i) (group_in pos i h))

  pub broadcast-swaps : swaps (broadcast_list s i) ≡ 1
  broadcast-swaps = refl
