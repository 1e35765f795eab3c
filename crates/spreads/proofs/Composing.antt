-- How the runs and swaps of the code make up the programs.
use Prim.Native.Nat.{ℕ, ◌-◌, ◌^◌, ◌<◌}
use mathlib.Core.Path.{◌≡◌, ◌∙◌}
use mathlib.Core.Bool.{true}
use mathlib.Core.List.{List}
use native.Mathlib.Omega.{arith}
use lib.ListN.{length, get_or}
use Rattle.array.specs.declared.moves.Way.TheVariants.{Right, Left, Up, Down}
use Rattle.array.specs.Cells.{group, place, row, column, is_cell, is_board}
use Rattle.array.proofs.Board.{cell_known}
use Rattle.light.specs.Lane.{swapped_lane}
use Rattle.lanes.specs.declared.Joining.TheVariants.{Add, Copy}
use Rattle.lanes.specs.Machine.{made}
use Rattle.lanes.specs.Runs.{ran_words}
use Rattle.lanes.specs.Inside.{Moves}
use Rattle.lanes.proofs.Held.{board_known, lane_load, lane-words, ran-lane, swapped-lane}
use Rattle.spreads.specs.Programs.{spread, broadcast, group_sum, data_sum}
use Rattle.spreads.specs.Results.{broadcast_lane, data_sum_lane}
use Rattle.spreads.proofs.Spreading.{broadcast-all, data_sum-all}

pub spread-moves : (s a b : ℕ) {l₀ l₁ l₂ l₃ l₄ : List ℕ} → a < s → b < s → l₁ ≡ ran_words s Left Copy b b l₀ → l₂ ≡ ran_words s Right Copy b (s - 1 - b) l₁
    → l₃ ≡ ran_words s Up Copy a a l₂ → l₄ ≡ ran_words s Down Copy a (s - 1 - a) l₃ → Moves s (made s (spread s a b)) l₀ l₄
spread-moves s a b ha hb w x y z = record {
  so = λ σ h.
      ran-lane s Down Copy a (s - 1 - a) (omega arith) (omega arith) z (ran-lane s Up Copy a a (omega arith) (omega arith) y
      (ran-lane s Right Copy b (s - 1 - b) (omega arith) (omega arith) x (ran-lane s Left Copy b b (omega arith) (omega arith) w h)));
}

pub spread-all-moves : (s i : ℕ) {l₀ l₁ l₂ l₃ : List ℕ} → Moves s (made s (spread s (row s (place s i)) (column s (place s i)))) l₀ l₁ → l₂ ≡ swapped_lane s l₁
    → Moves s (made s (spread s (row s (group s i)) (column s (group s i)))) l₂ l₃ → Moves s (made s (broadcast s i)) l₀ l₃
spread-all-moves s i x e y = record { so = λ σ h. y.so _ (swapped-lane s e (x.so σ h)) }

pub group-sum-moves : (s : ℕ) {l₀ l₁ l₂ l₃ l₄ : List ℕ} → l₁ ≡ ran_words s Right Add 0 (s - 1) l₀ → l₂ ≡ ran_words s Left Copy (s - 1) (s - 1) l₁
    → l₃ ≡ ran_words s Down Add 0 (s - 1) l₂ → l₄ ≡ ran_words s Up Copy (s - 1) (s - 1) l₃ → Moves s (made s (group_sum s)) l₀ l₄
group-sum-moves s w x y z = record {
  so = λ σ h.
      ran-lane s Up Copy (s - 1) (s - 1) (omega arith) (omega arith) z (ran-lane s Down Add 0 (s - 1) (omega arith) (omega arith) y
      (ran-lane s Left Copy (s - 1) (s - 1) (omega arith) (omega arith) x (ran-lane s Right Add 0 (s - 1) (omega arith) (omega arith) w h)));
}

pub sum-all-moves : (s : ℕ) {l₀ l₁ l₂ l₃ : List ℕ} → Moves s (made s (group_sum s)) l₀ l₁ → l₂ ≡ swapped_lane s l₁ → Moves s (made s (group_sum s)) l₂ l₃
    → Moves s (made s (data_sum s)) l₀ l₃
sum-all-moves s x e y = record { so = λ σ h. y.so _ (swapped-lane s e (x.so σ h)) }

-- the lane of a board
pub broadcast_done : (s i : ℕ) (l l' : List ℕ) → is_board s (length l) ≡ true → is_cell s i ≡ true → Moves s (made s (broadcast s i)) l l' → l' ≡ broadcast_lane s i l
broadcast_done s i l l' b h x =
    let k = board_known s (length l) b in
    rw (b, h) (lane-words (x.so _ (lane_load k)) ∙ broadcast-all s l i k.least (cell_known s i h).inside)

pub data_sum_done : (s : ℕ) (l l' : List ℕ) → is_board s (length l) ≡ true → ((i : ℕ) → get_or l i 0 < 2 ^ 32) → Moves s (made s (data_sum s)) l l' → l' ≡ data_sum_lane s l
data_sum_done s l l' b small x =
    let k = board_known s (length l) b in
    rw b (lane-words (x.so _ (lane_load k)) ∙ data_sum-all s l k.least small)
