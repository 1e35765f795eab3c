-- Cells by four coordinates: the row and the column of the group, and of the place.
use Prim.Native.Nat.{ℕ, suc, ◌+◌, ◌*◌, ◌≤◌, ◌<◌}
use mathlib.Core.Path.{◌≡◌, refl, sym, ap, ◌∙◌}
use mathlib.Core.List.{List}
use native.Mathlib.Omega.{arith}
use lib.Arith.{digits_lt}
use lib.ListN.{length, get_or, replicate}
use Rattle.laws.specs.Sums.{sum}
use Rattle.laws.specs.Tables.{entries}
use Rattle.laws.proofs.Sums.{sum_cong, sum-blocks, sum_rows}
use Rattle.laws.proofs.Tables.{entries-all, entries_cong, entries-same}
use Rattle.array.specs.Cells.{groups, cells, group, place, row, column, partner}
use Rattle.array.proofs.Board.{cell-group-place, place_is, group_in, place_in, row_in, column_in, group_of, place_of}
use Rattle.lanes.specs.Machine.{State, at, load, unload, value_at}
use Rattle.lanes.specs.Inside.{HoldsWords}

pub holds_load : (s : ℕ) (l : List ℕ) → HoldsWords s l (load s l)
holds_load s l = record { is = λ c d a b _ _ _ _. refl }

-- places and cells from coordinates
pub place< : {s a b : ℕ} → a < s → b < s → a * s + b < groups s
place< h h' = digits_lt h h'

pub at< : (s c d a b : ℕ) → c < s → d < s → a < s → b < s → at s c d a b < cells s
at< s c d a b hc hd ha hb = digits_lt (place< hc hd) (place< ha hb)

pub partner-at : (s c d a b : ℕ) → a < s → b < s → partner s (at s c d a b) ≡ at s a b c d
partner-at s c d a b ha hb = rw (group_of s (c * s + d) (a * s + b) (place< ha hb), place_of s (c * s + d) (a * s + b) (place< ha hb))

-- the coordinates of a cell
module _ (s i : ℕ) (pos : 1 ≤ s) (i_in : i < cells s) where
  pub c_in : row s (group s i) < s
  c_in = row_in pos (group s i) (group_in pos i i_in)

  pub d_in : column s (group s i) < s
  d_in = column_in pos (group s i)

  pub a_in : row s (place s i) < s
  a_in = row_in pos (place s i) (place_in pos i)

  pub b_in : column s (place s i) < s
  b_in = column_in pos (place s i)

  pub at_is : at s (row s (group s i)) (column s (group s i)) (row s (place s i)) (column s (place s i)) ≡ i
  at_is = rw (place_is s (group s i), place_is s (place s i)) (cell-group-place s i)

-- a list that holds a state is that state's list
pub unloaded : (s : ℕ) (l : List ℕ) (σ : State ℕ) → 1 ≤ s → length l ≡ cells s → HoldsWords s l σ → l ≡ unload s σ
unloaded s l σ pos size h = entries-all (value_at s σ) (cells s) 0 l size (λ i k.
    ap (λ z. get_or l z 0) (sym (at_is s i pos k)) ∙ h.is _ _ _ _ (c_in s i pos k) (d_in s i pos k) (a_in s i pos k) (b_in s i pos k))

-- states that agree on the board have the same list
pub unload_cong : (s : ℕ) (σ τ : State ℕ) → 1 ≤ s → ((c d a b : ℕ) → c < s → d < s → a < s → b < s → σ c d a b ≡ τ c d a b) → unload s σ ≡ unload s τ
unload_cong s σ τ pos h = entries_cong (cells s) (λ i k. h _ _ _ _ (c_in s i pos k) (d_in s i pos k) (a_in s i pos k) (b_in s i pos k))

-- a state that has one word everywhere
pub unload-same : (s : ℕ) (σ : State ℕ) (x : ℕ) → 1 ≤ s → ((c d a b : ℕ) → c < s → d < s → a < s → b < s → σ c d a b ≡ x) → unload s σ ≡ replicate (cells s) x
unload-same s σ x pos h = entries-same (cells s) x (λ i k. h _ _ _ _ (c_in s i pos k) (d_in s i pos k) (a_in s i pos k) (b_in s i pos k))

-- a state whose word in cell i is f i
pub unload_by : (s : ℕ) (σ : State ℕ) (f : ℕ → ℕ) → 1 ≤ s → ((c d a b : ℕ) → c < s → d < s → a < s → b < s → σ c d a b ≡ f (at s c d a b)) → unload s σ ≡ entries f 0 (cells s)
unload_by s σ f pos h = entries_cong (cells s) (λ i k.
    h _ _ _ _ (c_in s i pos k) (d_in s i pos k) (a_in s i pos k) (b_in s i pos k) ∙ ap f (at_is s i pos k))

-- the sum over all cells
pub sum-cells : (s : ℕ) (f : ℕ → ℕ) → sum (cells s) f ≡ sum s (λ c. sum s (λ d. sum s (λ a. sum s (λ b. f (at s c d a b)))))
sum-cells s f =
    sum-blocks (groups s) (groups s) f ∙ sum-blocks s s _
    ∙ sum_cong s (λ c l. sum_cong s (λ d l'. sum-blocks s s _))

-- the sum up to a cell: its row's up to it, the groups before its group, the rows above its row
pub sum_to : (s : ℕ) (f : ℕ → ℕ) (c d a b : ℕ)
    → sum (suc (at s c d a b)) f
    ≡ sum (suc b) (λ j. f (at s c d a j))
    + ((sum d (λ j. sum s (λ k. sum s (λ l. f (at s c j k l)))) + sum c (λ i. sum s (λ j. sum s (λ k. sum s (λ l. f (at s i j k l))))))
    + sum a (λ i. sum s (λ j. f (at s c d i j))))
sum_to s f c d a b =
    let whole : (g : ℕ) → sum (s * s) (λ i. f (g * (s * s) + i)) ≡ sum s (λ k. sum s (λ l. f (g * (s * s) + (k * s + l)))) = λ g. sum-blocks s s _ in
    let e₁ : sum (at s c d a b) f ≡ sum (c * s + d) (λ g. sum s (λ k. sum s (λ l. f (g * (s * s) + (k * s + l))))) + sum (a * s + b) (λ i. f ((c * s + d) * (s * s) + i))
    = sum_rows (s * s) f (c * s + d) (a * s + b) ∙ ap (λ n. n + sum (a * s + b) (λ i. f ((c * s + d) * (s * s) + i))) (sum_cong (c * s + d) (λ g h. whole g)) in
    let e₂ = sum_rows s (λ g. sum s (λ k. sum s (λ l. f (g * (s * s) + (k * s + l))))) c d in
    let e₃ = sum_rows s (λ i. f ((c * s + d) * (s * s) + i)) a b in
    omega arith
