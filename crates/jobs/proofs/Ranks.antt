-- The ranks of a job: its marked cells stand in order, so the r-th of them has rank r.
use Prim.Native.Nat.{ℕ, zero, suc, ◌≤◌, ◌<◌}
use mathlib.Core.Path.{◌≡◌, refl, ◌∙◌}
use mathlib.Core.List.{List, [], ◌∷◌, map}
use native.Mathlib.Omega.{arith}
use lib.ListN.{length, get_or}
use borrow.Author.Tests.{eq-eqb, ne_eqb, lt-ltb}
use Rattle.laws.specs.Sums.{sum}
use Rattle.laws.proofs.Sums.{sum_cong, one_more}
use Rattle.laws.proofs.Totals.{sum_zero}
use Rattle.marks.specs.Marks.{rank_in}
use Rattle.jobtext.specs.declared.CellWord.{CellWord}
use Rattle.jobtext.proofs.Accepted.{Rising, cell_value, absent}
use Rattle.jobtext.proofs.Boards.{lane_in, mark_at, lane-at}
use Rattle.jobs.specs.Outputs.{home_of}

module _ (end : ℕ) where
  -- the cell of rank r is the board's, and not below the first
  pub home_in : (es : List CellWord) (next r : ℕ) → r < length es → Rising next end es → (next ≤ home_of es r) × (home_of es r < end)
  unfolding Rising
  home_in [] next r h d = absurd (omega arith)
  home_in (e ∷ es) next zero h d = (d.0, d.1)
  home_in (e ∷ es) next (suc r) h d =
      let i : (suc e.index ≤ home_of es r) × (home_of es r < end) = home_in es (suc e.index) r (omega arith) d.2 in
      omega (arith, d.0)

  -- no cell below the first is marked
  none_below : (es : List CellWord) (n : ℕ) → Rising n end es → sum n (mark_at es) ≡ 0
  none_below es n d = sum_zero (mark_at es) n (λ k l. absent (λ e. 1) es n end k 0 l d)

  rank-at : (es : List CellWord) (next r : ℕ) → r < length es → Rising next end es → sum (home_of es r) (mark_at es) ≡ r
  unfolding Rising cell_value
  rank-at [] next r h d = absurd (omega arith)
  rank-at (e ∷ es) next zero h d = none_below (e ∷ es) e.index (omega arith, d.1, d.2)
  rank-at (e ∷ es) next (suc r) h d =
      let i : (suc e.index ≤ home_of es r) × (home_of es r < end) = home_in es (suc e.index) r (omega arith) d.2 in
      one_more (home_of es r) e.index (mark_at es) (absent (λ x. 1) es (suc e.index) end e.index 0 (omega arith) d.2)
      ∙ rw (lt-ltb e.index (home_of es r) (omega arith), rank-at es (suc e.index) r (omega arith) d.2) (omega arith)

  marked_all : (es : List CellWord) (next : ℕ) → Rising next end es → sum end (mark_at es) ≡ length es
  unfolding Rising cell_value
  marked_all [] next d = sum_zero (λ k. 0) end (λ k l. refl)
  marked_all (e ∷ es) next d =
      one_more end e.index (mark_at es) (absent (λ x. 1) es (suc e.index) end e.index 0 (omega arith) d.2)
      ∙ rw (lt-ltb e.index end d.1, marked_all es (suc e.index) d.2) (omega arith)

  -- the value of the cell of rank r
  cell_value_lem : (value : CellWord → ℕ) (es : List CellWord) (next r other : ℕ) → r < length es → Rising next end es
      → cell_value value es (home_of es r) other ≡ get_or (map value es) r 0
  unfolding Rising cell_value
  cell_value_lem value [] next r other h d = absurd (omega arith)
  cell_value_lem value (e ∷ es) next zero other h d = rw (eq-eqb e.index e.index refl)
  cell_value_lem value (e ∷ es) next (suc r) other h d =
      let i : (suc e.index ≤ home_of es r) × (home_of es r < end) = home_in es (suc e.index) r (omega arith) d.2 in
      rw (ne_eqb (home_of es r) e.index (λ q. omega arith)) (cell_value_lem value es (suc e.index) r other (omega arith) d.2)

ones : (es : List CellWord) (r : ℕ) → r < length es → ◌≡◌ {A = ℕ} (get_or (map (λ e. 1) es) r 0) 1
ones [] r h = absurd (omega arith)
ones (e ∷ es) zero h = refl
ones (e ∷ es) (suc r) h = ones es r (omega arith)

module _ (es : List CellWord) (end : ℕ) (room : end ≤ 4096) (d : Rising 0 end es) where
  -- the r-th marked cell has rank r, and there are as many ranks as marked cells
  pub ranked : (r : ℕ) → r < length es → rank_in (lane_in (λ e. 1) es) (home_of es r) ≡ r
  ranked r h = sum_cong (home_of es r) (λ k l. lane-at es end room d (λ e. 1) k) ∙ rank-at end es 0 r h d

  pub all-marked : rank_in (lane_in (λ e. 1) es) end ≡ length es
  all-marked = sum_cong end (λ k l. lane-at es end room d (λ e. 1) k) ∙ marked_all end es 0 d

  -- it is marked, and holds its word
  pub home_value : (value : CellWord → ℕ) (r : ℕ) → r < length es → get_or (lane_in value es) (home_of es r) 0 ≡ get_or (map value es) r 0
  home_value value r h = lane-at es end room d value (home_of es r) ∙ cell_value_lem end value es 0 r 0 h d

  pub home_marked : (r : ℕ) → r < length es → get_or (lane_in (λ e. 1) es) (home_of es r) 0 ≡ 1
  home_marked r h = home_value (λ e. 1) r h ∙ ones es r h
