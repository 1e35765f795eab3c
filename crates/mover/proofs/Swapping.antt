-- Swaps of six lanes by what they do to their cells: every cell holds what its partner held.
use Prim.Native.Nat.{ℕ, zero, suc, ◌+◌, ◌≤◌, ◌<◌}
use mathlib.Core.Path.{◌≡◌, refl, sym, ap, ap₂, ◌∙◌}
use mathlib.Core.Bool.{Bool, true, false, cond}
use mathlib.Core.List.{List}
use native.Mathlib.Omega.{arith}
use borrow.Author.Tests.{eq-eqb}
use lib.Dec.{eqb}
use lib.ListN.{length, get_or}
use Rattle.laws.proofs.Sums.{sum_cong}
use Rattle.laws.proofs.Totals.{sum_few, sum-plus}
use Rattle.laws.proofs.Tables.{entry_at, length-entries}
use Rattle.laws.proofs.Pairing.{sum_away}
use Rattle.array.specs.Cells.{is_side, cells, partner, is_board}
use Rattle.array.proofs.Board.{side_known, partner_in}
use Rattle.light.specs.Counts.{leaves_of, leaving_of}
use Rattle.light.specs.Lanes.{Slots, slots, on_board, each, swapped_by, Table, Swapped}
use Rattle.light.proofs.Turning.{paired}
use Rattle.slots.specs.declared.Rec.{Rec}
use Rattle.slots.specs.declared.Cell.{Cell}
use Rattle.slots.specs.Cells.{Sized, record_in, cell_at, count_of, marks_in}
use Rattle.slots.proofs.Stored.{rec_ext}
use Rattle.mover.specs.Runs.{swapped}
use Rattle.mover.specs.Inside.{leaving}

abbrev table : List ℕ → List ℕ → List ℕ → List ℕ → List ℕ → List ℕ → Table
table w m a w₂ m₂ a₂ = record { front = slots w m a; spare = slots w₂ m₂ a₂ }

one_most : (x : Rec) → count_of x ≤ 1
one_most x = go (eqb x.mark 0)
  where
    go : (b : Bool) → cond b 0 1 ≤ 1
    go true = omega arith
    go false = omega arith

pub leaving_few : (s : ℕ) → is_side s ≡ true → (T : ℕ → Cell) → leaving s T ≤ 8192
leaving_few s side T = omega (arith, (side_known s side).cells_few, sum_few (λ i. cond (eqb (partner s i) i) 0 (marks_in (T i))) 2 (λ i. few (eqb (partner s i) i) (T i)) (cells s))
  where
    few : (a : Bool) (c : Cell) → cond a 0 (marks_in c) ≤ 2
    few true c = omega arith
    few false c = omega (arith, one_most c.front, one_most c.spare)

pub leaving-same : (s : ℕ) {T U : ℕ → Cell} → ((i : ℕ) → i < cells s → T i ≡ U i) → leaving s T ≡ leaving s U
leaving-same s e = sum_cong (cells s) (λ i h. ap (λ (c : Cell). cond (eqb (partner s i) i) 0 (marks_in c)) (e i h))

-- so many swaps look at the cells of the board only
pub swaps-same : (s : ℕ) → 0 < s → (m : ℕ) {T U : ℕ → Cell} → ((i : ℕ) → i < cells s → T i ≡ U i) → (i : ℕ) → i < cells s → swapped s m T i ≡ swapped s m U i
unfolding swapped
swaps-same s pos zero e i h = e i h
swaps-same s pos (suc m) e i h = swaps-same s pos m e (partner s i) (partner_in pos i h)

module _ (s : ℕ) (side : is_side s ≡ true) where
  -- each swap takes as many records to another cell as the one before it
  leaving-swapped : (T : ℕ → Cell) → leaving s (λ i. T (partner s i)) ≡ leaving s T
  leaving-swapped T = sum_away (paired s (side_known s side)) (λ i. marks_in (T i))

  pub leaving-swaps : (m : ℕ) (T : ℕ → Cell) → leaving s (swapped s m T) ≡ leaving s T
  unfolding swapped
  leaving-swaps zero T = refl
  leaving-swaps (suc m) T = leaving-swapped (swapped s m T) ∙ leaving-swaps m T

  -- a lane after swaps, entry by entry
  lane_long : (n : ℕ) (l : List ℕ) → length l ≡ cells s → length (swapped_by s n l) ≡ cells s
  unfolding swapped_by
  lane_long zero l e = e
  lane_long (suc n) l e =
      let b : is_board s (length (swapped_by s n l)) ≡ true = rw (side, eq-eqb (length (swapped_by s n l)) (cells s) (lane_long n l e)) in
      rw b (length-entries (λ i. get_or (swapped_by s n l) (partner s i) 0) 0 (cells s))

  lane_next : (n : ℕ) (l : List ℕ) → length l ≡ cells s → (i : ℕ) → i < cells s → get_or (swapped_by s (suc n) l) i 0 ≡ get_or (swapped_by s n l) (partner s i) 0
  unfolding swapped_by
  lane_next n l e i h =
      let b : is_board s (length (swapped_by s n l)) ≡ true = rw (side, eq-eqb (length (swapped_by s n l)) (cells s) (lane_long n l e)) in
      rw b (entry_at (λ j. get_or (swapped_by s n l) (partner s j) 0) (cells s) i 0 h)

  -- a slot after swaps
  slot-swapped : (n : ℕ) (w m a : List ℕ) → length w ≡ cells s → length m ≡ cells s → length a ≡ cells s → (i : ℕ) → i < cells s
      → record_in (swapped_by s (suc n) w) (swapped_by s (suc n) m) (swapped_by s (suc n) a) i ≡ record_in (swapped_by s n w) (swapped_by s n m) (swapped_by s n a) (partner s i)
  slot-swapped n w m a e f g i h = rec_ext (lane_next n w e i h) (lane_next n m f i h) (lane_next n a g i h)

  module _ {w m a w₂ m₂ a₂ : List ℕ} (z : Sized (cells s) w m a w₂ m₂ a₂) where
    cells-swaps : (n i : ℕ) → i < cells s
        → cell_at (swapped_by s n w) (swapped_by s n m) (swapped_by s n a) (swapped_by s n w₂) (swapped_by s n m₂) (swapped_by s n a₂) i ≡ swapped s n (cell_at w m a w₂ m₂ a₂) i
    unfolding swapped_by swapped
    cells-swaps zero i h = refl
    cells-swaps (suc n) i h =
        ap₂ (λ (x y : Rec). record { front = x; spare = y })
        (slot-swapped n w m a z.words z.marks z.aims i h)
        (slot-swapped n w₂ m₂ a₂ z.words2 z.marks2 z.aims2 i h)
        ∙ cells-swaps n (partner s i) (partner_in (side_known s side).least i h)

    -- both slots' lanes are a board's
    on : (w m a : List ℕ) → length w ≡ cells s → length m ≡ cells s → length a ≡ cells s → on_board s (slots w m a) ≡ true
    on w m a e f g = rw (side, eq-eqb (length w) (cells s) e, eq-eqb (length m) (cells s) f, eq-eqb (length a) (cells s) g)

    front_on : on_board s (slots w m a) ≡ true
    front_on = on w m a z.words z.marks z.aims

    spare_on : on_board s (slots w₂ m₂ a₂) ≡ true
    spare_on = on w₂ m₂ a₂ z.words2 z.marks2 z.aims2

    module _ {w' m' a' w₂' m₂' a₂' : List ℕ} (n : ℕ) {r : ℕ} (q : Swapped s n (table w m a w₂ m₂ a₂) (table w' m' a' w₂' m₂' a₂') r) where
      front_so : slots w' m' a' ≡ each (swapped_by s n) (slots w m a)
      front_so = q.front ∙ ap (λ (b : Bool). each (swapped_by s (cond b n 0)) (slots w m a)) front_on

      spare_so : slots w₂' m₂' a₂' ≡ each (swapped_by s n) (slots w₂ m₂ a₂)
      spare_so = q.spare ∙ ap (λ (b : Bool). each (swapped_by s (cond b n 0)) (slots w₂ m₂ a₂)) spare_on

      pub cells-swapped : (i : ℕ) → i < cells s → cell_at w' m' a' w₂' m₂' a₂' i ≡ swapped s n (cell_at w m a w₂ m₂ a₂) i
      cells-swapped i h =
          ap₂ (λ (t u : Slots). cell_at t.words t.marks t.aims u.words u.marks u.aims i) front_so spare_so
          ∙ cells-swaps n i h

      pub swap_count : r ≡ cond (eqb n 0) 0 (leaving s (cell_at w m a w₂ m₂ a₂))
      swap_count =
          q.count
          ∙ ap₂ (λ (b c : Bool). cond (eqb (cond b n 0) 0) 0 (leaving_of s m) + cond (eqb (cond c n 0) 0) 0 (leaving_of s m₂)) front_on spare_on
          ∙ both (eqb n 0) (leaving_of s m) (leaving_of s m₂)
          ∙ ap (cond (eqb n 0) 0)
          (sym (sum-plus (λ i. leaves_of (partner s i) i (get_or m i 0)) (λ i. leaves_of (partner s i) i (get_or m₂ i 0)) (cells s)) ∙ sum_cong (cells s) (λ i h. both (eqb (partner s i) i) _ _))
        where
          both : (b : Bool) (x y : ℕ) → cond b 0 x + cond b 0 y ≡ cond b 0 (x + y)
          both true x y = refl
          both false x y = refl
