-- The marked cells in the order of their indices, and lanes that were cleared: they show the marked cells' records.
use Prim.Native.Nat.{ℕ, zero, suc, ◌+◌, ◌-◌, ◌≤◌, ◌<◌}
use mathlib.Core.Path.{◌≡◌, refl, sym, ap, ◌∙◌}
use mathlib.Core.Bool.{Bool, true, false, cond}
use mathlib.Core.List.{List}
use mathlib.Core.Logic.{◌⊎◌, inl, inr, ⊎_elim}
use native.Mathlib.Omega.{arith}
use borrow.Author.Tests.{eqb-true, eqb-false, eq-eqb, ne_eqb, le-ltb}
use lib.ListN.{get_or}
use lib.Dec.{eqb}
use Rattle.laws.proofs.Sums.{sum_add}
use Rattle.laws.proofs.Deciding.{apart, same?}
use Rattle.array.specs.Cells.{cells}
use Rattle.slots.specs.declared.Rec.{Rec}
use Rattle.slots.specs.declared.Cell.{Cell}
use Rattle.slots.specs.Cells.{empty, alone, record_in}
use Rattle.course.specs.Showing.{Shows}
use Rattle.course.proofs.Holds.{Holds, hold0, hold1, holds_one}
use Rattle.course.proofs.Content.{Rising, Fits, At, content_holds}
use Rattle.marks.specs.Marks.{rank_in}
use Rattle.refusals.specs.Cases.{marked}
use Rattle.records.specs.Records.{marked_cell}
use Rattle.refusals.proofs.Aims.{RankedAims, Aimed, first-marked}

module _ (marks : List ℕ) where
  -- ranks rise over marked cells
  pub rank_past : (i j : ℕ) → i < j → get_or marks i 0 ≡ 1 → rank_in marks i < rank_in marks j
  rank_past i j l e =
      let d : suc i + (j - suc i) ≡ j = omega arith in
      omega (arith, rw d at (sum_add (suc i) (j - suc i) (λ k. get_or marks k 0)))

  pub record Found (n r i : ℕ) : Type 0 where
    pub inside : i < n
    pub marked : get_or marks i 0 ≡ 1
    pub rank : rank_in marks i ≡ r

  pub found : (n r : ℕ) → ((i : ℕ) → i < n → get_or marks i 0 ≤ 1) → r < rank_in marks n → Found n r (marked_cell marks n r)
  unfolding marked_cell
  found zero r h l = absurd (omega arith)
  found (suc n) r h l = go (eqb (get_or marks n 0) 1) refl (eqb (rank_in marks n) r) refl (found n r (λ i u. h i (omega arith)))
    where
      up : {i : ℕ} → Found n r i → Found (suc n) r i
      up f = record { inside = omega (arith, f.inside); marked = f.marked; rank = f.rank }

      go : (a : Bool) → eqb (get_or marks n 0) 1 ≡ a → (c : Bool) → eqb (rank_in marks n) r ≡ c → (r < rank_in marks n → Found n r (marked_cell marks n r))
          → Found (suc n) r (cond a (cond c n (marked_cell marks n r)) (marked_cell marks n r))
      go true e true f g = record { inside = omega arith; marked = eqb-true _ _ e; rank = eqb-true _ _ f }
      go true e false f g = up (g (omega (arith, eqb-true (get_or marks n 0) 1 e, eqb-false (rank_in marks n) r f)))
      go false e c f g = up (g (omega (arith, h n (omega arith), eqb-false (get_or marks n 0) 1 e)))

  pub marked_cell-rank_in : (n j : ℕ) → j < n → get_or marks j 0 ≡ 1 → marked_cell marks n (rank_in marks j) ≡ j
  unfolding marked_cell
  marked_cell-rank_in zero j h e = absurd (omega arith)
  marked_cell-rank_in (suc n) j h e = ⊎_elim here (λ d. before d (marked_cell-rank_in n j (omega (arith, d)) e)) (same? j n)
    where
      here : j ≡ n → cond (eqb (get_or marks n 0) 1) (cond (eqb (rank_in marks n) (rank_in marks j)) n (marked_cell marks n (rank_in marks j))) (marked_cell marks n (rank_in marks j)) ≡ j
      here d = rw (← d) (rw (eq-eqb (get_or marks j 0) 1 e, eq-eqb (rank_in marks j) (rank_in marks j) refl))

      before : (j ≡ n → ⊥) → marked_cell marks n (rank_in marks j) ≡ j
          → cond (eqb (get_or marks n 0) 1) (cond (eqb (rank_in marks n) (rank_in marks j)) n (marked_cell marks n (rank_in marks j))) (marked_cell marks n (rank_in marks j)) ≡ j
      before d ih = rw (ne_eqb (rank_in marks n) (rank_in marks j) (λ f. omega (arith, d, f, rank_past j n (omega (arith, d)) e))) (either (eqb (get_or marks n 0) 1) ih)
        where
          either : (a : Bool) {x : ℕ} → x ≡ j → cond a x x ≡ j
          either true f = f
          either false f = f

-- a cell of a table of records, each alone in its cell: `at` gives the record of each cell that has one
module _ {s b : ℕ} {R : ℕ → Rec} {start : ℕ → ℕ} {T : ℕ → Cell} (z : Rising b R) (f : Fits b start)
    (one : (j : ℕ) → j < cells s → Holds R (At b start j) (T j)) where
  alone_shows : Shows s b R start T
  alone_shows = record { shown = λ j u. holds_one (one j u) (content_holds z start f j) }

pub fits_alone : {b : ℕ} {start : ℕ → ℕ} → ((i j : ℕ) → j < b → i < j → start i ≡ start j → ⊥) → Fits b start
fits_alone h i j k l m u e e' = h i j (omega arith) l e

-- lanes before the first move: each marked cell holds its record alone, and every other nothing
pub record Cleared (s : ℕ) (words marks aims : List ℕ) (C : ℕ → Cell) : Type 0 where
  pub cells : (j : ℕ) → j < cells s → C j ≡ cond (marked marks j) (alone (record_in words marks aims j)) empty

module _ (s : ℕ) (words marks aims : List ℕ) where
  abbrev here : ℕ → Rec
  here = record_in words marks aims

  -- the marked cells of lanes that concentrate takes
  module _ (z : RankedAims s marks aims) where
    abbrev b : ℕ
    b = rank_in marks (cells s)

    abbrev start : ℕ → ℕ
    start r = marked_cell marks (cells s) r

    at : (r : ℕ) → r < b → Found marks (cells s) r (start r)
    at r h = found marks (cells s) r z.mark h

    pub start_rises : (r : ℕ) → suc r < b → start r < start (suc r)
    start_rises r h =
        let u = at r (omega arith) in
        let v = at (suc r) h in
        ⊎_elim
        (λ l. l)
        (λ l.
        absurd
        (⊎_elim
        (λ m. omega (arith, rank_past marks (start (suc r)) (start r) m v.marked, u.rank, v.rank))
        (λ m. same_rank r (omega arith) u v)
        (apart (start (suc r)) (start r))))
        (apart (start r) (start (suc r)))
      where
        same_rank : (r : ℕ) → start (suc r) ≡ start r → Found marks (cells s) r (start r) → Found marks (cells s) (suc r) (start (suc r)) → ⊥
        same_rank r e u v = omega (arith, ap (rank_in marks) e, u.rank, v.rank)

    pub start_inside : (r : ℕ) → r < b → start r < cells s
    start_inside r h = (at r h).inside

    pub start_aims : (r : ℕ) → r < b → (here (start r)).aim ≡ r
    start_aims r h = z.rank (start r) (at r h).inside (at r h).marked ∙ (at r h).rank

    pub start_rising : Rising b (λ r. here (start r))
    start_rising = record { marked = λ r h. (at r h).marked; rising = λ i j l h. rw (start_aims i (omega arith), start_aims j h) l }

    pub start_shows : {C : ℕ → Cell} → Cleared s words marks aims C → Shows s b (λ r. here (start r)) start C
    start_shows {C} e =
        alone_shows start_rising (fits_alone (λ i j u l g. omega (arith, ap (rank_in marks) g, (at i (omega arith)).rank, (at j u).rank)))
        (λ j u. go j u (same? (get_or marks j 0) 1))
      where
        go : (j : ℕ) → j < cells s → (get_or marks j 0 ≡ 1) ⊎ (get_or marks j 0 ≡ 1 → ⊥) → Holds (λ r. here (start r)) (At b start j) (C j)
        go j u (inl m) =
            let c = marked_cell-rank_in marks (cells s) j u m in
            hold1 (rank_in marks j) (e.cells j u ∙ rw (eq-eqb (get_or marks j 0) 1 m) (ap (λ (i : ℕ). alone (here i)) (sym c))) (rank_past marks j (cells s) u m, c)
            (λ k q. sym (at k q.0).rank ∙ ap (rank_in marks) q.1)
        go j u (inr d) = hold0 (e.cells j u ∙ rw (ne_eqb (get_or marks j 0) 1 d)) (λ k q. d (ap (λ (i : ℕ). get_or marks i 0) (sym q.1) ∙ (at k q.0).marked))

  -- the first cells of lanes that distribute takes
  module _ {b : ℕ} (z : Aimed s b marks aims) where
    pub aims_rise : (i j : ℕ) → i < j → j < b → get_or aims i 0 < get_or aims j 0
    aims_rise i zero l h = absurd (omega arith)
    aims_rise i (suc j) l h = ⊎_elim (λ e. rw e (z.rising j h)) (λ d. omega (arith, aims_rise i j (omega (arith, d)) (omega arith), z.rising j h)) (same? i j)

    pub first_rising : Rising b here
    first_rising = record { marked = first-marked z; rising = aims_rise }

    pub first_shows : {C : ℕ → Cell} → Cleared s words marks aims C → Shows s b here (λ r. r) C
    first_shows {C} e = alone_shows first_rising (fits_alone (λ i j u l g. omega arith)) (λ j u. ⊎_elim (taken j u) (unmarked j u) (apart j b))
      where
        taken : (j : ℕ) → j < cells s → j < b → Holds here (At b (λ r. r) j) (C j)
        taken j u h = hold1 j (e.cells j u ∙ rw (eq-eqb (get_or marks j 0) 1 (first-marked z j h))) (h, refl) (λ k q. q.1)

        unmarked : (j : ℕ) → j < cells s → b ≤ j → Holds here (At b (λ r. r) j) (C j)
        unmarked j u h =
            let m : get_or marks j 0 ≡ 0 = z.first j u ∙ rw (le-ltb j b h) in
            hold0 (e.cells j u ∙ rw (ne_eqb (get_or marks j 0) 1 (λ g. omega (arith, m, g)))) (λ k q. omega (arith, q.0, q.1))
