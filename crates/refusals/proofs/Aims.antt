-- What aims that are not refused are: in concentrate the ranks, in distribute rising over the first cells, which are the marked ones.
use Prim.Native.Nat.{ℕ, zero, suc, ◌+◌, ◌-◌, ◌≤◌, ◌<◌}
use mathlib.Core.Path.{◌≡◌, refl, ap, ◌∙◌}
use mathlib.Core.Bool.{Bool, true, false, cond, not, ◌&&◌, ◌||◌}
use mathlib.Core.Logic.{⊎_elim}
use mathlib.Core.List.{List}
use native.Mathlib.Omega.{arith}
use borrow.Author.Tests.{eqb-true, eq-eqb, ltb-false, leb-false, lt-ltb, le-ltb}
use lib.Dec.{eqb, ltb}
use lib.ListN.{length, get_or}
use Rattle.laws.proofs.Deciding.{apart, same?}
use Rattle.array.specs.Cells.{cells, is_cell}
use Rattle.array.proofs.Board.{cell_known}
use Rattle.lists.specs.declared.Trip.TheVariants.{Concentrate, Distribute}
use Rattle.marks.specs.Marks.{rank_in}
use Rattle.refusals.specs.Cases.{Good}

pub and_false : (a b : Bool) → (a && b) ≡ false → a ≡ true → b ≡ false
and_false true b h e = h
and_false false b h e = absurd (let z : ◌≡◌ {A = ℕ} 0 1 = cc in omega arith)

pub or_false : (a b : Bool) → (a || b) ≡ false → (a ≡ false) × (b ≡ false)
or_false true b h = absurd (let z : ◌≡◌ {A = ℕ} 0 1 = cc in omega arith)
or_false false b h = (refl, h)

pub not_is : (a : Bool) → not a ≡ false → a ≡ true
not_is true h = refl
not_is false h = absurd (let z : ◌≡◌ {A = ℕ} 0 1 = cc in omega arith)

-- what concentrate asks: every marked cell's aim is its rank
pub record RankedAims (s : ℕ) (marks aims : List ℕ) : Type 0 where
  pub mark : (i : ℕ) → i < cells s → get_or marks i 0 ≤ 1
  pub rank : (i : ℕ) → i < cells s → get_or marks i 0 ≡ 1 → get_or aims i 0 ≡ rank_in marks i

pub good_ranked : (s : ℕ) (marks aims : List ℕ) → length marks ≡ cells s → Good Concentrate s marks aims → RankedAims s marks aims
good_ranked s marks aims n z = record {
  mark = λ i h. omega (arith, z.marks_good i (omega arith));
  rank = λ i h e. eqb-true (get_or aims i 0) (rank_in marks i) (not_is _ (and_false (eqb (get_or marks i 0) 1) _ (z.aims_good i (omega arith)) (eq-eqb (get_or marks i 0) 1 e)));
}

-- what distribute asks: the first b cells are marked, and no other, with rising aims
pub record Aimed (s b : ℕ) (marks aims : List ℕ) : Type 0 where
  pub few : b ≤ cells s
  pub first : (i : ℕ) → i < cells s → get_or marks i 0 ≡ cond (ltb i b) 1 0
  pub rising : (r : ℕ) → suc r < b → get_or aims r 0 < get_or aims (suc r) 0
  pub below : (r : ℕ) → r < b → get_or aims r 0 < cells s

pub first-marked : {s b : ℕ} {marks aims : List ℕ} → Aimed s b marks aims → (r : ℕ) → r < b → get_or marks r 0 ≡ 1
first-marked {b = b} z r h = z.first r (omega (arith, z.few)) ∙ rw (lt-ltb r b h)

-- no more cells are marked than there are
pub few_marked : (marks : List ℕ) (n : ℕ) → ((i : ℕ) → i < n → get_or marks i 0 < 2) → rank_in marks n ≤ n
few_marked marks zero h = omega arith
few_marked marks (suc n) h = omega (arith, few_marked marks n (λ i l. h i (omega arith)), h n (omega arith))

module _ (s : ℕ) (marks aims : List ℕ) (n : length marks ≡ cells s) (z : Good Distribute s marks aims) where
  small : (i : ℕ) → i < cells s → get_or marks i 0 < 2
  small i h = z.marks_good i (omega arith)

  rank_few : (i : ℕ) → i ≤ cells s → rank_in marks i ≤ i
  rank_few i h = few_marked marks i (λ k l. small k (omega arith))

  -- what is right with a marked cell
  record Right (i : ℕ) : Type 0 where
    pub after : i ≤ rank_in marks i
    pub inside : get_or aims i 0 < cells s
    pub above : 0 < i → get_or aims (i - 1) 0 < get_or aims i 0

  right : (i : ℕ) → i < cells s → get_or marks i 0 ≡ 1 → Right i
  right i h e =
      let a = or_false (ltb (rank_in marks i) i) _ (and_false (eqb (get_or marks i 0) 1) _ (z.aims_good i (omega arith)) (eq-eqb (get_or marks i 0) 1 e)) in
      let b = or_false (not (is_cell s (get_or aims i 0))) _ a.1 in
      record {
        after = ltb-false (rank_in marks i) i a.0;
        inside = (cell_known s (get_or aims i 0) (not_is _ b.0)).inside;
        above = λ l. leb-false (get_or aims i 0) (get_or aims (i - 1) 0) (and_false (ltb 0 i) _ b.1 (lt-ltb 0 i l));
      }

  -- past an unmarked cell none is marked
  stops : (i : ℕ) → get_or marks i 0 ≡ 0 → (m : ℕ) → m ≤ cells s → rank_in marks m ≤ i
  stops i e zero h = omega arith
  stops i e (suc m) h =
      ⊎_elim
      (λ l. omega (arith, rank_few (suc m) h))
      (λ l.
      ⊎_elim
      (λ g. omega (arith, stops i e m (omega arith), g, ap (λ (k : ℕ). get_or marks k 0) g))
      (λ g.
      ⊎_elim
      (λ f. absurd (omega (arith, (right m (omega arith) f).after, stops i e m (omega arith), g)))
      (λ f. omega (arith, stops i e m (omega arith), small m (omega arith), f))
      (same? (get_or marks m 0) 1))
      (same? m i))
      (apart m i)

  rank_grows : (i d : ℕ) → rank_in marks i ≤ rank_in marks (i + d)
  rank_grows i zero =
      let e : i + 0 ≡ i = omega arith in
      rw e (omega arith)
  rank_grows i (suc d) =
      let e : i + suc d ≡ suc (i + d) = omega arith in
      rw e (omega (arith, rank_grows i d))

  pub good_aimed : Aimed s (rank_in marks (cells s)) marks aims
  good_aimed = record {
    few = rank_few (cells s) (omega arith);
    first = λ i h. ⊎_elim (is i h) (isnt i h) (same? (get_or marks i 0) 1);
    rising = λ r h. let e : suc r - 1 ≡ r = omega arith in rw e at ((right (suc r) (inside (suc r) h) (marked (suc r) h)).above (omega arith));
    below = λ r h. (right r (inside r h) (marked r h)).inside;
  }
    where
      inside : (r : ℕ) → r < rank_in marks (cells s) → r < cells s
      inside r h = omega (arith, rank_few (cells s) (omega arith))

      is : (i : ℕ) → i < cells s → get_or marks i 0 ≡ 1 → get_or marks i 0 ≡ cond (ltb i (rank_in marks (cells s))) 1 0
      is i h e =
          let d : suc i + (cells s - suc i) ≡ cells s = omega arith in
          let g : rank_in marks (suc i) ≤ rank_in marks (cells s) = rw d at (rank_grows (suc i) (cells s - suc i)) in
          rw (lt-ltb i (rank_in marks (cells s)) (omega (arith, (right i h e).after))) e

      isnt : (i : ℕ) → i < cells s → (get_or marks i 0 ≡ 1 → ⊥) → get_or marks i 0 ≡ cond (ltb i (rank_in marks (cells s))) 1 0
      isnt i h d =
          let e : get_or marks i 0 ≡ 0 = omega (arith, small i h, d) in
          rw (le-ltb i (rank_in marks (cells s)) (stops i e (cells s) (omega arith))) e

      marked : (r : ℕ) → r < rank_in marks (cells s) → get_or marks r 0 ≡ 1
      marked r h = ⊎_elim (λ e. e) (λ d. absurd (let e : get_or marks r 0 ≡ 0 = omega (arith, small r (inside r h), d) in omega (arith, stops r e (cells s) (omega arith)))) (same? (get_or marks r 0) 1)
