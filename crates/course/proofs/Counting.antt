-- Records counted in the cells that hold them: any weight of the records, summed over the cells or over the records. So what a swap counts and what a move of a run counts are the records in another cell afterwards.
use Prim.Native.Nat.{ℕ, suc, ◌+◌, ◌<◌}
use mathlib.Core.Path.{◌≡◌, refl, sym, ap, ◌∙◌}
use mathlib.Core.Logic.{⊎_elim}
use mathlib.Core.Bool.{Bool, true, false, cond}
use native.Mathlib.Omega.{arith}
use borrow.Author.Tests.{eq-eqb, ne_eqb}
use lib.Dec.{eqb}
use Rattle.laws.specs.Sums.{sum}
use Rattle.laws.proofs.Sums.{sum_cong}
use Rattle.laws.proofs.Totals.{sum_zero, sum_point, sum-two, sum-swap}
use Rattle.laws.proofs.Deciding.{same?}
use Rattle.array.specs.Cells.{cells, partner}
use Rattle.slots.specs.declared.Rec.{Rec}
use Rattle.slots.specs.declared.Cell.{Cell}
use Rattle.slots.specs.Cells.{nothing, count_of, marks_in}
use Rattle.mesh.specs.declared.Leg.{Leg}
use Rattle.mesh.specs.Lines.{reach, head_of, goes_at}
use Rattle.mesh.specs.Mesh.{line_rule_of, gone_in}
use Rattle.course.specs.Showing.{content_of, changed}
use Rattle.course.proofs.Holds.{Holds, hold0, hold1, hold2}
use Rattle.course.proofs.Content.{Rising, Fits, At, content_holds}
use Rattle.course.proofs.Lines.{spot, on_line, at_cell, spot<, line_one, reach<, head<}

-- what the records of a cell weigh, where nothing weighs nothing
module _ {R : ℕ → Rec} {b : ℕ} (z : Rising b R) (pos : ℕ → ℕ) (fits : Fits b pos) (w : ℕ → Rec → ℕ) (none : (i : ℕ) → w i nothing ≡ 0) where
  -- record k in cell i
  abbrev part : ℕ → ℕ → ℕ
  part i k = cond (eqb (pos k) i) (w i (R k)) 0

  part_is : (i k : ℕ) → pos k ≡ i → part i k ≡ w i (R k)
  part_is i k e = rw (eq-eqb (pos k) i e)

  part_not : (i k : ℕ) → (pos k ≡ i → ⊥) → part i k ≡ 0
  part_not i k d = rw (ne_eqb (pos k) i d)

  weighed : (i : ℕ) {c : Cell} → Holds R (At b pos i) c → w i c.front + w i c.spare ≡ sum b (part i)
  weighed i (hold0 e n) = rw e (omega (arith, none i, sum_zero (part i) b (λ k u. part_not i k (λ d. n k (u, d)))))
  weighed i (hold1 k e p n) =
      rw e (omega (arith, none i, sum_point (part i) b k p.0 (λ j u d. part_not i j (λ f. d (n j (u, f)))), part_is i k p.1))
  weighed i (hold2 k j e l p q n) =
      rw e
      (omega (
        arith,
        sum-two (part i) b k j l q.0 (λ h u d d'. part_not i h (λ f. ⊎_elim d d' (n h (u, f)))),
        part_is i k p.1,
        part_is i j q.1,
      ))

  pub weights : (n : ℕ) → ((k : ℕ) → k < b → pos k < n)
      → sum n (λ i. w i (content_of b R pos i).front + w i (content_of b R pos i).spare) ≡ sum b (λ k. w (pos k) (R k))
  weights n inside =
      sum_cong n (λ i u. weighed i (content_holds z pos fits i))
      ∙ sum-swap part n b
      ∙ sum_cong b (λ k u. sum_point (λ i. part i k) n (pos k) (inside k u) (λ i v d. part_not i k (λ e. d (sym e))) ∙ part_is (pos k) k refl)

-- tests that come out alike
same_test : {a b c d : ℕ} → (a ≡ b → c ≡ d) → (c ≡ d → a ≡ b) → eqb a b ≡ eqb c d
same_test {a} {b} {c} {d} f g =
    ⊎_elim
    (λ e. eq-eqb a b e ∙ sym (eq-eqb c d (f e)))
    (λ n. ne_eqb a b n ∙ sym (ne_eqb c d (λ e. n (g e))))
    (same? a b)

module _ (s : ℕ) {b : ℕ} {R : ℕ → Rec} {pos : ℕ → ℕ} (z : Rising b R) (f : Fits b pos) (inside : (r : ℕ) → r < b → pos r < cells s) where
  -- a swap counts the records whose partner is another cell
  pub swap_count : sum (cells s) (λ i. cond (eqb (partner s i) i) 0 (marks_in (content_of b R pos i))) ≡ changed b pos (λ r. partner s (pos r))
  swap_count =
      sum_cong (cells s) (λ i u. spread (eqb (partner s i) i) (content_of b R pos i))
      ∙ weights z pos f (λ i x. cond (eqb (partner s i) i) 0 (count_of x)) (λ i. spare (eqb (partner s i) i)) (cells s) inside
      ∙ sum_cong b (λ r u. rw (z.marked r u) (ap (λ (a : Bool). cond a 0 1) (same_test {a = partner s (pos r)} {b = pos r} {c = pos r} {d = partner s (pos r)} sym sym)))
    where
      spread : (a : Bool) (c : Cell) → cond a 0 (marks_in c) ≡ cond a 0 (count_of c.front) + cond a 0 (count_of c.spare)
      spread true c = refl
      spread false c = refl

      spare : (a : Bool) → ◌≡◌ {A = ℕ} (cond a 0 0) 0
      spare true = refl
      spare false = refl

-- move j of a run counts those that it takes to another cell of their line
module _ (l : Leg) {b : ℕ} {R : ℕ → Rec} {pos : ℕ → ℕ} (some : 0 < l.side) (z : Rising b R) (f : Fits b pos) (inside : (r : ℕ) → r < b → pos r < cells l.side) (j : ℕ) where
  abbrev after : ℕ → ℕ → ℕ
  after m r = reach (line_rule_of l) (head_of (line_rule_of l) (R r)) (spot l (pos r)) m

  after< : (m r : ℕ) → after m r < l.side
  after< m r = reach< l some (head_of (line_rule_of l) (R r)) (spot l (pos r)) m (head< l some (R r)) (spot< l some (pos r))

  goes : (i : ℕ) (x : Rec) → x.mark ≡ 1
      → goes_at (line_rule_of l) j i x ≡ cond (eqb (reach (line_rule_of l) (head_of (line_rule_of l) x) i (suc j)) (reach (line_rule_of l) (head_of (line_rule_of l) x) i j)) 0 1
  unfolding goes_at
  goes i x e = rw e

  none-goes : (i : ℕ) → goes_at (line_rule_of l) j i nothing ≡ 0
  unfolding goes_at
  none-goes i = refl

  pub run_count : gone_in (line_rule_of l) j (content_of b R pos)
      ≡ changed b (λ r. at_cell l (head_of (line_rule_of l) (R r)) (pos r) j) (λ r. at_cell l (head_of (line_rule_of l) (R r)) (pos r) (suc j))
  run_count =
      weights z pos f (λ i x. goes_at (line_rule_of l) j (spot l i) x) (λ i. none-goes (spot l i)) (cells l.side) inside
      ∙ sum_cong b (λ r u. goes (spot l (pos r)) (R r) (z.marked r u) ∙ ap (λ (a : Bool). cond a 0 1)
      (same_test {a = after (suc j) r} {b = after j r} {c = on_line l (pos r) (after j r)} {d = on_line l (pos r) (after (suc j) r)}
      (λ e. ap (on_line l (pos r)) (sym e))
      (λ e. sym (line_one l some (pos r) (after j r) (after (suc j) r) (after< j r) (after< (suc j) r) e))))
