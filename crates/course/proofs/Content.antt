-- From cells to records: cells that hold records where they stand hold them where they go, after a run of electronic moves.
use Prim.Native.Nat.{ℕ, zero, suc, ◌≤◌, ◌<◌}
use mathlib.Core.Path.{◌≡◌, refl, sym, ap, ◌∙◌}
use mathlib.Core.Logic.{◌⊎◌, inl, inr, ⊎_elim}
use mathlib.Core.Bool.{Bool, true, false, cond}
use native.Mathlib.Omega.{arith}
use borrow.Author.Tests.{eqb-true, eqb-false, eq-eqb, not-false}
use lib.Dec.{eqb}
use Rattle.laws.proofs.Bools.{both_left, both_right}
use Rattle.laws.proofs.Deciding.{apart}
use Rattle.slots.specs.declared.Rec.{Rec}
use Rattle.slots.specs.declared.Cell.{Cell}
use Rattle.slots.specs.Cells.{nothing, joined}
use Rattle.mesh.specs.declared.Leg.{Leg}
use Rattle.mesh.specs.Lines.{end_of, leaves, none_leaves, is_still, landed, gathered}
use Rattle.mesh.proofs.Laying.{stays_all}
use Rattle.mesh.specs.Mesh.{line_rule_of, ran_on}
use Rattle.course.specs.Showing.{content_of}
use Rattle.course.proofs.Holds.{Holds, hold0, hold1, hold2, only, same_holds, holds_one, passes, join_none, joins, joins_both}
use Rattle.course.proofs.Lines.{spot, on_line, spot<, own_spot, spot-line, line-line, end<}

-- records of rising aims
pub record Rising (b : ℕ) (R : ℕ → Rec) : Type 0 where
  pub marked : (k : ℕ) → k < b → (R k).mark ≡ 1
  pub rising : (i j : ℕ) → i < j → j < b → (R i).aim < (R j).aim

-- at most two in a cell
abbrev pub Fits : ℕ → (ℕ → ℕ) → Type 0
Fits b pos = (i j k : ℕ) → i < j → j < k → k < b → pos i ≡ pos j → pos j ≡ pos k → ⊥

-- record k is one of b and stands in cell j
abbrev pub At : ℕ → (ℕ → ℕ) → ℕ → ℕ → Type 0
At b pos j k = (k < b) × (pos k ≡ j)

-- so there is room for those that stand in one cell
few : {b : ℕ} {pos : ℕ → ℕ} → Fits b pos → (c i j k : ℕ) → i < j → j < k → At b pos c i → At b pos c j → At b pos c k → ⊥
few f c i j k l m p q r = f i j k l m r.0 (p.1 ∙ sym q.1) (q.1 ∙ sym r.1)

module _ {R : ℕ → Rec} {b : ℕ} (z : Rising b R) (pos : ℕ → ℕ) (f : Fits b pos) where
  pub content_some : (n : ℕ) → n ≤ b → (j : ℕ) → Holds R (At n pos j) (content_of n R pos j)
  unfolding content_of
  content_some zero h j = hold0 refl (λ k q. omega arith)
  content_some (suc n) h j = go (eqb (pos n) j) refl (content_some n (omega arith) j)
    where
      go : (a : Bool) → eqb (pos n) j ≡ a → Holds R (At n pos j) (content_of n R pos j)
          → Holds R (At (suc n) pos j) (cond a (joined (content_of n R pos j) (R n)) (content_of n R pos j))
      go true e s =
          same_holds
          (λ k. ⊎_elim (λ q. (omega arith, q.1)) (λ q. (omega arith, ap pos q ∙ eqb-true (pos n) j e)))
          (λ k q. ⊎_elim (λ l. inl (l, q.1)) (λ l. inr (omega arith)) (apart k n))
          (joins R b z.marked z.rising (At b pos j) (λ k q. q.0) (few {pos = pos} f j) n (h, eqb-true (pos n) j e) (λ q. omega arith) (λ k q. (omega arith, q.1)) s)
      go false e s =
          same_holds
          (λ k q. (omega arith, q.1))
          (λ k q. ⊎_elim (λ l. (l, q.1)) (λ l. absurd (eqb-false (pos n) j e (ap pos (omega arith) ∙ q.1))) (apart k n))
          s

  pub content_holds : (j : ℕ) → Holds R (At b pos j) (content_of b R pos j)
  content_holds j = content_some b (omega arith) j

-- a record that does not leave ends where it is
staying : (l : Leg) (p : ℕ) (x : Rec) → x.mark ≡ 1 → leaves (line_rule_of l) p x ≡ false → end_of (line_rule_of l) p x ≡ p
unfolding leaves
staying l p x e f = eqb-true (end_of (line_rule_of l) p x) p (not-false _ (rw e at f))

-- what is put down of a cell is what of it ends here
both-landed : (l : Leg) (p q : ℕ) (x c : Cell)
    → landed (line_rule_of l) p q x.spare (landed (line_rule_of l) p q x.front c)
    ≡ joined (joined c (only (eqb (end_of (line_rule_of l) q x.front) p) (eqb (end_of (line_rule_of l) q x.spare) p) x).front) (only (eqb (end_of (line_rule_of l) q x.front) p) (eqb (end_of (line_rule_of l) q x.spare) p) x).spare
unfolding landed
both-landed l p q x c = go (eqb (end_of (line_rule_of l) q x.front) p) (eqb (end_of (line_rule_of l) q x.spare) p)
  where
    go : (u v : Bool) → cond v (joined (cond u (joined c x.front) c) x.spare) (cond u (joined c x.front) c) ≡ joined (joined c (only u v x).front) (only u v x).spare
    go true true = refl
    go true false = sym (join_none (joined c x.front))
    go false true = sym (join_none (joined c x.spare))
    go false false = sym (join_none (joined c nothing) ∙ join_none c)

-- what a run asks of the records that it moves
pub record Runs (l : Leg) (b : ℕ) (R : ℕ → Rec) (pos post : ℕ → ℕ) : Type 0 where
  pub some : 0 < l.side
  pub rising : Rising b R
  pub before : Fits b pos
  pub after : Fits b post
  pub next : (k : ℕ) → k < b → post k ≡ on_line l (pos k) (end_of (line_rule_of l) (spot l (pos k)) (R k))

module _ {l : Leg} {b : ℕ} {R : ℕ → Rec} {pos post : ℕ → ℕ} (m : Runs l b R pos post) (i : ℕ) where
  abbrev p : ℕ
  p = spot l i

  abbrev end : ℕ → ℕ → ℕ
  end q k = end_of (line_rule_of l) q (R k)

  abbrev line : ℕ → Cell
  line q = content_of b R pos (on_line l i q)

  -- record k comes from cell q of the line
  abbrev From : ℕ → ℕ → Type 0
  From q k = At b pos (on_line l i q) k

  -- it is here in the end, and was in one of the first q cells
  abbrev Here : ℕ → ℕ → Type 0
  Here q k = At b post i k × (spot l (pos k) < q)

  p< : p < l.side
  p< = spot< l m.some i

  -- from its cell on the line a record gets here just where its way ends here
  was : (q k : ℕ) → q < l.side → From q k → spot l (pos k) ≡ q
  was q k h f = ap (spot l) f.1 ∙ spot-line l m.some i q h

  comes : (q k : ℕ) → q < l.side → From q k → end q k ≡ p → At b post i k
  comes q k h f e = (
    f.0,
    m.next k f.0
        ∙ ap (λ (j : ℕ). on_line l (pos k) (end j k)) (was q k h f)
        ∙ ap (λ (j : ℕ). on_line l j (end q k)) f.1
        ∙ line-line l m.some i q (end q k) h
        ∙ ap (on_line l i) e
        ∙ own_spot l m.some i,
  )

  ends : (k : ℕ) → At b post i k → end (spot l (pos k)) k ≡ p
  ends k a = sym (spot-line l m.some (pos k) _ (end< l m.some (spot l (pos k)) (R k) (spot< l m.some (pos k)))) ∙ ap (spot l) (sym (m.next k a.0) ∙ a.1)

  came : (k : ℕ) → At b post i k → From (spot l (pos k)) k
  came k a = (
    a.0,
    sym (own_spot l m.some (pos k))
        ∙ sym (line-line l m.some (pos k) _ (spot l (pos k)) (end< l m.some (spot l (pos k)) (R k) (spot< l m.some (pos k))))
        ∙ ap (λ (j : ℕ). on_line l j (spot l (pos k))) (sym (m.next k a.0) ∙ a.1),
  )

  -- what comes from cell q of the line and ends here
  abbrev Comes : ℕ → ℕ → Type 0
  Comes q k = From q k × (eqb (end q k) p ≡ true)

  ended : (q k : ℕ) → Comes q k → end q k ≡ p
  ended q k c = eqb-true (end q k) p c.1

  next_here : (q k : ℕ) → q < l.side → Here (suc q) k → Here q k ⊎ Comes q k
  next_here q k h o =
      ⊎_elim
      (λ u. inl (o.0, u))
      (λ u.
      let e : spot l (pos k) ≡ q = omega arith in
      inr ((rw e at (came k o.0)), eq-eqb (end q k) p (rw e at (ends k o.0))))
      (apart (spot l (pos k)) q)

  -- never three on the way, for there are never three at the end
  gathered_holds : (q : ℕ) → q ≤ l.side → Holds R (Here q) (gathered (line_rule_of l) (λ q. content_of b R pos (on_line l i q)) (spot l i) q)
  unfolding gathered
  gathered_holds zero h = hold0 refl (λ k o. omega arith)
  gathered_holds (suc q) h =
      rw (both-landed l p q (line q) (gathered (line_rule_of l) line p q))
      (same_holds
      (λ k. ⊎_elim (λ o. (o.0, omega arith)) (λ c. (comes q k h c.0 (ended q k c), omega (arith, was q k h c.0))))
      (λ k. next_here q k h)
      (joins_both R b m.rising.marked m.rising.rising (At b post i) (λ k a. a.0) (few {pos = post} m.after i)
      (λ k o c. omega (arith, o.1, was q k h c.0)) (λ k o. o.0) (λ k c. comes q k h c.0 (ended q k c))
      (gathered_holds q (omega arith))
      (passes (λ x. eqb (end_of (line_rule_of l) q x) p) (content_holds m.rising pos m.before (on_line l i q)))))

  -- a record of a still line stays where it is
  stays : is_still (line_rule_of l) line ≡ true → (q k : ℕ) → q < l.side → From q k → end q k ≡ q
  stays still q k h f = staying l q (R k) (m.rising.marked k f.0) (held_stays (content_holds m.rising pos m.before (on_line l i q)) k f)
    where
      fronts : leaves (line_rule_of l) q (line q).front ≡ false
      fronts = stays_all (line_rule_of l) (λ q. (line q).front) l.side (both_left _ (none_leaves (line_rule_of l) (λ q. (line q).spare) l.side) still) q h

      spares : leaves (line_rule_of l) q (line q).spare ≡ false
      spares = stays_all (line_rule_of l) (λ q. (line q).spare) l.side (both_right (none_leaves (line_rule_of l) (λ q. (line q).front) l.side) _ still) q h

      held_stays : Holds R (From q) (line q) → (k : ℕ) → From q k → leaves (line_rule_of l) q (R k) ≡ false
      held_stays (hold0 e n) k f = absurd (n k f)
      held_stays (hold1 a e x n) k f = rw (n k f) (ap (λ (c : Cell). leaves (line_rule_of l) q c.front) (sym e) ∙ fronts)
      held_stays (hold2 a c e u x y n) k f =
          ⊎_elim
          (λ d. rw d (ap (λ (c : Cell). leaves (line_rule_of l) q c.front) (sym e) ∙ fronts))
          (λ d. rw d (ap (λ (c : Cell). leaves (line_rule_of l) q c.spare) (sym e) ∙ spares))
          (n k f)

  still_here : is_still (line_rule_of l) line ≡ true → Holds R (At b post i) (line p)
  still_here still =
      same_holds
      (λ k f. comes p k p< f (stays still p k p< f))
      (λ k a.
      let e : spot l (pos k) ≡ p = sym (stays still (spot l (pos k)) k (spot< l m.some (pos k)) (came k a)) ∙ ends k a in
      rw e at (came k a))
      (content_holds m.rising pos m.before (on_line l i p))

  pub ran_content : ran_on (line_rule_of l) (content_of b R pos) i ≡ content_of b R post i
  unfolding ran_on
  ran_content = holds_one (go (is_still (line_rule_of l) line) refl) (content_holds m.rising post m.after i)
    where
      go : (a : Bool) → is_still (line_rule_of l) line ≡ a → Holds R (At b post i) (cond a (line p) (gathered (line_rule_of l) line p l.side))
      go true e = still_here e
      go false e = same_holds (λ k o. o.0) (λ k a. (a, spot< l m.some (pos k))) (gathered_holds l.side (omega arith))
