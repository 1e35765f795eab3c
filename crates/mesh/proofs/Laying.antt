-- A line that moves: each record is put down where its moves take it.
use Prim.Native.Nat.{ℕ, zero, suc, ◌+◌, ◌*◌, ◌≤◌, ◌<◌, min}
use mathlib.Core.Path.{◌≡◌, refl, sym, ap, ap₂, subst, ◌∙◌}
use mathlib.Core.Logic.{◌⊎◌, inl, inr, ⊎_elim}
use mathlib.Core.Bool.{Bool, true, false, cond, not}
use mathlib.Core.List.{List}
use native.Mathlib.Nat.{add-zero}
use native.Mathlib.Numerals.{add-one}
use native.Mathlib.Omega.{arith}
use borrow.Author.Tests.{eq-eqb, ne_eqb, lt-ltb, le-ltb, not-true, not-false}
use lib.Dec.{eqb, ltb}
use lib.ListN.{length, get_or, set, replicate}
use Rattle.laws.specs.Lent.{Lent, old, new}
use Rattle.laws.proofs.Bools.{both_left, both_right}
use Rattle.laws.proofs.Sums.{sum_cong}
use Rattle.laws.proofs.Totals.{sum_zero, sum_few}
use Rattle.laws.proofs.Deciding.{apart, same?}
use Rattle.laws.proofs.Setting.{get_or_stored}
use Rattle.slots.specs.declared.Rec.{Rec}
use Rattle.slots.specs.declared.Cell.{Cell}
use Rattle.slots.specs.Cells.{nothing, empty, joined}
use Rattle.mesh.specs.declared.lines.LineRule.{LineRule}
use Rattle.mesh.specs.declared.lines.Arrival.{Arrival}
use Rattle.mesh.specs.Lines.{head_of, end_of, reach, leaves, none_leaves, is_still, landed, gathered, cells_to_go, went_of, went_from}
use Rattle.mesh.specs.Inside.{gone_of, Taken, LaidSlots, cells_of, Lands, Arrives, PutDown, LinePutDown, RanLine}
use Rattle.mesh.proofs.Walking.{leaves-gone}
use Rattle.mesh.proofs.Ruling.{distance_few}
use Rattle.mesh.proofs.Spots.{gathered-same}
use Rattle.mesh.proofs.Groups.{went_few, cell_few}

-- a record without a mark is none
none_joins : (c : Cell) (x : Rec) → x.mark ≡ 0 → joined c x ≡ c
unfolding joined
none_joins c x e = rw e

one_less : (b : Bool) (c c' : Cell) → c ≡ c' → cond b c c' ≡ c'
one_less true c c' e = e
one_less false c c' e = refl

none_went : (t : LineRule) (d p : ℕ) (x : Rec) → x.mark ≡ 0 → went_of t d p x ≡ 0
unfolding went_of leaves
none_went t d p x e = rw e

-- a record with a mark went where it lands in another cell
went_lands : (t : LineRule) (d p : ℕ) (x : Rec) {r : Arrival} → (x.mark ≡ 0 → ⊥) → Lands t p (head_of t x) r → went_of t d p x ≡ cond (eqb d r.far) r.went 0
unfolding went_of leaves
went_lands t d p x {r} m z = rw (ne_eqb x.mark 0 m, z.far, z.went, z.at) (go (eqb (end_of t p x) p) (eqb d (cells_to_go t p (head_of t x))))
  where
    go : (a b : Bool) → ◌≡◌ {A = ℕ} (cond (not a) (cond b 1 0) 0) (cond b (cond a 0 1) 0)
    go true true = refl
    go true false = refl
    go false b = refl

-- the arrival of a record, of numbers that the code has
pub lands : {t : LineRule} {p h on : ℕ} {r : Arrival} → t.side ≤ 8 → t.made ≤ t.times → p < t.side → h < t.side → r.far ≡ cells_to_go t p h → on ≡ gone_of t r.far → r.went ≡ min on 1
    → (r.at ≡ reach t h p t.made) × (r.at < t.side) → Lands t p h r
lands {t} {p} {h} {on} {r} few within p< h< f g w a = record {
  far = f;
  few = omega (arith, f, distance_few t p h (omega arith) (omega arith));
  at = a.0;
  on = a.1;
  went = w ∙ ⊎_elim
      (λ l. let e : eqb r.at p ≡ false = told ∙ not-true _ (turned ∙ lt-ltb 0 on l) in rw e (omega (arith, l)))
      (λ l. let e : eqb r.at p ≡ true = told ∙ not-false _ (turned ∙ le-ltb 0 on l) in rw e (omega (arith, l)))
      (apart 0 on);
}
  where
    told : eqb r.at p ≡ eqb (reach t h p t.made) p
    told = ap (λ (n : ℕ). eqb n p) a.0

    turned : not (eqb (reach t h p t.made) p) ≡ ltb 0 on
    turned = leaves-gone t h p within ∙ ap (ltb 0) (sym (g ∙ ap (gone_of t) f))

pub went_one : {t : LineRule} {p h : ℕ} {r : Arrival} → Lands t p h r → r.went ≤ 1
went_one {t} {p} {h} {r} z = rw z.went (go (eqb r.at p))
  where
    go : (b : Bool) → cond b 0 1 ≤ 1
    go true = omega arith
    go false = omega arith

-- of a slot with a record
pub arrives_some : {t : LineRule} {p h : ℕ} {x : Rec} {r : Arrival} → (x.mark ≡ 0 → ⊥) → h ≡ head_of t x → Lands t p h r → Arrives t p x r
unfolding landed
arrives_some {t} {p} {h} {x} {r} m e z =
    let y : Lands t p (head_of t x) r = subst (λ (h : ℕ). Lands t p h r) e z in
    record {
      few = y.few;
      on = y.on;
      one = went_one y;
      lands = λ j c. ⊎_elim
          (λ i. rw (eq-eqb j r.at i, eq-eqb (end_of t p x) j (sym (i ∙ y.at))))
          (λ i. rw (ne_eqb j r.at i, ne_eqb (end_of t p x) j (λ n. i (sym (y.at ∙ n)))))
          (same? j r.at);
      went = λ d. sym (went_lands t d p x m y);
    }

-- an empty line
pub no_cells : (n : ℕ) {c : Cell} → c ≡ empty → (j : ℕ) → j < n → get_or (replicate n c) j empty ≡ empty
no_cells zero e j h = absurd (omega arith)
no_cells (suc n) e zero h = e
no_cells (suc n) e (suc j) h = no_cells n e j (omega arith)

-- what is no record is put down by doing nothing
pub put_none : {t : LineRule} {p : ℕ} {x : Rec} (counts : List ℕ) (line : List Cell) → x.mark ≡ 0 → PutDown t p x counts counts line line
unfolding landed
put_none {t} {p} {x} counts line m = record {
  made = λ j u. sym (one_less (eqb (end_of t p x) j) _ _ (none_joins _ x m));
  count = λ d u. omega (arith, none_went t d p x m);
}

-- and a record so
pub put_some : {t : LineRule} {p : ℕ} {x : Rec} {r : Arrival} {counts : List ℕ} {line : List Cell} {v : ℕ} {met : Cell}
    → t.side ≤ 8 → length counts ≡ 8 → length line ≡ 8 → Arrives t p x r → v ≡ get_or counts r.far 0 + r.went
    → met ≡ joined (get_or line r.at empty) x → PutDown t p x counts (set counts r.far v) line (set line r.at met)
put_some {t} {p} {x} {r} {counts} {line} {v} {met} few long line_long y g o = record {
  made = λ j u. get_or_stored line r.at j met empty (omega (arith, line_long, y.on)) ∙ put j (same? j r.at) ∙ y.lands j (get_or line j empty);
  count = λ d u. get_or_stored counts r.far d v 0 (omega (arith, long, y.few)) ∙ add d (same? d r.far)
      ∙ ap (λ (n : ℕ). get_or counts d 0 + n) (y.went d);
}
  where
    put : (j : ℕ) → (j ≡ r.at) ⊎ (j ≡ r.at → ⊥) → cond (eqb j r.at) met (get_or line j empty) ≡ cond (eqb j r.at) (joined (get_or line j empty) x) (get_or line j empty)
    put j (inl i) = rw (eq-eqb j r.at i) (o ∙ ap (λ (n : ℕ). joined (get_or line n empty) x) (sym i))
    put j (inr i) = rw (ne_eqb j r.at i)

    add : (d : ℕ) → (d ≡ r.far) ⊎ (d ≡ r.far → ⊥) → cond (eqb d r.far) v (get_or counts d 0) ≡ get_or counts d 0 + cond (eqb d r.far) r.went 0
    add d (inl i) = rw (eq-eqb d r.far i) (omega (arith, g, ap (λ (n : ℕ). get_or counts n 0) i))
    add d (inr i) = rw (ne_eqb d r.far i) (sym (add-zero (get_or counts d 0)))

-- the records of the first cells were put down
pub record Settling (t : LineRule) (U : ℕ → Cell) (q : ℕ) (counts counts' : List ℕ) (line : List Cell) : Type 0 where
  pub within : q ≤ t.side
  pub done : LinePutDown t U q counts counts' line

pub settling_start : (t : LineRule) (U : ℕ → Cell) {counts : List ℕ} {line : List Cell}
    → ((j : ℕ) → j < 8 → get_or line j empty ≡ empty) → Settling t U 0 counts counts line
unfolding gathered
settling_start t U {counts} g =
    record { within = omega arith; done = record { made = g; count = λ d h. sym (add-zero (get_or counts d 0)) } }

pub settling_step : {t : LineRule} {U : ℕ → Cell} {q : ℕ} {counts c₁ c₂ c₃ : List ℕ} {l₁ l₂ l₃ : List Cell} → q < t.side
    → PutDown t q (U q).front c₁ c₂ l₁ l₂ → PutDown t q (U q).spare c₂ c₃ l₂ l₃ → Settling t U q counts c₁ l₁ → Settling t U (q + 1) counts c₃ l₃
unfolding gathered
settling_step {t} {U} {q} h x y z = rw add-one (record {
  within = omega arith;
  done = record {
    made = λ j u. y.made j u ∙ ap (landed t j q (U q).spare) (x.made j u ∙ ap (landed t j q (U q).front) (z.done.made j u));
    count = λ d u. omega (arith, y.count d u, x.count d u, z.done.count d u);
  };
})

pub put_few : {t : LineRule} {p : ℕ} {x : Rec} {counts counts' : List ℕ} {line line' : List Cell} → PutDown t p x counts counts' line line'
    → (d : ℕ) → d < 8 → get_or counts' d 0 ≤ get_or counts d 0 + 1
put_few {t} {p} {x} z d h = omega (arith, z.count d h, went_few t d p x)

-- there is room for both records of the next cell
pub settling_few : {t : LineRule} {U : ℕ → Cell} {q : ℕ} {counts counts' : List ℕ} {line : List Cell} → t.side ≤ 8 → q < t.side
    → Settling t U q counts counts' line → (d : ℕ) → d < 8 → get_or counts' d 0 ≤ get_or counts d 0 + 14
settling_few {t} {U} {q} few u z d h = omega (arith, z.done.count d h, few, sum_few (λ i. went_from t d i (U i)) 2 (λ i. cell_few t d i (U i)) q)

-- the cells of a table by its front slots and its spare ones
abbrev both : (ℕ → Rec) → (ℕ → Rec) → ℕ → Cell
both S S₂ i = record { front = S i; spare = S₂ i }

-- a line that something leaves
pub ran_moved : {t : LineRule} {start : ℕ} {S S₂ S' S₂' : ℕ → Rec} (fronts spares ahead behind : List Rec) {line : List Cell} {a b : List ℕ}
    {counts : Lent} → t.side ≤ 8 → is_still t (λ q. both S S₂ (start + q * t.stride)) ≡ false → Taken t start S fronts → Taken t start S₂ spares
    → LinePutDown t (cells_of fronts spares) t.side a b line → ((p : ℕ) → p < 8 → get_or ahead p nothing ≡ (get_or line p empty).front)
    → ((p : ℕ) → p < 8 → get_or behind p nothing ≡ (get_or line p empty).spare) → LaidSlots t start ahead S S'
    → LaidSlots t start behind S₂ S₂' → a ≡ old counts → b ≡ new counts → RanLine t start counts (both S S₂) (both S' S₂')
ran_moved {t} {start} {S} {S₂} fronts spares ahead behind {line} {a} {b} {counts} few still f g m front spare l l₂ e e' =
    let on : (q : ℕ) → q < t.side → cells_of fronts spares q ≡ both S S₂ (start + q * t.stride) = λ q u. ap₂ (λ (x y : Rec). record { front = x; spare = y }) (f.is q u) (g.is q u) in
    record {
      made = λ p h. ap₂ (λ (x y : Rec). record { front = x; spare = y }) (l.made p h ∙ front p (omega arith)) (l₂.made p h ∙ spare p (omega arith))
          ∙ m.made p (omega arith)
          ∙ gathered-same t on p t.side (omega arith) ∙ sym (rw still);
      kept = λ j d. ap₂ (λ (x y : Rec). record { front = x; spare = y }) (l.kept j d) (l₂.kept j d);
      count = λ d h. ap (λ (k : List ℕ). get_or k d 0) (sym e') ∙ m.count d h
          ∙ ap₂ (λ (k : List ℕ) (n : ℕ). get_or k d 0 + n) e (sum_cong t.side (λ p u. ap (went_from t d p) (on p u)));
    }

-- a line that nothing leaves
pub stays_all : (t : LineRule) (S : ℕ → Rec) (n : ℕ) → none_leaves t S n ≡ true → (p : ℕ) → p < n → leaves t p (S p) ≡ false
unfolding none_leaves
stays_all t S zero e p h = absurd (omega arith)
stays_all t S (suc n) e p h =
    ⊎_elim
    (λ i. rw i (not-true (leaves t n (S n)) (both_right (none_leaves t S n) _ e)))
    (λ i. stays_all t S n (both_left (none_leaves t S n) _ e) p (omega (arith, i)))
    (same? p n)

pub ran_still : {t : LineRule} {start : ℕ} {T : ℕ → Cell} {counts : Lent} → is_still t (λ q. T (start + q * t.stride)) ≡ true → new counts ≡ old counts → RanLine t start counts T T
unfolding went_of
ran_still {t} {start} {T} {counts} still e = record {
  made = λ p u. sym (rw still);
  kept = λ j d. refl;
  count = λ d u. ap (λ (l : List ℕ). get_or l d 0) e ∙ omega (arith, sum_zero (λ p. went_from t d p (T (start + p * t.stride))) t.side (none d));
}
  where
    stays : (p : ℕ) → p < t.side → (leaves t p (T (start + p * t.stride)).front ≡ false) × (leaves t p (T (start + p * t.stride)).spare ≡ false)
    stays p h = (
      stays_all t (λ q. (T (start + q * t.stride)).front) t.side (both_left _ (none_leaves t (λ q. (T (start + q * t.stride)).spare) t.side) still) p h,
      stays_all t (λ q. (T (start + q * t.stride)).spare) t.side (both_right (none_leaves t (λ q. (T (start + q * t.stride)).front) t.side) _ still) p h,
    )

    none : (d p : ℕ) → p < t.side → went_from t d p (T (start + p * t.stride)) ≡ 0
    none d p h = rw ((stays p h).0, (stays p h).1)
