-- The lines of a group make a run one after the other, and so do the groups of a board.
use Prim.Native.Nat.{ℕ, zero, suc, ◌+◌, ◌-◌, ◌*◌, ◌/◌, ◌≤◌, ◌<◌}
use mathlib.Core.Path.{◌≡◌, refl, sym, ap, ap₂, subst, ◌∙◌}
use mathlib.Core.Logic.{⊎_elim}
use mathlib.Core.Bool.{Bool, true, false, cond}
use mathlib.Core.List.{List}
use native.Mathlib.Nat.{suc-mul, mul-le-mul_right, div-add-mod', mod-le, mul-one}
use native.Mathlib.Numerals.{add-one}
use native.Mathlib.Omega.{arith}
use borrow.Author.Tests.{lt-ltb, le-ltb, eq-eqb, eqb-true}
use lib.Dec.{eqb, ltb}
use lib.ListN.{get_or}
use Rattle.laws.specs.Lent.{Lent}
use Rattle.laws.proofs.Bools.{never}
use Rattle.laws.specs.Sums.{sum}
use Rattle.laws.proofs.Sums.{sum_cong, sum_add, sum-blocks}
use Rattle.laws.proofs.Totals.{sum_zero, sum_few, sum-swap}
use Rattle.laws.proofs.Deciding.{apart, same?}
use Rattle.array.specs.Cells.{groups, cells}
use Rattle.slots.specs.declared.Rec.{Rec}
use Rattle.slots.specs.declared.Cell.{Cell}
use Rattle.mesh.specs.declared.lines.LineRule.{LineRule}
use Rattle.mesh.specs.Lines.{head_of, reach, leaves, none_leaves, cells_to_go, ran_line, went_of, went_from}
use Rattle.mesh.specs.Mesh.{spot_of, line_cell, ran_on, went_in, RanLanes}
use Rattle.mesh.specs.Inside.{Strided, line_step, moving_groups, Lies, RanLine, RanGroup, RanPart}
use Rattle.mesh.proofs.Spots.{by_stride, run_same, line_of, spotted, split, line_in, ran_spotted, ran-part}

-- few records leave a cell, and so a line and a group
pub went_few : (t : LineRule) (d p : ℕ) (x : Rec) → went_of t d p x ≤ 1
unfolding went_of
went_few t d p x = go (leaves t p x) (eqb d (cells_to_go t p (head_of t x)))
  where
    go : (a b : Bool) → cond a (cond b 1 0) 0 ≤ 1
    go true true = omega arith
    go true false = omega arith
    go false b = omega arith

pub cell_few : (t : LineRule) (d p : ℕ) (c : Cell) → went_from t d p c ≤ 2
cell_few t d p c = omega (arith, went_few t d p c.front, went_few t d p c.spare)

-- the lines below l have run, and the others are as they were
pub record Lined (t : LineRule) (l : ℕ) (T C : ℕ → Cell) (old counts : List ℕ) : Type 0 where
  pub upto : l ≤ t.side
  pub made : (i : ℕ) → i < groups t.side → C i ≡ cond (ltb (line_of t i) l) (ran_on t T i) (T i)
  pub count : (d : ℕ) → d < 8 → get_or counts d 0 ≡ get_or old d 0 + sum l (λ k. sum t.side (λ p. went_from t d p (T (k * line_step t + p * t.stride))))

pub lined_few : {t : LineRule} {l : ℕ} {T C : ℕ → Cell} {old counts : List ℕ} → t.side ≤ 8 → Lined t l T C old counts → (d : ℕ) → d < 8 → get_or counts d 0 ≤ get_or old d 0 + 128
lined_few {t} {l} {T} few z d h =
    let a : (k : ℕ) → sum t.side (λ p. went_from t d p (T (k * line_step t + p * t.stride))) ≤ 16 = λ k.
    omega (arith, few, sum_few (λ p. went_from t d p (T (k * line_step t + p * t.stride))) 2 (λ p. cell_few t d p (T (k * line_step t + p * t.stride))) t.side) in
    omega (arith, z.count d h, z.upto, few, sum_few (λ k. sum t.side (λ p. went_from t d p (T (k * line_step t + p * t.stride)))) 16 a l)

pub line_lies : (t : LineRule) → 0 < t.side → Strided t → groups t.side ≤ 64 → (l : ℕ) → l < t.side → Lies t (groups t.side) (l * line_step t)
line_lies t pos z few l h = record { inside = λ p u. line_in t pos z l p h u; short = few }

module _ {t : LineRule} {l : ℕ} {T C C' : ℕ → Cell} {old now₁ : List ℕ} {counts : Lent} (pos : 0 < t.side) (stride : 0 < t.stride) (z : Strided t) (h : l < t.side)
    (y : Lined t l T C old now₁) (r : RanLine t (l * line_step t) counts C C') where
  abbrev start : ℕ
  start = l * line_step t

  -- the cells of line l are as they were
  as_was : (p : ℕ) → p < t.side → C (start + p * t.stride) ≡ T (start + p * t.stride)
  as_was p u = let x = spotted t pos z l p h u in rw (le-ltb (line_of t (start + p * t.stride)) l (omega (arith, x.line))) at (y.made (start + p * t.stride) (line_in t pos z l p h u))

  here : (i : ℕ) → i < groups t.side → line_of t i ≡ l → C' i ≡ ran_on t T i
  here i u e =
      let x = split t pos z i u in
      let k : start + spot_of t i * t.stride ≡ i = ap (λ (n : ℕ). n * line_step t + spot_of t i * t.stride) (sym e) ∙ x.is in
      let v = spotted t pos z l (spot_of t i) h x.spot< in
      ap C' (sym k) ∙ r.made (spot_of t i) x.spot< ∙ run_same t (λ q w. as_was q w) (spot_of t i) x.spot<
      ∙ sym (ran_spotted t start (spot_of t i) T v.spot x.spot<) ∙ ap (ran_on t T) k

  there : (i : ℕ) → i < groups t.side → (line_of t i ≡ l → ⊥) → C' i ≡ C i
  there i u d = r.kept i (λ p w e. d (ap (line_of t) e ∙ (spotted t pos z l p h w).line))

  pub lined_step : counts.entry.now ≡ now₁ → Lined t (l + 1) T C' old counts.exit.now
  lined_step e = rw add-one (record {
    upto = omega arith;
    made = λ i u. ⊎_elim
        (λ a. rw (lt-ltb (line_of t i) (suc l) (omega arith)) (here i u a))
        (λ a. there i u a ∙ y.made i u ∙ ap (λ (b : Bool). cond b (ran_on t T i) (T i)) (⊎_elim
        (λ b. lt-ltb (line_of t i) l b ∙ sym (lt-ltb (line_of t i) (suc l) (omega arith)))
        (λ b. le-ltb (line_of t i) l b ∙ sym (le-ltb (line_of t i) (suc l) (omega (arith, a, b))))
        (apart (line_of t i) l)))
        (same? (line_of t i) l);
    count = λ d u. r.count d u ∙ ap₂ ◌+◌ (ap (λ (b : List ℕ). get_or b d 0) e ∙ y.count d u) (sum_cong t.side (λ p w. ap (went_from t d p) (as_was p w))) ∙ omega arith;
  })

-- the cells of a group, line by line and as they come
by_cells : (t : LineRule) → 0 < t.side → Strided t → (f : ℕ → ℕ) → sum t.side (λ l. sum t.side (λ p. f (l * line_step t + p * t.stride))) ≡ sum (groups t.side) f
by_cells t pos z f =
    by_stride t pos z
    (λ e g. rw (g, e) (sum_cong t.side (λ l u. sum_cong t.side (λ p v. ap (λ (n : ℕ). f (l * t.side + n)) (mul-one p))) ∙ sym (sum-blocks t.side t.side f)))
    (λ e g. rw (g, e)
    (sum-swap (λ l p. f (l * 1 + p * t.side)) t.side t.side
    ∙ sum_cong t.side (λ p u. sum_cong t.side (λ l v. ap f (omega arith)))
    ∙ sym (sum-blocks t.side t.side f)))

pub lined_end : {t : LineRule} {l : ℕ} {T C : ℕ → Cell} {old : List ℕ} {counts : Lent} → 0 < t.side → Strided t → t.side ≤ l → old ≡ counts.entry.now
    → Lined t l T C old counts.exit.now → RanGroup t counts T C
lined_end {t} {l} {T} {C} {old} {counts} pos z h e y =
    let f : l ≡ t.side = omega (arith, y.upto) in
    record {
      made = λ i u. rw (lt-ltb (line_of t i) l (omega (arith, f, (split t pos z i u).line<))) at (y.made i u);
      count = λ d u. y.count d u ∙ ap₂ (λ (k : List ℕ) (n : ℕ). get_or k d 0 + sum n (λ k. sum t.side (λ p. went_from t d p (T (k * line_step t + p * t.stride))))) e f
          ∙ ap (λ (n : ℕ). get_or counts.entry.now d 0 + n) (sum_cong t.side (λ k v. sum_cong t.side (λ p w. ap (λ (n : ℕ). went_from t d n (T (k * line_step t + p * t.stride))) (sym (spotted t pos z k p v w).spot)))
          ∙ by_cells t pos z (λ i. went_from t d (spot_of t i) (T i)));
    }

-- the groups below g have run, whose cells are those below base
pub record Ranged (t : LineRule) (g base : ℕ) (T C : ℕ → Cell) (counts : List ℕ) : Type 0 where
  pub upto : base ≡ g * groups t.side
  pub within : g ≤ groups t.side
  pub made : (i : ℕ) → i < cells t.side → C i ≡ cond (ltb i base) (ran_on t T i) (T i)
  pub count : (d : ℕ) → d < 8 → get_or counts d 0 ≡ sum base (λ i. went_from t d (spot_of t i) (T i))

pub ranged_start : (t : LineRule) (T : ℕ → Cell) {old : List ℕ} → ((d : ℕ) → get_or old d 0 ≡ 0) → Ranged t 0 0 T T old
ranged_start t T f = record { upto = omega arith; within = omega arith; made = λ i u. rw (le-ltb i 0 (omega arith)); count = λ d h. f d }

pub ranged_few : {t : LineRule} {g base : ℕ} {T C : ℕ → Cell} {counts : List ℕ} → base ≤ 4096 → Ranged t g base T C counts → (d : ℕ) → d < 8 → get_or counts d 0 ≤ 8192
ranged_few {t} {g} {base} {T} few z d h = omega (arith, few, z.count d h, sum_few (λ i. went_from t d (spot_of t i) (T i)) 2 (λ i. cell_few t d (spot_of t i) (T i)) base)

-- the next group lies among the cells
pub part_fits : (N g base : ℕ) → g < N → base ≡ g * N → base + N ≤ N * N
part_fits N g base h e = omega (arith, mul-le-mul_right {m = suc g} {n = N} N h, suc-mul g N)

module _ {t : LineRule} {g base : ℕ} {T C : ℕ → Cell} {now₁ : List ℕ} (pos : 0 < t.side) (strided : Strided t) (l : g < groups t.side) (z : Ranged t g base T C now₁) where
  abbrev N : ℕ
  N = groups t.side

  fits : base + N ≤ N * N
  fits = part_fits N g base l z.upto

  -- the cells of group g are as they were
  still : (i : ℕ) → i < N → C (base + i) ≡ T (base + i)
  still i h = rw (le-ltb (base + i) base (omega arith)) at (z.made (base + i) (omega (arith, fits)))

  -- a run of the group is one of the table as it was
  ran_still : (i : ℕ) → i < N → ran_on t C (base + i) ≡ ran_on t T (base + i)
  ran_still i h =
      rw z.upto
      (sym (ran-part t pos strided g (λ k. C (g * N + k)) C (λ k u. refl) i h)
      ∙ ran-part t pos strided g (λ k. C (g * N + k)) T (λ k u. rw z.upto at (still k u)) i h)

  pub ranged_step : {C' : ℕ → Cell} {counts : Lent} → counts.entry.now ≡ now₁ → RanPart t base counts C C'
      → Ranged t (g + 1) (base + groups t.side) T C' counts.exit.now
  ranged_step {C'} {counts} e m = record {
    upto = omega (arith, z.upto, suc-mul g N);
    within = omega arith;
    made = λ i u. ⊎_elim (below i u) (λ h. ⊎_elim (here i h) (above i u) (apart i (base + N))) (apart i base);
    count = λ d h. m.count d h ∙ ap₂ ◌+◌ (ap (λ (b : List ℕ). get_or b d 0) e ∙ z.count d h) (sum_cong N (λ i u. ap (went_from t d (spot_of t (base + i))) (still i u))) ∙ sym (sum_add base N (λ i. went_from t d (spot_of t i) (T i)));
  }
    where
      below : (i : ℕ) → i < cells t.side → i < base → C' i ≡ cond (ltb i (base + N)) (ran_on t T i) (T i)
      below i u h = rw (lt-ltb i (base + N) (omega arith)) (m.before i h ∙ (rw (lt-ltb i base h) at (z.made i u)))

      here : (i : ℕ) → base ≤ i → i < base + N → C' i ≡ cond (ltb i (base + N)) (ran_on t T i) (T i)
      here i h u =
          let e : base + (i - base) ≡ i = omega arith in
          rw (lt-ltb i (base + N) u) (rw e at (m.made (i - base) (omega arith) ∙ ran_still (i - base) (omega arith)))

      above : (i : ℕ) → i < cells t.side → base + N ≤ i → C' i ≡ cond (ltb i (base + N)) (ran_on t T i) (T i)
      above i u h = rw (le-ltb i (base + N) h) (m.after i h ∙ (rw (le-ltb i base (omega arith)) at (z.made i u)))

-- a run of which no move is made does nothing
module _ (t : LineRule) (none : t.made ≡ 0) where
  stays_there : (p : ℕ) (x : Rec) → leaves t p x ≡ false
  unfolding leaves reach
  stays_there p x = rw (none, eq-eqb p p refl) (either (eqb x.mark 0))
    where
      either : (b : Bool) → cond b false false ≡ false
      either true = refl
      either false = refl

  all_stay : (S : ℕ → Rec) (n : ℕ) → none_leaves t S n ≡ true
  unfolding none_leaves
  all_stay S zero = refl
  all_stay S (suc n) = rw (all_stay S n, stays_there n (S n))

  pub still_none : (U : ℕ → Cell) (p : ℕ) → ran_line t U p ≡ U p
  still_none U p = rw (all_stay (λ q. (U q).front) t.side, all_stay (λ q. (U q).spare) t.side)

  pub ran-nothing : (T : ℕ → Cell) (i : ℕ) → 0 < t.side → 0 < t.stride → ran_on t T i ≡ T i
  unfolding ran_on
  ran-nothing T i pos stride =
      still_none (λ q. T (line_cell t i q)) (spot_of t i)
      ∙ ap T (omega (arith, mul-le-mul_right {m = spot_of t i} {n = i / t.stride} t.stride (mod-le (i / t.stride) t.side), div-add-mod' i t.stride))

  went_none : (d p : ℕ) (c : Cell) → went_from t d p c ≡ 0
  unfolding went_of
  went_none d p c = rw (stays_there p c.front, stays_there p c.spare)

  pub went_nothing : (d : ℕ) (T : ℕ → Cell) → went_in t d T ≡ 0
  went_nothing d T = sum_zero (λ i. went_from t d (spot_of t i) (T i)) (cells t.side) (λ i w. went_none d (spot_of t i) (T i))

-- the groups that have something to do are among all
pub moving_few : (t : LineRule) {g n : ℕ} → n ≡ moving_groups t → g < n → g < groups t.side
moving_few t {g} {n} e h = go (eqb t.made 0) e
  where
    go : (b : Bool) → n ≡ cond b 0 (groups t.side) → g < groups t.side
    go true f = absurd (omega arith)
    go false f = omega arith

pub ranged_end : {lanes : Bool} {t u : LineRule} {g n base : ℕ} {T C : ℕ → Cell} {counts : List ℕ} → lanes ≡ true → t ≡ u → 0 < t.side → 0 < t.stride → n ≡ moving_groups t → n ≤ g
    → Ranged t g base T C counts → RanLanes lanes u counts T C
ranged_end {lanes} {t} {u} {g} {n} {base} {T} {C} {counts} e f pos stride k h z =
    subst (λ (u : LineRule). RanLanes lanes u counts T C) f
    (record { made = λ y. made (eqb t.made 0) refl; went = λ y. went (eqb t.made 0) refl; kept = λ y. absurd (never e y); none = λ y. absurd (never e y) })
  where
    all : eqb t.made 0 ≡ false → base ≡ cells t.side
    all o =
        let m : n ≡ groups t.side = k ∙ ap (λ (b : Bool). cond b 0 (groups t.side)) o in
        z.upto ∙ ap (λ (n : ℕ). n * groups t.side) (omega (arith, z.within, m))

    made : (b : Bool) → eqb t.made 0 ≡ b → (i : ℕ) → i < cells t.side → C i ≡ ran_on t T i
    made true o i v = z.made i v ∙ same (ltb i base) (ran-nothing t (eqb-true t.made 0 o) T i pos stride)
      where
        same : (b : Bool) → ran_on t T i ≡ T i → cond b (ran_on t T i) (T i) ≡ ran_on t T i
        same true w = refl
        same false w = sym w
    made false o i v = rw (lt-ltb i base (omega (arith, all o))) at (z.made i v)

    went : (b : Bool) → eqb t.made 0 ≡ b → (d : ℕ) → d < 8 → get_or counts d 0 ≡ went_in t d T
    went true o d v =
        z.count d v ∙ sum_zero (λ i. went_from t d (spot_of t i) (T i)) base (λ i w. went_none t (eqb-true t.made 0 o) d (spot_of t i) (T i))
        ∙ sym (went_nothing t (eqb-true t.made 0 o) d T)
    went false o d v = z.count d v ∙ ap (λ (n : ℕ). sum n (λ i. went_from t d (spot_of t i) (T i))) (all o)
