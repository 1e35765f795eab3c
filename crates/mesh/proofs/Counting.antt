-- How many records go in a move of a run, by how far those had to go that went in it.
use Prim.Native.Nat.{ℕ, zero, suc, ◌+◌, ◌*◌, ◌/◌, ◌≤◌, ◌<◌, min}
use mathlib.Core.Path.{◌≡◌, refl, sym, ap, ap₂, ◌∙◌}
use mathlib.Core.Bool.{Bool, true, false, cond, not}
use native.Mathlib.Nat.{mod-lt}
use native.Mathlib.Omega.{arith}
use borrow.Author.Tests.{eq-eqb, ne_eqb, lt-ltb}
use lib.Dec.{eqb, ltb}
use Rattle.laws.specs.Sums.{sum}
use Rattle.laws.proofs.Sums.{sum_cong}
use Rattle.laws.proofs.Totals.{sum_zero, sum_point, sum-swap, sum_few, sum-plus}
use Rattle.array.specs.Cells.{is_side, cells}
use Rattle.array.proofs.Board.{side_known}
use Rattle.slots.specs.declared.Rec.{Rec}
use Rattle.slots.specs.declared.Cell.{Cell}
use Rattle.mesh.specs.declared.lines.LineRule.{LineRule}
use Rattle.mesh.specs.declared.Leg.{Leg}
use Rattle.mesh.specs.Lines.{head_of, reach, leaves, goes_at, cells_to_go, went_of, went_from, goes_in}
use Rattle.mesh.specs.Mesh.{line_rule_of, spot_of, gone_in, went_in}
use Rattle.mesh.specs.Inside.{gone_of}
use Rattle.mesh.proofs.Walking.{goes_in_lem, gone_some, leaves-gone}
use Rattle.mesh.proofs.Ruling.{distance_few}
use Rattle.mesh.proofs.Groups.{cell_few}

-- a sum of choices between two sums
spread : (b : Bool) (n : ℕ) (f : ℕ → ℕ) → cond b (sum n f) 0 ≡ sum n (λ i. cond b (f i) 0)
spread true n f = refl
spread false n f = sym (sum_zero (λ i. 0) n (λ i h. refl))

-- one record, in cell p of its line
module _ (t : LineRule) (j p : ℕ) (x : Rec) (few : t.side ≤ 8) (pos : 0 < t.side) (p< : p < t.side) (h : j < t.made) (within : t.made ≤ t.times) where
  abbrev far : ℕ
  far = cells_to_go t p (head_of t x)

  abbrev goes : Bool
  goes = goes_in t.late t.times j far

  far< : far < 8
  far< = distance_few t p (head_of t x) (omega arith) (omega (arith, mod-lt (x.aim / t.unit) pos))

  -- it goes in move j by its distance, if it is there
  goes_by : goes_at t j p x ≡ cond (eqb x.mark 0) 0 (cond goes 1 0)
  unfolding goes_at
  goes_by = ap (λ (b : Bool). cond (eqb x.mark 0) 0 (cond b 0 1)) (goes_in_lem t (head_of t x) p j (omega arith)) ∙ ap (cond (eqb x.mark 0) 0) (turned goes)
    where
      turned : (b : Bool) → ◌≡◌ {A = ℕ} (cond (not b) 0 1) (cond b 1 0)
      turned true = refl
      turned false = refl

  -- of all distances only its own counts
  went_by : sum 8 (λ d. cond (goes_in t.late t.times j d) (went_of t d p x) 0) ≡ cond goes (cond (leaves t p x) 1 0) 0
  unfolding went_of
  went_by =
      sum_point (λ d. cond (goes_in t.late t.times j d) (cond (leaves t p x) (cond (eqb d far) 1 0) 0) 0) 8 far far<
      (λ d u n. rw (ne_eqb d far n) (none (goes_in t.late t.times j d) (leaves t p x)))
      ∙ rw (eq-eqb far far refl)
    where
      none : (a b : Bool) → ◌≡◌ {A = ℕ} (cond a (cond b 0 0) 0) 0
      none true true = refl
      none true false = refl
      none false b = refl

  -- what goes in the move has left
  leaves_by : leaves t p x ≡ cond (eqb x.mark 0) false (ltb 0 (gone_of t far))
  unfolding leaves
  leaves_by = ap (cond (eqb x.mark 0) false) (leaves-gone t (head_of t x) p within)

  pub one_goes : goes_at t j p x ≡ sum 8 (λ d. cond (goes_in t.late t.times j d) (went_of t d p x) 0)
  one_goes = goes_by ∙ sym (went_by ∙ ap (λ (b : Bool). cond goes (cond b 1 0) 0) leaves_by ∙ go (eqb x.mark 0) goes refl)
    where
      go : (a b : Bool) → goes ≡ b → ◌≡◌ {A = ℕ} (cond b (cond (cond a false (ltb 0 (gone_of t far))) 1 0) 0) (cond a 0 (cond b 1 0))
      go true true e = refl
      go true false e = refl
      go false true e = rw (lt-ltb 0 (gone_of t far) (gone_some t j far h within e))
      go false false e = refl

-- reach, and so who goes, does not look at how many moves are made
reach-made : (s stride unit : ℕ) (up down late : Bool) (times m m' head p k : ℕ)
    → reach (record { side = s; stride = stride; unit = unit; up = up; down = down; late = late; times = times; made = m }) head p k
    ≡ reach (record { side = s; stride = stride; unit = unit; up = up; down = down; late = late; times = times; made = m' }) head p k
unfolding reach
reach-made s stride unit up down late times m m' head p zero = refl
reach-made s stride unit up down late times m m' head p (suc k) = rw (reach-made s stride unit up down late times m m' head p k)

goes-made : (l : Leg) (m j p : ℕ) (x : Rec) → goes_at (line_rule_of l) j p x ≡ goes_at (line_rule_of (record { side = l.side; way = l.way; low = l.low; late = l.late; times = l.times; made = m })) j p x
unfolding goes_at
goes-made l m j p x =
    let t = line_rule_of l in
    let e : (k : ℕ) → reach t (head_of t x) p k ≡ reach (line_rule_of (record { side = l.side; way = l.way; low = l.low; late = l.late; times = l.times; made = m })) (head_of t x) p k = λ k.
    reach-made t.side t.stride t.unit t.up t.down t.late t.times t.made (min m l.times) (head_of t x) p k in
    ap₂ (λ (a b : ℕ). cond (eqb x.mark 0) 0 (cond (eqb a b) 0 1)) (e (suc j)) (e j)

-- a leg with another number of moves made
abbrev pub up_to : Leg → ℕ → Leg
up_to l m = record { side = l.side; way = l.way; low = l.low; late = l.late; times = l.times; made = m }

pub gone-made : (l : Leg) (m j : ℕ) (T : ℕ → Cell) → gone_in (line_rule_of l) j T ≡ gone_in (line_rule_of (up_to l m)) j T
gone-made l m j T = sum_cong (cells l.side) (λ i h. ap₂ ◌+◌ (same (spot_of (line_rule_of l) i) (T i).front) (same (spot_of (line_rule_of l) i) (T i).spare))
  where
    same : (p : ℕ) (x : Rec) → goes_at (line_rule_of l) j p x ≡ goes_at (line_rule_of (up_to l m)) j p x
    same p x = goes-made l m j p x

-- how many go in move j, by how far those had to go that left
pub gone_by_went : (l : Leg) (j : ℕ) (T : ℕ → Cell) → is_side l.side ≡ true → j < l.made → l.made ≤ l.times
    → gone_in (line_rule_of l) j T ≡ sum 8 (λ d. cond (goes_in l.late l.times j d) (went_in (line_rule_of l) d T) 0)
gone_by_went l j T side h u =
    let t = line_rule_of l in
    let k = side_known l.side side in
    let n = cells l.side in
    let m : t.made ≡ l.made = omega arith in
    sum_cong n (λ i v. ap₂ ◌+◌
    (one_goes t j (spot_of t i) (T i).front k.most k.least (mod-lt (i / t.stride) k.least) (omega (arith, m)) (omega (arith, m)))
    (one_goes t j (spot_of t i) (T i).spare k.most k.least (mod-lt (i / t.stride) k.least) (omega (arith, m)) (omega (arith, m)))
    ∙ sym (sum-plus (λ d. cond (goes_in l.late l.times j d) (went_of t d (spot_of t i) (T i).front) 0) (λ d. cond (goes_in l.late l.times j d) (went_of t d (spot_of t i) (T i).spare) 0) 8)
    ∙ sum_cong 8 (λ d w. both (goes_in l.late l.times j d) (went_of t d (spot_of t i) (T i).front) (went_of t d (spot_of t i) (T i).spare)))
    ∙ sum-swap (λ i d. cond (goes_in l.late l.times j d) (went_from t d (spot_of t i) (T i)) 0) n 8
    ∙ sum_cong 8 (λ d w. sym (spread (goes_in l.late l.times j d) n (λ i. went_from t d (spot_of t i) (T i))))
  where
    both : (b : Bool) (x y : ℕ) → cond b x 0 + cond b y 0 ≡ cond b (x + y) 0
    both true x y = refl
    both false x y = refl

-- few go in a move
one_most : (t : LineRule) (j p : ℕ) (x : Rec) → goes_at t j p x ≤ 1
unfolding goes_at
one_most t j p x = go (eqb x.mark 0) (eqb (reach t (head_of t x) p (suc j)) (reach t (head_of t x) p j))
  where
    go : (a b : Bool) → cond a 0 (cond b 0 1) ≤ 1
    go true b = omega arith
    go false true = omega arith
    go false false = omega arith

pub gone_few : (l : Leg) (j : ℕ) (T : ℕ → Cell) → gone_in (line_rule_of l) j T ≤ cells l.side * 2
gone_few l j T =
    let t = line_rule_of l in
    sum_few (λ i. goes_at t j (spot_of t i) (T i).front + goes_at t j (spot_of t i) (T i).spare) 2
    (λ i. omega (arith, one_most t j (spot_of t i) (T i).front, one_most t j (spot_of t i) (T i).spare)) (cells l.side)

pub went_few : (l : Leg) (d : ℕ) (T : ℕ → Cell) → went_in (line_rule_of l) d T ≤ cells l.side * 2
went_few l d T =
    let t = line_rule_of l in
    sum_few (λ i. went_from t d (spot_of t i) (T i)) 2 (λ i. cell_few t d (spot_of t i) (T i)) (cells l.side)
