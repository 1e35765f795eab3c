-- The cells of a line. Every cell of a group is on one line, and a run of a cell looks at the cells of its line only.
use Prim.Native.Nat.{ℕ, zero, suc, ◌+◌, ◌-◌, ◌*◌, ◌/◌, ◌%◌, ◌≤◌, ◌<◌}
use mathlib.Core.Path.{◌≡◌, refl, sym, ap, ap₂, ◌∙◌}
use mathlib.Core.Logic.{⊎_elim}
use native.Mathlib.Nat.{mod-lt, div-one, mul-one, mul_assoc, mul-add-mod_self_right, mul-add-div_right, div-lt_iff_lt-mul, mod-eq_of_lt, div-add-mod'}
use native.Mathlib.Omega.{arith}
use borrow.Author.Tests.{eq-eqb, ne_eqb}
use lib.Arith.{digits_div, digits_mod, digits_lt}
use Rattle.laws.proofs.Deciding.{same?}
use Rattle.array.specs.Cells.{groups}
use Rattle.slots.specs.declared.Cell.{Cell}
use Rattle.mesh.specs.declared.lines.LineRule.{LineRule}
use Rattle.mesh.specs.Lines.{landed, gathered, ran_line}
use Rattle.mesh.specs.Mesh.{spot_of, line_cell, ran_on}
use Rattle.mesh.specs.Inside.{Strided, line_step}
use Rattle.mesh.proofs.Slots.{leaves-same}

-- a run of a line looks at the line's cells only
pub gathered-same : (t : LineRule) {U W : ℕ → Cell} → ((q : ℕ) → q < t.side → U q ≡ W q) → (p n : ℕ) → n ≤ t.side → gathered t U p n ≡ gathered t W p n
unfolding gathered
gathered-same t e p zero l = refl
gathered-same t e p (suc n) l = ap₂ (λ (c d : Cell). landed t p n c.spare (landed t p n c.front d)) (e n (omega arith)) (gathered-same t e p n (omega arith))

pub run_same : (t : LineRule) {U W : ℕ → Cell} → ((q : ℕ) → q < t.side → U q ≡ W q) → (p : ℕ) → p < t.side → ran_line t U p ≡ ran_line t W p
run_same t {U} {W} e p h =
    let f = leaves-same t (λ q. (U q).front) (λ q. (W q).front) t.side (λ q u. (ap (λ (c : Cell). c.front.mark) (e q u), ap (λ (c : Cell). c.front.aim) (e q u))) in
    let g = leaves-same t (λ q. (U q).spare) (λ q. (W q).spare) t.side (λ q u. (ap (λ (c : Cell). c.spare.mark) (e q u), ap (λ (c : Cell). c.spare.aim) (e q u))) in
    rw (f, g, e p h, gathered-same t e p t.side (omega arith))

-- which line of its group a cell is on
abbrev pub line_of : LineRule → ℕ → ℕ
line_of t i = i / line_step t % t.side

-- cell p of line l
pub record Spotted (t : LineRule) (l p i : ℕ) : Type 0 where
  pub spot : spot_of t i ≡ p
  pub line : line_of t i ≡ l

pub record Split (t : LineRule) (i : ℕ) : Type 0 where
  pub line< : line_of t i < t.side
  pub spot< : spot_of t i < t.side
  pub is : line_of t i * line_step t + spot_of t i * t.stride ≡ i

module _ (t : LineRule) (pos : 0 < t.side) (z : Strided t) where
  abbrev s : ℕ
  s = t.side

  -- a line is a row, or a column that is none
  pub by_stride : {A : Type 0} → (t.stride ≡ 1 → line_step t ≡ t.side → A) → (t.stride ≡ t.side → line_step t ≡ 1 → A) → A
  by_stride f g =
      ⊎_elim
      (λ e. f e (rw (eq-eqb t.stride 1 e)))
      (λ d. ⊎_elim (λ e. absurd (d e)) (λ e. g e (rw (ne_eqb t.stride 1 d))) z)
      (same? t.stride 1)

  pub spotted : (l p : ℕ) → l < t.side → p < t.side → Spotted t l p (l * line_step t + p * t.stride)
  spotted l p h k = by_stride row column
    where
      row : t.stride ≡ 1 → line_step t ≡ t.side → Spotted t l p (l * line_step t + p * t.stride)
      row e f = record {
        spot = rw (f, e, mul-one p, div-one (l * s + p)) (digits_mod l k);
        line = rw (f, e, mul-one p) (ap (λ (n : ℕ). n % s) (digits_div l k) ∙ mod-eq_of_lt h);
      }

      column : t.stride ≡ t.side → line_step t ≡ 1 → Spotted t l p (l * line_step t + p * t.stride)
      column e f =
          let c : l * 1 + p * s ≡ p * s + l = omega arith in
          record {
            spot = rw (f, e, c) (ap (λ (n : ℕ). n % s) (digits_div p h) ∙ mod-eq_of_lt k);
            line = rw (f, e, c, div-one (p * s + l)) (digits_mod p h);
          }

  pub split : (i : ℕ) → i < groups t.side → Split t i
  split i h = by_stride row column
    where
      quotient : i / s < s
      quotient = (div-lt_iff_lt-mul pos).1 h

      row : t.stride ≡ 1 → line_step t ≡ t.side → Split t i
      row e f = record {
        line< = mod-lt (i / line_step t) pos;
        spot< = mod-lt (i / t.stride) pos;
        is = rw (f, e, div-one i, mul-one (i % s), mod-eq_of_lt quotient) (div-add-mod' i s);
      }

      column : t.stride ≡ t.side → line_step t ≡ 1 → Split t i
      column e f = record {
        line< = mod-lt (i / line_step t) pos;
        spot< = mod-lt (i / t.stride) pos;
        is = rw (f, e, div-one i, mul-one (i % s), mod-eq_of_lt quotient) (omega (arith, div-add-mod' i s));
      }

  -- a line lies in its group
  pub line_in : (l q : ℕ) → l < t.side → q < t.side → l * line_step t + q * t.stride < groups t.side
  line_in l q h k = by_stride row column
    where
      row : t.stride ≡ 1 → line_step t ≡ t.side → l * line_step t + q * t.stride < groups t.side
      row e f = rw (f, e, mul-one q) (digits_lt h k)

      column : t.stride ≡ t.side → line_step t ≡ 1 → l * line_step t + q * t.stride < groups t.side
      column e f = rw (f, e) (omega (arith, digits_lt k h))

  -- the same in group g
  pub spot-shifted : (g i : ℕ) → spot_of t (g * groups t.side + i) ≡ spot_of t i
  spot-shifted g i = by_stride row column
    where
      row : t.stride ≡ 1 → line_step t ≡ t.side → spot_of t (g * groups t.side + i) ≡ spot_of t i
      row e f = rw (e, div-one (g * groups s + i), div-one i, ← mul_assoc g s s) (mul-add-mod_self_right (g * s) s i)

      column : t.stride ≡ t.side → line_step t ≡ 1 → spot_of t (g * groups t.side + i) ≡ spot_of t i
      column e f = rw (e, ← mul_assoc g s s, mul-add-div_right pos (g * s) i) (mul-add-mod_self_right g s (i / s))

-- cell q of the line of a cell of which the place on it is known
pub line-cell : (t : LineRule) (start p q : ℕ) → spot_of t (start + p * t.stride) ≡ p → line_cell t (start + p * t.stride) q ≡ start + q * t.stride
line-cell t start p q e = ap (λ (n : ℕ). start + p * t.stride - n * t.stride + q * t.stride) e ∙ omega arith

-- a cell of line l of a group
pub ran_spotted : (t : LineRule) (start p : ℕ) (T : ℕ → Cell) → spot_of t (start + p * t.stride) ≡ p → p < t.side
    → ran_on t T (start + p * t.stride) ≡ ran_line t (λ q. T (start + q * t.stride)) p
unfolding ran_on
ran_spotted t start p T e h =
    run_same t (λ q u. ap T (line-cell t start p q e)) (spot_of t (start + p * t.stride)) (omega (arith, e)) ∙ ap (ran_line t (λ q. T (start + q * t.stride))) e

-- the cells of group g, as a table by itself
pub ran-part : (t : LineRule) → 0 < t.side → Strided t → (g : ℕ) (T U : ℕ → Cell) → ((i : ℕ) → i < groups t.side → T i ≡ U (g * groups t.side + i)) → (i : ℕ) → i < groups t.side
    → ran_on t T i ≡ ran_on t U (g * groups t.side + i)
unfolding ran_on
ran-part t pos z g T U e i h =
    let x = split t pos z i h in
    let l = line_of t i in
    let p = spot_of t i in
    let here : (q : ℕ) → line_cell t i q ≡ l * line_step t + q * t.stride = λ q. omega (arith, x.is) in
    let k : spot_of t (g * groups t.side + i) ≡ p = spot-shifted t pos z g i in
    let there : (q : ℕ) → line_cell t (g * groups t.side + i) q ≡ g * groups t.side + line_cell t i q = λ q. ap (λ (n : ℕ). g * groups t.side + i - n * t.stride + q * t.stride) k ∙ omega (arith, x.is) in
    run_same t (λ q u. e (line_cell t i q) (rw (here q) (on_line_lem q u)) ∙ ap U (sym (there q))) p x.spot<
    ∙ ap (ran_line t (λ q. U (line_cell t (g * groups t.side + i) q))) (sym k)
  where
    on_line_lem : (q : ℕ) → q < t.side → line_of t i * line_step t + q * t.stride < groups t.side
    on_line_lem q u = line_in t pos z (line_of t i) q (split t pos z i h).line< u
