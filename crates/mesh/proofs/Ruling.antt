-- What the rule of a board is known by: the digit of an aim by a product, and that its numbers are small.
use Prim.Native.Nat.{ℕ, ◌-◌, ◌*◌, ◌/◌, ◌%◌, ◌<◌}
use mathlib.Core.Path.{◌≡◌, sym, ap, ◌∙◌}
use mathlib.Core.Bool.{Bool, true, false, cond}
use mathlib.Core.Logic.{inl, inr, ⊎_elim}
use native.Mathlib.Nat.{mul-pos}
use native.Mathlib.Omega.{arith}
use borrow.Author.Tests.{eq-eqb, ne_eqb, eqb-true}
use lib.Dec.{ltb}
use Rattle.laws.proofs.Deciding.{same?}
use Rattle.array.proofs.Board.{Side, side_known}
use Rattle.slots.specs.declared.Rec.{Rec}
use Rattle.mesh.specs.declared.lines.LineRule.{LineRule}
use Rattle.mesh.specs.declared.lines.BoardRule.{BoardRule}
use Rattle.mesh.specs.Lines.{digit_of, head_of, leaves, cells_to_go}
use Rattle.mesh.specs.Inside.{gone_of, Strided, is_strided}
use Rattle.mesh.proofs.Fractions.{digit_told}
use Rattle.mesh.proofs.Walking.{leaves-gone}

-- a line is a row or a column of a group
pub strided_by : (t : LineRule) → is_strided t ≡ true → Strided t
strided_by t e = ⊎_elim (λ f. inl f) (λ d. inr (eqb-true t.stride t.side (rw (ne_eqb t.stride 1 d) at e))) (same? t.stride 1)

module _ (by : BoardRule) where
  abbrev t : LineRule
  t = by.rule

  abbrev share : ℕ
  share = by.share

  pub strided : Strided t
  strided = strided_by t by.strided

  pub known : Side t.side
  known = side_known t.side by.side

  period_pos : 0 < t.side * t.unit
  period_pos = mul-pos known.least by.unit

  pub digit_by : (x : ℕ) → x < 65536 → x * share % 4294967296 * t.side / 4294967296 ≡ digit_of t.side t.unit x
  digit_by x h = ap (λ (k : ℕ). x * k % 4294967296 * t.side / 4294967296) by.shared ∙ digit_told x t.side t.unit known.least by.unit period_pos by.few h

  -- a record leaves that goes at least one cell
  pub leaves-marked : (p : ℕ) (x : Rec) → (x.mark ≡ 0 → ⊥) → leaves t p x ≡ ltb 0 (gone_of t (cells_to_go t p (head_of t x)))
  unfolding leaves
  leaves-marked p x m = rw (ne_eqb x.mark 0 m) (leaves-gone t (head_of t x) p by.within)

  -- the same of numbers that the code has
  pub goes_by : (p : ℕ) {h d on : ℕ} (word mark aim : ℕ) → (mark ≡ 0 → ⊥) → h ≡ digit_of t.side t.unit aim → d ≡ cells_to_go t p h → on ≡ gone_of t d
      → ltb 0 on ≡ leaves t p (record { word = word; mark = mark; aim = aim })
  goes_by p word mark aim m e f g =
      ap (ltb 0) (g ∙ ap (gone_of t) (f ∙ ap (cells_to_go t p) e)) ∙ sym (leaves-marked p (record { word = word; mark = mark; aim = aim }) m)

pub leaves_none : (t : LineRule) (p : ℕ) (x : Rec) → x.mark ≡ 0 → leaves t p x ≡ false
unfolding leaves
leaves_none t p x m = rw (eq-eqb x.mark 0 m)

-- no cell of a line is further from another than there are cells
pub distance_few : (t : LineRule) (p h : ℕ) → p < 8 → h < 8 → cells_to_go t p h < 8
distance_few t p h i j = go (ltb p h) t.up t.down
  where
    go : (a b c : Bool) → cond a (cond b (h - p) 0) (cond c (p - h) 0) < 8
    go true true c = omega arith
    go true false c = omega arith
    go false b true = omega arith
    go false b false = omega arith
