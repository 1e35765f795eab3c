-- From lines to the board: the table of a shift names the positions that its words come from, and lines along an axis are its rows or columns.
use Rattle.std.proofs.Common.{◌≡◌, ℕ, ◌+◌, ◌-◌, ◌*◌, ◌%◌, ◌<◌, ◌≤◌, Bool, true, false, cond, ltb, List, length, get_or, sym, refl, ap, ◌∙◌, ⊎_elim, mod-lt, mul_assoc, mul_comm, add-mul, mul-le-mul, one-mul, mul-one, unwrap_or, arith, ltb-true, le-ltb, lt-ltb}
use mathlib.Core.Option.{Option, none, some}
use lib.Arith.{digits_lt}
use lib.ListN.{get_or-eq_default}
use Rattle.laws.specs.Tables.{entries}
use Rattle.laws.proofs.Deciding.{apart}
use Rattle.laws.proofs.Tables.{length-entries, entry_at}
use Rattle.shiftlists.specs.declared.Axis.{Axis}
use Rattle.shiftlists.specs.declared.Axis.TheVariants.{MeshRow, MeshColumn, GroupRow, GroupColumn}
use Rattle.shiftlists.specs.declared.Edge.{Edge}
use Rattle.shiftlists.specs.declared.Edge.TheVariants.{ZeroFill, Circular}
use Rattle.shiftlists.specs.declared.Distance.{Distance}
use Rattle.plainwords.specs.declared.axes.NearShift.{NearShift}
use Rattle.plainwords.specs.declared.tables.Lines.{Lines}
use Rattle.array.specs.Cells.{cells}
use Rattle.shiftlists.specs.Shifts.{modulo}
use Rattle.lanes.specs.Machine.{at, load, unload}
use Rattle.lanes.specs.Inside.{FitsBoard}
use Rattle.lanes.proofs.Coordinates.{place<, unloaded}
use Rattle.shifts.specs.Results.{came_from, word_from, shifted}
use Rattle.plainwords.specs.Names.{Names}
use Rattle.plainwords.specs.Inside.{Near, stride_along, blocks_along, source_of, entry_for, position_on, named, WholeBlocks, BlocksShifted}
use Rattle.plainwords.proofs.Shifting.{same_word}

-- what a shift holds of its distance
pub near : (x : NearShift) → Near x.side x.k
near x = record { least = x.least; most = x.most; forth = x.forth; back = x.back }

-- a position that a word comes from is one of the line
came_in : (edge : Edge) {s : ℕ} {k : Distance} → Near s k → (p q : ℕ) → came_from edge s k p ≡ some q → q < s
came_in ZeroFill {s} {k} z p q e = go (ltb (p + k.back) k.forth) (ltb (p + k.back - k.forth) s) refl e
  where
    go : (t u : Bool) → ltb (p + k.back - k.forth) s ≡ u → cond t none (cond u (some (p + k.back - k.forth)) none) ≡ some q → q < s
    go true u h f = absurd (let n : ◌≡◌ {A = ℕ} 0 1 = cc in omega arith)
    go false true h f =
        let same : p + k.back - k.forth ≡ q = cc in
        omega (arith, same, ltb-true (p + k.back - k.forth) s h)
    go false false h f = absurd (let n : ◌≡◌ {A = ℕ} 0 1 = cc in omega arith)
came_in Circular {s} {k} z p q e =
    let same : (p + (s - modulo s k)) % s ≡ q = cc in
    rw same at (mod-lt (p + (s - modulo s k)) z.least)

-- the number of a position, as the code makes it
pub entry_is : (x : Option ℕ) → unwrap_or (source_of x) 8 ≡ entry_for x
entry_is none = refl
entry_is (some p) = refl

-- so its number names it, and 8 none
numbered : (s : ℕ) (x : Option ℕ) → s ≤ 8 → ((q : ℕ) → x ≡ some q → q < s) → (position_on s (entry_for x) ≡ x) × (entry_for x ≤ 8)
numbered s none h in_line = (rw (le-ltb 8 s h), omega arith)
numbered s (some q) h in_line = (rw (lt-ltb q s (in_line q refl)), omega (arith, in_line q refl))

module _ (edge : Edge) {s : ℕ} {k : Distance} {from : List ℕ} (z : Near s k) (e : from ≡ entries (λ p. entry_for (came_from edge s k p)) 0 8) where
  entry_of : (p : ℕ) → p < 8 → get_or from p 0 ≡ entry_for (came_from edge s k p)
  entry_of p h = ap (λ (l : List ℕ). get_or l p 0) e ∙ entry_at (λ p. entry_for (came_from edge s k p)) 8 p 0 h

  pub named_is : (p : ℕ) → p < s → named s from p ≡ came_from edge s k p
  named_is p h = ap (position_on s) (entry_of p (omega (arith, z.most))) ∙ (numbered s (came_from edge s k p) z.most (came_in edge z p)).0

  long : length from ≡ 8
  long = ap length e ∙ length-entries (λ p. entry_for (came_from edge s k p)) 0 8

  past : (p : ℕ) → 8 ≤ p → get_or from p 0 ≤ 8
  past p h = omega (arith, get_or-eq_default from 0 {n = p} (omega (arith, long)))

  pub names : Names from
  names = record {
    long = long;
    few = λ p. ⊎_elim (λ h. rw (entry_of p h) (numbered s (came_from edge s k p) z.most (came_in edge z p)).1) (λ h. past p h) (apart p 8);
  }

-- the blocks of an axis are the board
few_cells : {s : ℕ} → s ≤ 8 → (axis : Axis) → s * stride_along s axis ≤ 4096
few_cells h MeshRow = omega arith
few_cells h MeshColumn = omega (arith, mul-le-mul h h)
few_cells h GroupRow = omega (arith, mul-le-mul h (mul-le-mul h h))
few_cells h GroupColumn = mul-le-mul h (mul-le-mul h (mul-le-mul h h))

board_blocks : (s : ℕ) (axis : Axis) → cells s ≡ blocks_along s axis * (s * stride_along s axis)
board_blocks s MeshRow = mul_assoc s s (s * s) ∙ mul_comm s (s * (s * s)) ∙ ap (λ (n : ℕ). s * (s * s) * n) (sym (mul-one s))
board_blocks s MeshColumn = refl
board_blocks s GroupRow = mul_assoc s s (s * s)
board_blocks s GroupColumn = mul_assoc s s (s * s) ∙ sym (one-mul (s * (s * (s * s))))

pub whole-blocks : {lines : Lines} {n blocks : ℕ} (axis : Axis) → FitsBoard lines.side n → lines.stride ≡ stride_along lines.side axis
    → blocks ≡ blocks_along lines.side axis → WholeBlocks lines blocks n
whole-blocks {lines} axis b e f = record {
  few = rw e (few_cells b.most axis);
  whole = rw (e, f) (b.whole ∙ board_blocks lines.side axis);
}

-- two digits of a number
two_digits : (x y s t : ℕ) → (x * s + y) * t ≡ x * (s * t) + y * t
two_digits x y s t = add-mul (x * s) y t ∙ ap (λ (n : ℕ). n + y * t) (mul_assoc x s t)

-- a line in the lane, whose cells f says
module _ {s stride blocks : ℕ} {came came' : ℕ → Option ℕ} {old l : List ℕ} (z : BlocksShifted s stride came blocks old l) (same : (p : ℕ) → p < s → came p ≡ came' p) where
  line_at : (f : ℕ → ℕ) (j o p : ℕ) → ((q : ℕ) → j * (s * stride) + o + q * stride ≡ f q) → j < blocks → o < stride → p < s
      → get_or l (f p) 0 ≡ word_from (λ q. get_or old (f q) 0) (came' p)
  line_at f j o p is hj ho hp =
      ap (λ (n : ℕ). get_or l n 0) (sym (is p)) ∙ z.done j p o hj hp ho ∙ same_word (came p) (λ q. ap (λ (n : ℕ). get_or old n 0) (is q))
      ∙ ap (word_from (λ q. get_or old (f q) 0)) (same p hp)

-- lines along an axis are rows or columns, of the mesh or of the groups
module _ {s : ℕ} {came came' : ℕ → Option ℕ} {old l : List ℕ} where
  in_place : (axis : Axis) → BlocksShifted s (stride_along s axis) came (blocks_along s axis) old l → ((p : ℕ) → p < s → came p ≡ came' p)
      → (c d a b : ℕ) → c < s → d < s → a < s → b < s → get_or l (at s c d a b) 0 ≡ shifted axis came' (load s old) c d a b
  in_place MeshRow z same c d a b hc hd ha hb =
      let j = (c * s + d) * s + a in
      let inside : j < s * (s * s) = rw (mul_comm s (s * s)) (digits_lt (place< hc hd) ha) in
      line_at z same (λ q. at s c d a q) j 0 b (λ q. omega (arith, ap (λ (n : ℕ). j * n) (mul-one s), two_digits (c * s + d) a s s)) inside (omega arith) hb
  in_place MeshColumn z same c d a b hc hd ha hb =
      line_at z same (λ q. at s c d q b) (c * s + d) b a (λ q. omega arith) (place< hc hd) hb ha
  in_place GroupRow z same c d a b hc hd ha hb =
      line_at z same (λ q. at s c q a b) c (a * s + b) d (λ q. omega (arith, two_digits c q s (s * s))) hc (place< ha hb) hd
  in_place GroupColumn z same c d a b hc hd ha hb =
      line_at z same (λ q. at s q d a b) 0 (d * (s * s) + (a * s + b)) c (λ q. omega (arith, two_digits q d s (s * s))) (omega arith) (digits_lt hd (place< ha hb)) hc

  pub board_shifted : (axis : Axis) → FitsBoard s (length old) → BlocksShifted s (stride_along s axis) came (blocks_along s axis) old l → ((p : ℕ) → p < s → came p ≡ came' p)
      → l ≡ unload s (shifted axis came' (load s old))
  board_shifted axis b z same = unloaded s l (shifted axis came' (load s old)) b.least (z.size ∙ b.whole) (record { is = in_place axis z same })
