-- A group's stretch of six lanes, lent and back: the cells of the part, and of the whole once the part is back.
use Prim.Native.Nat.{ℕ, ◌+◌, ◌-◌, ◌*◌, ◌≤◌, ◌<◌}
use mathlib.Core.Path.{◌≡◌, sym, ap, ap₂, ◌∙◌}
use mathlib.Core.List.{List, ◌++◌}
use native.Mathlib.Omega.{arith}
use lib.ListN.{length, get_or, take, drop, length-drop, get_or-append}
use lib.Seq.{get_or-take, get_or-drop, get_or-append-add, length-take-le}
use Rattle.laws.specs.Lent.{Lent}
use Rattle.laws.proofs.Sums.{sum_cong}
use Rattle.array.specs.Cells.{groups}
use Rattle.slots.specs.declared.Cell.{Cell}
use Rattle.slots.specs.Cells.{cell_at, Sized}
use Rattle.slots.proofs.Stored.{cell_ext}
use Rattle.mesh.specs.declared.lines.LineRule.{LineRule}
use Rattle.mesh.specs.Lines.{went_from}
use Rattle.mesh.specs.Mesh.{spot_of, ran_on}
use Rattle.mesh.specs.Inside.{Strided, RanGroup, RanPart}
use Rattle.mesh.proofs.Spots.{ran-part, spot-shifted}

abbrev pub part : ℕ → ℕ → List ℕ → List ℕ
part a k l = take k (drop a l)

abbrev pub back : ℕ → ℕ → List ℕ → List ℕ → List ℕ
back a k l y = take a l ++ (y ++ drop k (drop a l))

get_d_part : (a k : ℕ) (l : List ℕ) (i : ℕ) → i < k → get_or (part a k l) i 0 ≡ get_or l (a + i) 0
get_d_part a k l i h = get_or-take k (drop a l) i 0 h ∙ get_or-drop a l i 0

part_long : (a k : ℕ) (l : List ℕ) → a + k ≤ length l → length (part a k l) ≡ k
part_long a k l h = length-take-le k (drop a l) (rw length-drop (omega arith))

module _ (a k : ℕ) (l y : List ℕ) (h : a + k ≤ length l) (e : length y ≡ k) where
  head_long : length (take a l) ≡ a
  head_long = length-take-le a l (omega arith)

  get_or-back : (i : ℕ) → i < k → get_or (back a k l y) (a + i) 0 ≡ get_or y i 0
  get_or-back i u =
      ap (λ (n : ℕ). get_or (back a k l y) (n + i) 0) (sym head_long) ∙ get_or-append-add (take a l) (y ++ drop k (drop a l)) i 0
      ∙ get_or-append y (drop k (drop a l)) 0 i (omega arith)

  get_or-back_before : (j : ℕ) → j < a → get_or (back a k l y) j 0 ≡ get_or l j 0
  get_or-back_before j u =
      get_or-append (take a l) (y ++ drop k (drop a l)) 0 j (omega (arith, head_long)) ∙ get_or-take a l j 0 u

  get_or-back-after : (j : ℕ) → a + k ≤ j → get_or (back a k l y) j 0 ≡ get_or l j 0
  get_or-back-after j u =
      let d : ℕ = j - (a + k) in
      let p : j ≡ length (take a l) + (length y + d) = omega (arith, head_long) in
      let q : a + (k + d) ≡ j = omega arith in
      ap (λ (n : ℕ). get_or (back a k l y) n 0) p ∙ get_or-append-add (take a l) (y ++ drop k (drop a l)) (length y + d) 0
      ∙ get_or-append-add y (drop k (drop a l)) d 0
      ∙ get_or-drop k (drop a l) d 0
      ∙ get_or-drop a l (k + d) 0
      ∙ ap (λ (n : ℕ). get_or l n 0) q

pub part_sized : {w m a w₂ m₂ a₂ : List ℕ} {L : ℕ} (base k : ℕ) → Sized L w m a w₂ m₂ a₂ → base + k ≤ L → Sized k (part base k w) (part base k m) (part base k a) (part base k w₂) (part base k m₂) (part base k a₂)
part_sized {w} {m} {a} {w₂} {m₂} {a₂} base k z f = record {
  words = part_long base k w (omega arith);
  marks = part_long base k m (omega arith);
  aims = part_long base k a (omega arith);
  words2 = part_long base k w₂ (omega arith);
  marks2 = part_long base k m₂ (omega arith);
  aims2 = part_long base k a₂ (omega arith);
}

module _
    (t : LineRule)
    (pos : 0 < t.side)
    (strided : Strided t)
    {w m a w₂ m₂ a₂ : List ℕ}
    {L : ℕ}
    (g base k : ℕ)
    (z : Sized L w m a w₂ m₂ a₂)
    (f : base + k ≤ L)
    (e : k ≡ groups t.side)
    (b : base ≡ g * groups t.side)
    {y u v y₂ u₂ v₂ : List ℕ}
    (z' : Sized k y u v y₂ u₂ v₂)
  where
    abbrev Whole : ℕ → Cell
    Whole = cell_at w m a w₂ m₂ a₂

    abbrev Part : ℕ → Cell
    Part = cell_at (part base k w) (part base k m) (part base k a) (part base k w₂) (part base k m₂) (part base k a₂)

    abbrev Back : ℕ → Cell
    Back = cell_at (back base k w y) (back base k m u) (back base k a v) (back base k w₂ y₂) (back base k m₂ u₂) (back base k a₂ v₂)

    cell-part : (i : ℕ) → i < groups t.side → Part i ≡ Whole (base + i)
    cell-part i h =
        let h' : i < k = omega arith in
        cell_ext
        (get_d_part base k w i h')
        (get_d_part base k m i h')
        (get_d_part base k a i h')
        (get_d_part base k w₂ i h')
        (get_d_part base k m₂ i h')
        (get_d_part base k a₂ i h')

    in_part : (i : ℕ) → i < groups t.side → Part i ≡ Whole (g * groups t.side + i)
    in_part i h = cell-part i h ∙ ap (λ (n : ℕ). Whole (n + i)) b

    cell-back : (i : ℕ) → i < groups t.side → Back (base + i) ≡ cell_at y u v y₂ u₂ v₂ i
    cell-back i h =
        let h' : i < k = omega arith in
        cell_ext
        (get_or-back base k w y (omega arith) z'.words i h')
        (get_or-back base k m u (omega arith) z'.marks i h')
        (get_or-back base k a v (omega arith) z'.aims i h')
        (get_or-back base k w₂ y₂ (omega arith) z'.words2 i h')
        (get_or-back base k m₂ u₂ (omega arith) z'.marks2 i h')
        (get_or-back base k a₂ v₂ (omega arith) z'.aims2 i h')

    cell_before : (j : ℕ) → j < base → Back j ≡ Whole j
    cell_before j h =
        cell_ext
        (get_or-back_before base k w y (omega arith) z'.words j h)
        (get_or-back_before base k m u (omega arith) z'.marks j h)
        (get_or-back_before base k a v (omega arith) z'.aims j h)
        (get_or-back_before base k w₂ y₂ (omega arith) z'.words2 j h)
        (get_or-back_before base k m₂ u₂ (omega arith) z'.marks2 j h)
        (get_or-back_before base k a₂ v₂ (omega arith) z'.aims2 j h)

    cell-after : (j : ℕ) → base + groups t.side ≤ j → Back j ≡ Whole j
    cell-after j h =
        let h' : base + k ≤ j = omega arith in
        cell_ext
        (get_or-back-after base k w y (omega arith) z'.words j h')
        (get_or-back-after base k m u (omega arith) z'.marks j h')
        (get_or-back-after base k a v (omega arith) z'.aims j h')
        (get_or-back-after base k w₂ y₂ (omega arith) z'.words2 j h')
        (get_or-back-after base k m₂ u₂ (omega arith) z'.marks2 j h')
        (get_or-back-after base k a₂ v₂ (omega arith) z'.aims2 j h')

    pub part-ran : {run counts : Lent} → run.entry.now ≡ counts.entry.now → run.exit.now ≡ counts.exit.now → RanGroup t run Part (cell_at y u v y₂ u₂ v₂) → RanPart t base counts Whole Back
    part-ran old new q = record {
      made = λ i h. cell-back i h ∙ q.made i h ∙ ran-part t pos strided g Part Whole in_part i h ∙ ap (λ (n : ℕ). ran_on t Whole (n + i)) (sym b);
      before = cell_before;
      after = cell-after;
      count = λ d h. ap (λ (k : List ℕ). get_or k d 0) (sym new) ∙ q.count d h
          ∙ ap₂ (λ (k : List ℕ) (n : ℕ). get_or k d 0 + n) old (sum_cong (groups t.side) (λ i h. ap₂ (went_from t d) (sym (spot-shifted t pos strided g i) ∙ ap (λ (n : ℕ). spot_of t (n + i)) (sym b)) (cell-part i h)));
    }
