-- The slots of a line, cell after cell: looked at, taken out of their lanes, laid back.
use Prim.Native.Nat.{ℕ, zero, suc, ◌+◌, ◌*◌, ◌<◌}
use mathlib.Core.Path.{◌≡◌, refl, sym, ap, ◌∙◌}
use mathlib.Core.Logic.{⊎_elim}
use mathlib.Core.Bool.{Bool, true, false, cond, not, ◌&&◌}
use mathlib.Core.List.{List}
use native.Mathlib.Nat.{suc-mul, mul-le-mul_right}
use native.Mathlib.Omega.{arith}
use borrow.Author.Tests.{eq-eqb, ne_eqb}
use lib.Dec.{eqb}
use lib.ListN.{length, get_or}
use Rattle.std.specs.Bool.{MatchBool}
use Rattle.std.specs.List.{range_with_len, HoldsAt, AllWithin}
use Rattle.std.proofs.lemmas.List.FromFn.{length-range_with_len, get_or-range_with_len}
use Rattle.laws.proofs.Deciding.{apart}
use Rattle.slots.specs.declared.Rec.{Rec}
use Rattle.slots.specs.Cells.{nothing}
use Rattle.mesh.specs.declared.lines.LineRule.{LineRule}
use Rattle.mesh.specs.Lines.{leaves, none_leaves}
use Rattle.mesh.specs.Inside.{Laid}

-- two cells of a line are apart
pub distinct : {stride : ℕ} → 0 < stride → (start q p : ℕ) → (q ≡ p → ⊥) → start + q * stride ≡ start + p * stride → ⊥
distinct {stride} pos start q p d e =
    ⊎_elim
    (λ l. omega (arith, e, pos, mul-le-mul_right {m = suc q} {n = p} stride l, suc-mul q stride))
    (λ l. ⊎_elim (λ m. omega (arith, e, pos, mul-le-mul_right {m = suc p} {n = q} stride m, suc-mul p stride)) (λ m. d (omega arith)) (apart p q))
    (apart q p)

-- whether a record leaves: one that does is enough
pub leaves_some : (t : LineRule) (S : ℕ → Rec) (p : ℕ) → leaves t p (S p) ≡ true → (n : ℕ) → p < n → none_leaves t S n ≡ false
unfolding none_leaves
leaves_some t S p e zero h = absurd (omega arith)
leaves_some t S p e (suc n) h =
    ⊎_elim
    (λ l. rw (leaves_some t S p e n l))
    (λ l. let i : p ≡ n = omega arith in rw (← i, e) (none_after (none_leaves t S p)))
    (apart p n)
  where
    none_after : (b : Bool) → b && false ≡ false
    none_after true = refl
    none_after false = refl

leaves_all : (t : LineRule) (S : ℕ → Rec) (n : ℕ) → ((p : ℕ) → p < n → leaves t p (S p) ≡ false) → none_leaves t S n ≡ true
unfolding none_leaves
leaves_all t S zero e = refl
leaves_all t S (suc n) e = rw (leaves_all t S n (λ p h. e p (omega arith)), e n (omega arith))

at_index : (n k : ℕ) → k < n → get_or (range_with_len 0 n) k 0 ≡ k
at_index n k h = get_or-range_with_len 0 n k 0 h ∙ omega arith

-- what `any` tells of the cells of a line
pub leaves_any : (t : LineRule) (S : ℕ → Rec) (n : ℕ) (r : Bool)
    → MatchBool r ((k : ℕ) × (k < length (range_with_len 0 n)) × HoldsAt (λ p. leaves t p (S p) ≡ true) (range_with_len 0 n) k)
    (AllWithin (λ p. leaves t p (S p) ≡ false) (range_with_len 0 n) 0 (length (range_with_len 0 n)))
    → r ≡ not (none_leaves t S n)
leaves_any t S n true (k, h, here) =
    let u : k < n = omega (arith, h, length-range_with_len 0 n) in
    sym (ap not (leaves_some t S k (rw (at_index n k u) at (here 0)) n u))
leaves_any t S n false there =
    sym (ap not (leaves_all t S n (λ p h. rw (at_index n p h) at (there p 0 (omega arith) (omega (arith, h, length-range_with_len 0 n))))))

-- it is told by the marks and aims
pub leaves-same : (t : LineRule) (S S' : ℕ → Rec) (n : ℕ) → ((p : ℕ) → p < n → ((S p).mark ≡ (S' p).mark) × ((S p).aim ≡ (S' p).aim)) → none_leaves t S n ≡ none_leaves t S' n
unfolding none_leaves leaves
leaves-same t S S' zero e = refl
leaves-same t S S' (suc n) e = rw (leaves-same t S S' n (λ p h. e p (omega arith)), (e n (omega arith)).0, (e n (omega arith)).1)

-- the slots of the first p cells were taken
pub record Taking (t : LineRule) (start p : ℕ) (S : ℕ → Rec) (line : List Rec) : Type 0 where
  pub is : (q : ℕ) → q < p → get_or line q nothing ≡ S (start + q * t.stride)

pub laid_step : {t : LineRule} {start p : ℕ} {x S S' S'' : ℕ → Rec} {y : Rec} → 0 < t.stride → y ≡ x p → ((j : ℕ) → S'' j ≡ cond (eqb j (start + p * t.stride)) y (S' j))
    → Laid t start p x S S' → Laid t start (p + 1) x S S''
laid_step {t} {start} {p} {x} {S} {S'} {S''} pos f y z = record {
  made = λ q u. ⊎_elim
      (λ l. other (start + q * t.stride) (distinct pos start q p (omega arith)) ∙ z.made q l)
      (λ l. let e : q ≡ p = omega arith in rw e (y at ∙ rw (eq-eqb at at refl) f))
      (apart q p);
  kept = λ j d. other j (d p (omega arith)) ∙ z.kept j (λ q u. d q (omega arith));
}
  where
    at : ℕ
    at = start + p * t.stride

    other : (j : ℕ) → (j ≡ at → ⊥) → S'' j ≡ S' j
    other j d = y j ∙ rw (ne_eqb j at d)
