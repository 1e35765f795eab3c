-- Eight lines at a time, as rows of eight words: rows taken, and laid where the table says.
use Rattle.std.proofs.Common.{◌≡◌, ℕ, ◌+◌, ◌-◌, ◌*◌, ◌<◌, ◌≤◌, Bool, true, false, cond, ltb, List, get_or, replicate, refl, ap, ◌∙◌, ⊎_elim, mul-le-mul_right, suc-mul, arith, ltb-false, ltb-true}
use mathlib.Core.Option.{none, some}
use Rattle.laws.proofs.Deciding.{same?}
use Rattle.shifts.specs.Results.{word_from}
use Rattle.plainwords.specs.Inside.{named, Copied, RowsLaid, LinesShifted}
use Rattle.plainwords.proofs.Shifting.{zero_at}

-- rows laid one after the other
module _ {first stride : ℕ} {f : ℕ → ℕ → ℕ} {old : List ℕ} where
  pub rows_next : {a b p : ℕ} {source l l' : List ℕ} → 8 ≤ stride → b ≡ first + p * stride → ((j : ℕ) → j < 8 → get_or source (a + j) 0 ≡ f p j)
      → RowsLaid first stride p f old l → Copied a b 8 source l l' → RowsLaid first stride (p + 1) f old l'
  rows_next {a} {b} {p} {source} {l} {l'} on e word y z = record {
    size = z.size ∙ y.size;
    done = λ k j u v. ⊎_elim (λ g. here k j g v) (λ g. earlier k j (omega (arith, g)) v) (same? k p);
    kept = λ i h. z.kept i (λ j v g. h p j (omega arith) v (g ∙ ap (λ (n : ℕ). n + j) e)) ∙ y.kept i (λ k j u. h k j (omega arith));
  }
    where
      here : (k j : ℕ) → k ≡ p → j < 8 → get_or l' (first + k * stride + j) 0 ≡ f k j
      here k j g v = rw (g, ← e) (z.done j v ∙ word j v)

      earlier : (k j : ℕ) → k < p → j < 8 → get_or l' (first + k * stride + j) 0 ≡ f k j
      earlier k j u v =
          let next : k * stride + stride ≤ p * stride = omega (arith, suc-mul k stride, mul-le-mul_right stride u) in
          z.kept _ (λ i t g. omega (arith, next, e, g)) ∙ y.done k j u v

-- rows that were taken and laid are eight lines shifted
pub eight_shifted : {s stride start o : ℕ} (from : List ℕ) {zeros rows words l : List ℕ} → zeros ≡ replicate 72 0
    → RowsLaid 0 8 s (λ p j. get_or words (start + o + p * stride + j) 0) zeros rows
    → RowsLaid (start + o) stride s (λ p j. get_or rows (get_or from p 0 * 8 + j) 0) words l
    → LinesShifted s stride (named s from) start o (o + 8) words l
eight_shifted {s} {stride} {start} {o} from {zeros} {rows} {words} {l} none_yet taken laid = record {
  size = laid.size;
  done = done;
  kept = λ i h. laid.kept i (λ p j u v e. h p (o + j) u (omega arith) (omega arith) (omega (arith, e)));
}
  where
    word : (o' j q : ℕ) → o' ≡ o + j → j < 8 → (t : Bool) → ltb q s ≡ t
        → get_or rows (q * 8 + j) 0 ≡ word_from (λ k. get_or words (start + o' + k * stride) 0) (cond t (some q) none)
    word o' j q e v true h =
        let at_rows : q * 8 + j ≡ 0 + q * 8 + j = omega arith in
        let at_words : start + o + q * stride + j ≡ start + o' + q * stride = omega (arith, e) in
        ap (λ (n : ℕ). get_or rows n 0) at_rows ∙ taken.done q j (ltb-true q s h) v ∙ ap (λ (n : ℕ). get_or words n 0) at_words
    word o' j q e v false h =
        taken.kept _ (λ p k u w g. omega (arith, ltb-false q s h, g)) ∙ ap (λ (z : List ℕ). get_or z (q * 8 + j) 0) none_yet ∙ zero_at 72 (q * 8 + j)

    done : (p o' : ℕ) → p < s → o ≤ o' → o' < o + 8
        → get_or l (start + o' + p * stride) 0 ≡ word_from (λ k. get_or words (start + o' + k * stride) 0) (named s from p)
    done p o' u v w =
        let e : o' ≡ o + (o' - o) = omega arith in
        let at_words : start + o' + p * stride ≡ start + o + p * stride + (o' - o) = omega arith in
        let few : o' - o < 8 = omega arith in
        ap (λ (n : ℕ). get_or l n 0) at_words ∙ laid.done p (o' - o) u few ∙ word o' (o' - o) (get_or from p 0) e few (ltb (get_or from p 0) s) refl
