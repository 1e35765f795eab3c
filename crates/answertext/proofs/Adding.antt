-- What the lines of a log add up to, one line at a time.
use Rattle.std.proofs.Common.{◌≡◌, ℕ, suc, ◌+◌, ◌%◌, ◌^◌, List, Option, Some, None, refl, ◌∙◌, add-one, arith}
use native.Mathlib.Nat.{mod-add-mod}
use Rattle.laws.specs.Sums.{sum}
use Rattle.runs.specs.Runs.{electronic_in, swaps_in}
use Rattle.array.specs.declared.moves.LogLine.{LogLine}
use Rattle.answertext.specs.declared.Totals.{Totals}
use Rattle.answertext.specs.Log.{line_of, electronic_of, optical_of, moved_of, column_sum, totals_of, added_to}

module _ (l : ℕ → Option LogLine) (n : ℕ) where
  column-sum_next : (value : Option LogLine → ℕ) (v : ℕ) → v ≡ value (l n) → (column_sum value l n + v) % 2 ^ 64 ≡ column_sum value l (suc n)
  unfolding column_sum
  column-sum_next value v e = mod-add-mod (sum n (λ k. value (l k))) (2 ^ 64) v ∙ rw e

  column-sum-kept : (value : Option LogLine → ℕ) → value (l n) ≡ 0 → column_sum value l n ≡ column_sum value l (suc n)
  unfolding column_sum
  column-sum-kept value e =
      let f : sum n (λ k. value (l k)) ≡ sum n (λ k. value (l k)) + value (l n) = omega arith in
      rw (← f)

  totals_next : added_to (totals_of l n) (l n) ≡ totals_of l (suc n)
  unfolding added_to totals_of
  totals_next = go (l n) refl
    where
      go : (d : Option LogLine) → l n ≡ d → added_to (totals_of l n) (l n) ≡ totals_of l (suc n)
      go (Some k) e = rw e (rw (column-sum_next electronic_of (electronic_in k.step 1) (rw e), column-sum_next optical_of (swaps_in k.step 1) (rw e), column-sum_next moved_of k.moved (rw e)))
      go None e = rw e (rw (column-sum-kept electronic_of (rw e), column-sum-kept optical_of (rw e), column-sum-kept moved_of (rw e)))

-- one line more, in the code's terms
pub added_none : (t : Totals) (logged : Option LogLine) → logged ≡ None → t ≡ added_to t logged
unfolding added_to
added_none t logged e = rw e

pub added_line : (t : Totals) (logged : Option LogLine) (l : LogLine) → logged ≡ Some l
    → {x y z : ℕ} → x ≡ electronic_in l.step 1 → y ≡ swaps_in l.step 1 → z ≡ l.moved
    → record { electronic = (t.electronic + x) % 2 ^ 64; optical = (t.optical + y) % 2 ^ 64; moved = (t.moved + z) % 2 ^ 64 } ≡ added_to t logged
unfolding added_to
added_line t logged l e p q r = rw (e, p, q, r)

pub no_totals : (l : ℕ → Option LogLine) (t : Totals) → t.electronic ≡ 0 → t.optical ≡ 0 → t.moved ≡ 0 → t ≡ totals_of l 0
unfolding totals_of column_sum
no_totals l t = go t.electronic t.optical t.moved
  where
    go : (x y z : ℕ) → x ≡ 0 → y ≡ 0 → z ≡ 0 → record { electronic = x; optical = y; moved = z } ≡ totals_of l 0
    go x y z e f g = rw (e, f, g)

pub totals_more : (codes moved : List ℕ) (i : ℕ) {t u : Totals} → t ≡ totals_of (line_of codes moved) i
    → {logged : Option LogLine} → logged ≡ line_of codes moved i → u ≡ added_to t logged → u ≡ totals_of (line_of codes moved) (i + 1)
totals_more codes moved i p e f = f ∙ rw (e, p, add-one) (totals_next (line_of codes moved) i)
