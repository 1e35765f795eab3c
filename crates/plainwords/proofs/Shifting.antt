-- Lines shifted one after the other, and blocks of them: what was done stays, and what is still to come is as it was.
use Rattle.std.proofs.Common.{◌≡◌, ℕ, zero, suc, ◌+◌, ◌-◌, ◌*◌, ◌%◌, ◌<◌, ◌≤◌, cond, ltb, List, ◌++◌, length, get_or, set, take, drop, replicate, sym, refl, ap, ◌∙◌, ⊎_elim, mul-le-mul_right, suc-mul, arith, length-set, get_or-set_other, get_or-set_same, lt-ltb, le-ltb}
use mathlib.Core.Option.{Option, none, some}
use lib.Arith.{digits_lt, digits_mod}
use lib.ListN.{get_or-append}
use lib.Seq.{length-take-le, get_or-append_right, get_or-drop}
use Rattle.laws.proofs.Deciding.{apart, same?}
use Rattle.laws.proofs.Rewriting.{Rewriting}
use Rattle.lanes.specs.Inside.{PlacesLaid}
use Rattle.shifts.specs.Results.{word_from}
use Rattle.plainwords.specs.Inside.{named, LineTaken, LinesShifted, BlocksShifted}

-- lines that agree give the same word
pub same_word : (came : Option ℕ) {f g : ℕ → ℕ} → ((q : ℕ) → f q ≡ g q) → word_from f came ≡ word_from g came
same_word none h = refl
same_word (some q) h = h q

-- a cell of a block is of one line
one_line : {stride o o' : ℕ} (start p p' : ℕ) → o < stride → o' < stride → start + o + p * stride ≡ start + o' + p' * stride → o ≡ o'
one_line {stride} {o} {o'} start p p' h h' e =
    let f : p * stride + o ≡ p' * stride + o' = omega arith in
    sym (digits_mod p h) ∙ ap (λ (n : ℕ). n % stride) f ∙ digits_mod p' h'

-- and in the block
pub in_block : {s stride p o : ℕ} (start : ℕ) → p < s → o < stride → start + o + p * stride < start + s * stride
in_block start h h' = omega (arith, digits_lt h h')

pub zero_at : (n q : ℕ) → ◌≡◌ {A = ℕ} (get_or (replicate n 0) q 0) 0
zero_at zero q = refl
zero_at (suc n) zero = refl
zero_at (suc n) (suc q) = zero_at n q

-- a line that was taken: its words, and 0 behind them
pub line_taken : {s stride first p : ℕ} {words zeros line : List ℕ} → s ≤ p → s ≤ 8 → zeros ≡ replicate 9 0
    → Rewriting (λ k. get_or words (first + k * stride) 0) 0 (take s zeros) line p → LineTaken s stride first words (line ++ drop s zeros)
line_taken {s} {stride} {first} {p} {words} {zeros} {line} h few none_yet z = record { is = λ q. ⊎_elim (here q) (behind q) (apart q s) }
  where
    long : length line ≡ s
    long = z.long ∙ length-take-le s zeros (omega (arith, ap length none_yet))

    here : (q : ℕ) → q < s → get_or (line ++ drop s zeros) q 0 ≡ word_from (λ k. get_or words (first + k * stride) 0) (cond (ltb q s) (some q) none)
    here q u =
        let inside : q < length line = omega (arith, long) in
        rw (lt-ltb q s u) (get_or-append line (drop s zeros) 0 q inside ∙ z.entry q ∙ rw (lt-ltb q p (omega arith)))

    behind : (q : ℕ) → s ≤ q → get_or (line ++ drop s zeros) q 0 ≡ word_from (λ k. get_or words (first + k * stride) 0) (cond (ltb q s) (some q) none)
    behind q u =
        rw (le-ltb q s u)
        (get_or-append_right line (drop s zeros) q 0 (omega (arith, long)) ∙ get_or-drop s zeros (q - length line) 0
        ∙ ap (λ (l : List ℕ). get_or l (s + (q - length line)) 0) none_yet ∙ zero_at 9 (s + (q - length line)))

-- a line that is laid, cell after cell
pub further : {stride j k : ℕ} → 0 < stride → j < k → j * stride < k * stride
further {stride} {j} h u = omega (arith, suc-mul j stride, mul-le-mul_right stride u)

pub laid_more : {first stride k : ℕ} {f : ℕ → ℕ} {old l : List ℕ} (v : ℕ) → 0 < stride → first + k * stride < length old → v ≡ f k → PlacesLaid first stride k f old l
    → PlacesLaid first stride (k + 1) f old (set l (first + k * stride) v)
laid_more {first} {stride} {k} {f} {old} {l} v on inside e z = record {
  size = length-set l (first + k * stride) v ∙ z.size;
  done = λ j u. ⊎_elim (λ g. rw g (get_or-set_same l (first + k * stride) v 0 (omega (arith, z.size)) ∙ e)) (λ g. earlier j u g) (same? j k);
  kept = λ i u. get_or-set_other l (first + k * stride) i v 0 (u k (omega arith)) ∙ z.kept i (λ j t. u j (omega arith));
}
  where
    earlier : (j : ℕ) → j < k + 1 → (j ≡ k → ⊥) → get_or (set l (first + k * stride) v) (first + j * stride) 0 ≡ f j
    earlier j u g =
        let before : j < k = omega (arith, g) in
        let away : j * stride < k * stride = further on before in
        get_or-set_other l (first + k * stride) (first + j * stride) v 0 (λ y. omega (arith, away, y)) ∙ z.done j before

-- a line that was taken and laid
pub line-shifted : {s stride start o : ℕ} (from : List ℕ) {line words l : List ℕ} → LineTaken s stride (start + o) words line
    → PlacesLaid (start + o) stride s (λ p. get_or line (get_or from p 0) 0) words l → LinesShifted s stride (named s from) start o (o + 1) words l
line-shifted {o = o} from t z = record {
  size = z.size;
  done = λ p o' h u v. let e : o' ≡ o = omega arith in rw e (z.done p h ∙ t.is (get_or from p 0));
  kept = λ i h. z.kept i (λ k u. h k o u (omega arith) (omega arith));
}

module _ {s stride : ℕ} {came : ℕ → Option ℕ} where
  -- lines behind those that were shifted
  pub lines_next : {start a b c : ℕ} {old l l' : List ℕ} → a ≤ b → b ≤ c → c ≤ stride → LinesShifted s stride came start a b old l → LinesShifted s stride came start b c l l'
      → LinesShifted s stride came start a c old l'
  lines_next {start} {a} {b} {c} {old} {l} {l'} ab bc few y z = record {
    size = z.size ∙ y.size;
    done = λ p o h u v. ⊎_elim (earlier p o h u) (later p o h v) (apart o b);
    kept = λ i h. z.kept i (λ p o t u v. h p o t (omega arith) v) ∙ y.kept i (λ p o t u v. h p o t u (omega arith));
  }
    where
      earlier : (p o : ℕ) → p < s → a ≤ o → o < b → get_or l' (start + o + p * stride) 0 ≡ word_from (λ q. get_or old (start + o + q * stride) 0) (came p)
      earlier p o h u v =
          z.kept _ (λ p' o' h' u' v' e. omega (arith, one_line start p p' (omega arith) (omega arith) e)) ∙ y.done p o h u v

      later : (p o : ℕ) → p < s → o < c → b ≤ o → get_or l' (start + o + p * stride) 0 ≡ word_from (λ q. get_or old (start + o + q * stride) 0) (came p)
      later p o h v u =
          z.done p o h u v
          ∙ same_word (came p) (λ q. y.kept _ (λ p' o' h' u' v' e. omega (arith, one_line start q p' (omega arith) (omega arith) e)))

  -- one block more
  pub blocks_next : {j : ℕ} {old l l' : List ℕ} → BlocksShifted s stride came j old l → LinesShifted s stride came (j * (s * stride)) 0 stride l l'
      → BlocksShifted s stride came (j + 1) old l'
  blocks_next {j} {old} {l} {l'} y z = record {
    size = z.size ∙ y.size;
    done = λ j' p o h u v. ⊎_elim (earlier j' p o u v) (λ g. here j' p o (omega arith) u v) (apart j' j);
    kept = λ i h. z.kept i (λ p o t u v e. omega (arith, in_block (j * (s * stride)) t v, suc-mul j (s * stride))) ∙ y.kept i (omega (arith, suc-mul j (s * stride)));
  }
    where
      earlier : (j' p o : ℕ) → p < s → o < stride → j' < j
          → get_or l' (j' * (s * stride) + o + p * stride) 0 ≡ word_from (λ q. get_or old (j' * (s * stride) + o + q * stride) 0) (came p)
      earlier j' p o u v h =
          let before = mul-le-mul_right (s * stride) h in
          z.kept _ (λ p' o' h' u' v' e. omega (arith, in_block (j' * (s * stride)) u v, before, suc-mul j' (s * stride))) ∙ y.done j' p o h u v

      here : (j' p o : ℕ) → j' ≡ j → p < s → o < stride
          → get_or l' (j' * (s * stride) + o + p * stride) 0 ≡ word_from (λ q. get_or old (j' * (s * stride) + o + q * stride) 0) (came p)
      here j' p o e u v = rw e (z.done p o u (omega arith) v ∙ same_word (came p) (λ q. y.kept _ (omega arith)))
