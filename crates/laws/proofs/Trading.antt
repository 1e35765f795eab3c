-- A table whose entries trade places in pairs, made in place: entry after entry, each with its partner where that comes later.
use Prim.Native.Nat.{ℕ, min, ◌+◌, ◌≤◌, ◌<◌}
use mathlib.Core.Path.{◌≡◌, sym, ap, ◌∙◌}
use mathlib.Core.Logic.{◌⊎◌, ⊎_elim}
use mathlib.Core.Bool.{cond}
use mathlib.Core.List.{List}
use native.Mathlib.Omega.{arith}
use borrow.Author.Tests.{eq-eqb, ne_eqb, lt-ltb, le-ltb}
use lib.ListN.{length, get_or, set, length-set}
use lib.Dec.{eqb, ltb}
use Rattle.laws.specs.Tables.{entries}
use Rattle.laws.proofs.Deciding.{same?, ltb_next}
use Rattle.laws.proofs.Setting.{get_or_stored}
use Rattle.laws.proofs.Tables.{entries-all}

-- a partner for each of n entries
pub record Paired (n : ℕ) (p : ℕ → ℕ) : Type 0 where
  pub inside : (i : ℕ) → i < n → p i < n
  pub twice : (i : ℕ) → i < n → p (p i) ≡ i

-- after j turns
pub record Trading {X : Type 0} (n : ℕ) (p : ℕ → ℕ) (j : ℕ) (T C : ℕ → X) : Type 0 where
  pub turned : (i : ℕ) → i < n → C i ≡ cond (ltb (min i (p i)) j) (T (p i)) (T i)

pub trading_start : {X : Type 0} (n : ℕ) (p : ℕ → ℕ) (T : ℕ → X) → Trading n p 0 T T
trading_start n p T = record { turned = λ i h. rw (le-ltb (min i (p i)) 0 (omega arith)) }

pub trading_end : {X : Type 0} {n : ℕ} {p : ℕ → ℕ} {T C : ℕ → X} → Trading n p n T C → (j : ℕ) → j < n → C j ≡ T (p j)
trading_end {n = n} {p} z j h = rw (lt-ltb (min j (p j)) n (omega arith)) at (z.turned j h)

module _ {X : Type 0} {n : ℕ} {p : ℕ → ℕ} (pairs : Paired n p) {j : ℕ} (h : j < n) {T C : ℕ → X} (z : Trading n p j T C) where
  -- what entry i holds after the turn
  abbrev After : (ℕ → X) → ℕ → Type 0
  After C' i = C' i ≡ cond (ltb (min i (p i)) (j + 1)) (T (p i)) (T i)

  -- an entry whose turn is not before j is as it was
  waits : (i : ℕ) → i < n → j ≤ i → j ≤ p i → C i ≡ T i
  waits i u l m = rw (le-ltb (min i (p i)) j (omega arith)) at (z.turned i u)

  -- an entry whose turn is not now
  other : (i : ℕ) → i < n → (min i (p i) ≡ j → ⊥) → After C i
  other i u d = rw (ltb_next (min i (p i)) j d) (z.turned i u)

  -- an entry has its turn now only if it is j or j's partner
  turns : (i : ℕ) → i < n → (i ≡ j → ⊥) → (i ≡ p j → ⊥) → min i (p i) ≡ j → ⊥
  turns i u d d' e = ⊎_elim (λ f. d' (sym (pairs.twice i u) ∙ ap p f)) (λ f. d (omega (arith, f))) (same? (p i) j)

  pub trading_skip : p j ≤ j → Trading n p (j + 1) T C
  trading_skip l = record { turned = λ i u. ⊎_elim (here i u) (λ d. other i u (λ e. ⊎_elim (λ f. omega (arith, d)) (λ f. turns i u d f e) (same? i (p j)))) (same? i j) }
    where
      here : (i : ℕ) → i < n → i ≡ j → After C i
      here i u e = ⊎_elim fixed (λ d. other i u (λ f. omega (arith, d, ap p e))) (same? (p i) i)
        where
          fixed : p i ≡ i → After C i
          fixed f = rw (lt-ltb (min i (p i)) (j + 1) (omega arith), f) (waits i u (omega arith) (omega arith))

  module _ {C' : ℕ → X} (x : (i : ℕ) → C' i ≡ cond (eqb i (p j)) (C j) (cond (eqb i j) (C (p j)) (C i))) (l : j < p j) where
    now : (i : ℕ) → min i (p i) ≡ j → cond (ltb (min i (p i)) (j + 1)) (T (p i)) (T i) ≡ T (p i)
    now i e = rw (lt-ltb (min i (p i)) (j + 1) (omega arith))

    past : (i : ℕ) → (i ≡ j → ⊥) → (i ≡ p j → ⊥) → C' i ≡ C i
    past i d d' = x i ∙ rw (ne_eqb i (p j) d', ne_eqb i j d)

    first : (i : ℕ) → i ≡ j → After C' i
    first i e =
        x i ∙ rw (ne_eqb i (p j) (λ f. omega arith), eq-eqb i j e)
        (waits (p j) (pairs.inside j h) (omega arith) (omega (arith, pairs.twice j h))
        ∙ ap (λ (y : ℕ). T (p y)) (sym e)
        ∙ sym (now i (omega (arith, ap p e))))

    second : (i : ℕ) → i ≡ p j → After C' i
    second i e =
        let f : p i ≡ j = ap p e ∙ pairs.twice j h in
        x i ∙ rw (eq-eqb i (p j) e) (waits j h (omega arith) (omega arith) ∙ ap T (sym f) ∙ sym (now i (omega arith)))

    pub trading_turn : Trading n p (j + 1) T C'
    trading_turn = record { turned = λ i u. ⊎_elim (first i) (λ d. ⊎_elim (second i) (λ d'. past i d d' ∙ other i u (turns i u d d')) (same? i (p j))) (same? i j) }

-- a list in which j turns were made
pub record Traded (n : ℕ) (p : ℕ → ℕ) (j : ℕ) (old l : List ℕ) : Type 0 where
  pub upto : j ≤ n
  pub long : length l ≡ n
  pub trades : Trading n p j (λ i. get_or old i 0) (λ i. get_or l i 0)

pub traded_start : (n : ℕ) (p : ℕ → ℕ) (l : List ℕ) → length l ≡ n → Traded n p 0 l l
traded_start n p l e = record { upto = omega arith; long = e; trades = trading_start n p (λ i. get_or l i 0) }

-- one turn, as it is made: a trade of two entries, or nothing
module _ {n j : ℕ} {p : ℕ → ℕ} (pairs : Paired n p) (h : j < n) (old l l' : List ℕ) (z : Traded n p j old l) where
  exchanged : (q i : ℕ) → q < n → get_or (set (set l j (get_or l q 0)) q (get_or l j 0)) i 0 ≡ cond (eqb i q) (get_or l j 0) (cond (eqb i j) (get_or l q 0) (get_or l i 0))
  exchanged q i u =
      get_or_stored (set l j (get_or l q 0)) q i (get_or l j 0) 0 (rw length-set (omega (arith, z.long)))
      ∙ ap (λ (x : ℕ). cond (eqb i q) (get_or l j 0) x) (get_or_stored l j i (get_or l q 0) 0 (omega (arith, z.long)))

  pub traded_turn : {q : ℕ} → q ≡ p j → ((j < q) × (l' ≡ set (set l j (get_or l q 0)) q (get_or l j 0))) ⊎ ((q ≤ j) × (l' ≡ l)) → Traded n p (j + 1) old l'
  traded_turn {q} e =
      ⊎_elim
      (λ w. record {
        upto = omega arith;
        long = rw (w.1, length-set, length-set) z.long;
        trades = rw (w.1, e) (trading_turn pairs h z.trades (λ i. exchanged (p j) i (pairs.inside j h)) (omega (arith, e, w.0)));
      })
      (λ w. record { upto = omega arith; long = rw w.1 z.long; trades = rw w.1 (trading_skip pairs h z.trades (omega (arith, e, w.0))) })

pub traded_end : {n j : ℕ} {p : ℕ → ℕ} (old l : List ℕ) → n ≤ j → Traded n p j old l → l ≡ entries (λ i. get_or old (p i) 0) 0 n
traded_end {n} {j} {p} old l h z =
    let e : j ≡ n = omega (arith, z.upto) in
    entries-all (λ i. get_or old (p i) 0) n 0 l z.long (trading_end (rw e at z.trades))
