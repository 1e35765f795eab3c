-- Where a byte stands, and the number that a field writes, one byte at a time.
use Rattle.std.proofs.Common.{◌≡◌, ℕ, suc, ◌+◌, ◌-◌, ◌*◌, ◌≤◌, ◌<◌, Bool, true, false, cond, ◌&&◌, List, [], ◌∷◌, Option, Some, None, length, get_or, take, drop, option_and_then, unwrap_or, position, ◌==◌, nat_lt, not, eqb, ltb, refl, sym, ◌∙◌, leb, arith, add-one, length-drop, drop-cons, drop_of_length-le}
use lib.Seq.{length-take-le, take_all}
use Rattle.std.specs.List.{position_or_len}
use Rattle.std.proofs.lemmas.List.Sums.{prefix_len-le-length}
use borrow.Author.Tests.{eq-eqb, lt-ltb, eqb-true, ltb-true, ltb-false, le-leb, lt-leb, leb-true, leb-false}
use Rattle.texts.specs.Lines.{bytes_before}
use Rattle.texts.specs.Numbers.{with_digit, digits_from, number_of}

-- a number that is too large stays so
over : (n : ℕ) (s : List ℕ) → 4294967295 < n → digits_from n s ≡ None
unfolding digits_from
over n [] h = rw (lt-leb _ _ h)
over n (b ∷ s) h = rw (over (n * 10 + (b - 48)) s (omega arith)) (either (leb 48 b && leb b 57))
  where
    either : (t : Bool) → cond {A = Option ℕ} t None None ≡ None
    either true = refl
    either false = refl

-- the first digit, and the rest
first : (n b : ℕ) (s : List ℕ) → digits_from n (b ∷ s) ≡ option_and_then (λ m. digits_from m s) (with_digit n b)
unfolding digits_from
first n b s = go (leb 48 b && leb b 57) (leb (n * 10 + (b - 48)) 4294967295) refl
  where
    go : (t u : Bool) → leb (n * 10 + (b - 48)) 4294967295 ≡ u
        → cond t (digits_from (n * 10 + (b - 48)) s) None ≡ option_and_then (λ m. digits_from m s) (cond (t && u) (Some (n * 10 + (b - 48))) None)
    go true true e = refl
    go true false e = over _ s (leb-false _ _ e)
    go false u e = refl

-- a number that was read is small enough
small_digit : (n b m : ℕ) → with_digit n b ≡ Some m → m ≤ 4294967295
small_digit n b m e = go (leb 48 b && leb b 57) (leb (n * 10 + (b - 48)) 4294967295) refl e
  where
    go : (t u : Bool) → leb (n * 10 + (b - 48)) 4294967295 ≡ u → cond (t && u) (Some (n * 10 + (b - 48))) None ≡ Some m → m ≤ 4294967295
    go true true q r = let s : n * 10 + (b - 48) ≡ m = cc in omega (arith, leb-true _ _ q)
    go true false q r = cc
    go false u q r = cc

-- what is read so far, and what the rest makes of it
pub record Digits (f : List ℕ) (n i : ℕ) : Type 0 where
  pub small : n ≤ 4294967295
  pub left : digits_from n (drop i f) ≡ digits_from 0 f

module _ {f : List ℕ} {n i : ℕ} (k : Digits f n i) where
  module _ (h : i < length f) {r : Option ℕ} (e : r ≡ with_digit n (get_or f i 0)) where
    on : option_and_then (λ m. digits_from m (drop (suc i) f)) r ≡ digits_from 0 f
    on = rw (drop-cons f i 0 h, first, ← e) at k.left

    pub no_digit : r ≡ None → None ≡ digits_from 0 f
    no_digit z = rw z at on

    pub digits_next : (m : ℕ) → r ≡ Some m → Digits f m (i + 1)
    digits_next m z = record { small = small_digit n (get_or f i 0) m (sym e ∙ z); left = rw add-one (rw z at on) }

  pub digits_end : length f ≤ i → Some n ≡ digits_from 0 f
  unfolding digits_from
  digits_end h = rw (drop_of_length-le f h, le-leb _ _ k.small) at k.left

-- a field writes a number where it has a byte, and a 0 only alone in front
pub number_none : (f : List ℕ) → length f ≡ 0 → None ≡ number_of f
unfolding number_of
number_none [] h = refl
number_none (b ∷ f) h = absurd (omega arith)

pub number_zero : (f : List ℕ) → 1 < length f → get_or f 0 0 ≡ 48 → None ≡ number_of f
unfolding number_of
number_zero [] h z = absurd (omega arith)
number_zero (b ∷ f) h z = rw (eq-eqb b 48 z, lt-ltb 0 (length f) (omega arith))

pub number_digits : (f : List ℕ) → (length f ≡ 0 → ⊥) → (1 < length f → get_or f 0 0 ≡ 48 → ⊥) → digits_from 0 f ≡ number_of f
unfolding number_of
number_digits [] n h = absurd (n refl)
number_digits (b ∷ f) n h = go (eqb b 48) (ltb 0 (length f)) refl refl
  where
    go : (t u : Bool) → eqb b 48 ≡ t → ltb 0 (length f) ≡ u → digits_from 0 (b ∷ f) ≡ cond (t && u) None (digits_from 0 (b ∷ f))
    go true true e d = let l = ltb-true _ _ d in absurd (h (omega (arith, l)) (eqb-true b 48 e))
    go true false e d = refl
    go false u e d = refl

-- where a byte stands, by the library's word
pub before_found : (b : ℕ) (s : List ℕ) → unwrap_or (position (λ x. x == b) s) (length s) ≡ bytes_before b s
unfolding bytes_before
before_found b s = go (nat_lt (position_or_len (λ x. x == b) s) (length s)) refl
  where
    go : (t : Bool) → nat_lt (position_or_len (λ x. x == b) s) (length s) ≡ t
        → unwrap_or (cond t (Some (position_or_len (λ x. x == b) s)) None) (length s) ≡ position_or_len (λ x. x == b) s
    go true e = refl
    go false e = omega (arith, ltb-false _ _ e, prefix_len-le-length (λ x. not (x == b)) s)

-- `&s[k..]` as the code has it
pub rest : (k : ℕ) (s : List ℕ) → take (length s - k) (drop k s) ≡ drop k s
rest k s = take_all (length s - k) (drop k s) (simp length-drop (omega arith))

-- parts of a slice
pub part_length : (n : ℕ) (l : List ℕ) → n ≤ length l → n ≡ length (take n l)
part_length n l h = sym (length-take-le n l h)
