-- A tally says all that is needed of the lines before it: behind a line, what the lines that follow come to is what they came to before it.
use Rattle.std.specs.Prelude.{Ok, Option, Some, None}
use Rattle.std.specs.Option.{option_or}
use Prim.Native.Nat.{ℕ, zero, suc}
use mathlib.Core.Path.{◌≡◌, refl, sym, ap, ◌∙◌}
use mathlib.Core.Bool.{Bool, true, false, cond, ◌&&◌}
use mathlib.Core.Logic.{⊎_elim}
use mathlib.Core.List.{List, [], ◌∷◌}
use native.Mathlib.Omega.{arith}
use borrow.Author.Tests.{ne_eqb, le-leb, lt-leb}
use lib.Dec.{eqb, leb}
use lib.ListN.{length, drop}
use Rattle.laws.proofs.Deciding.{apart}
use Rattle.captures.specs.declared.Held.{Held}
use Rattle.captures.specs.declared.walk.Tally.{Tally}
use Rattle.captures.specs.declared.Replayed.{Replayed}
use Rattle.captures.specs.declared.Replayed.TheVariants.{Differs}
use Rattle.captures.specs.Captures.{CaptureVerdict, is_capture, no_capture, with_move, with_record}
use Rattle.captures.specs.Replays.{code_at, same_held, same_records, records_after, compared}
use Rattle.captures.specs.Inside.{expected_at, unless, following, behind_move, is_first, behind_record, end_of, resolved}

-- no record is left exactly where as many were seen as there are
none_left : (l : List Held) (k : ℕ) → same_records [] (drop k l) ≡ leb (length l) k
unfolding same_records
none_left [] zero = refl
none_left [] (suc k) = sym (le-leb 0 (suc k) (omega arith))
none_left (x ∷ l) zero = sym (lt-leb (suc (length l)) 0 (omega arith))
none_left (x ∷ l) (suc k) = none_left l k ∙ one_more (length l) k
  where
    one_more : (n k : ℕ) → leb n k ≡ leb (suc n) (suc k)
    one_more n k =
        ⊎_elim
        (λ h. lt-leb n k h ∙ sym (lt-leb (suc n) (suc k) (omega (arith, h))))
        (λ h. le-leb n k h ∙ sym (le-leb (suc n) (suc k) (omega (arith, h))))
        (apart k n)

unfoldable behind : List Held → List Held
behind [] = []
behind (x ∷ l) = l

drop_one : (l : List Held) (k : ℕ) → drop (suc k) l ≡ behind (drop k l)
unfolding behind
drop_one [] zero = refl
drop_one [] (suc k) = refl
drop_one (x ∷ l) zero = refl
drop_one (x ∷ l) (suc k) = drop_one l k

-- one thing more that may differ, at a move
one_thing : (d : Option ℕ) (made : ℕ) (f : Bool) (x : Replayed) → following (cond f x (Differs made)) d ≡ following x (option_or d (unless f made))
one_thing None made true x = refl
one_thing None made false x = refl
one_thing (Some d) made f x = refl

and_cond : (u f : Bool) (x y : Replayed) → cond (u && f) x y ≡ cond u (cond f x y) y
and_cond true f x y = refl
and_cond false f x y = refl

-- records are the same where the first is, and those behind it are
same_first : (h : Held) (hs l : List Held) (x y : Replayed) → cond (same_records (h ∷ hs) l) x y ≡ cond (is_first h l) (cond (same_records hs (behind l)) x y) y
unfolding same_records behind
same_first h hs [] x y = refl
same_first h hs (q ∷ l) x y = and_cond (same_held h q) (same_records hs l) x y

module _ (s : ℕ) (w m a : List ℕ) (t : Tally) (r : List Held) (z : r ≡ expected_at s w m a t.made) where
  abbrev L : List Held
  L = expected_at s w m a t.made

  left : same_records [] (drop t.seen L) ≡ leb (length r) t.seen
  left = none_left L t.seen ∙ ap (λ (l : List Held). leb (length l) t.seen) (sym z)

  pub end-resolved : resolved s w m a t (is_capture [] []) ≡ Ok (end_of s t (length r))
  unfolding resolved compared
  end-resolved = rw left

  pub move_resolved : (c : ℕ) (v : CaptureVerdict) → resolved s w m a t (with_move c v) ≡ resolved s w m a (behind_move s t (length r) (suc t.made) c) v
  unfolding resolved with_move compared
  move_resolved c (no_capture k) = refl
  move_resolved c (is_capture hs ms) =
      let n = suc t.made in
      let none = leb (length r) t.seen in
      let u = eqb c (code_at s n) in
      let x = cond (same_records hs (records_after s w m a n)) (compared s w m a n ms) (Differs n) in
      let new : eqb n 0 ≡ false = ne_eqb n 0 (omega arith) in
      rw (left, new, and_cond)
      (ap Ok (one_thing t.differs t.made none (cond u x (Differs n)) ∙ one_thing (option_or t.differs (unless none t.made)) n u x))

  pub record_resolved : (h : Held) (v : CaptureVerdict)
      → resolved s w m a t (with_record h v) ≡ resolved s w m a (behind_record t r h) v
  unfolding resolved with_record
  record_resolved h (no_capture k) = refl
  record_resolved h (is_capture hs ms) =
      let l = drop t.seen L in
      let x = cond (same_records hs (behind l)) (compared s w m a t.made ms) (Differs t.made) in
      rw (z, drop_one L t.seen, same_first)
      (ap Ok (one_thing t.differs t.made (is_first h l) x))
