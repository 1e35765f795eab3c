-- The lines of a capture, one at a time: what `walk` keeps from turn to turn.
use Prim.Native.Nat.{ℕ, suc, ◌≤◌, ◌<◌}
use mathlib.Core.Path.{◌≡◌, refl, sym, ap, subst, ◌∙◌}
use mathlib.Core.Bool.{Bool, true, false}
use mathlib.Core.List.{List, [], ◌∷◌}
use native.Mathlib.Omega.{arith}
use lib.ListN.{length, take}
use Rattle.std.proofs.lemmas.List.{nil_from_length}
use Rattle.texts.specs.Bytes.{lf}
use Rattle.texts.specs.Lines.{bytes_before, Parted, TextLine, ended, lines_of}
use Rattle.texts.specs.Numbers.{numbers_in}
use Rattle.texts.specs.declared.read.Numbers.{Numbers}
use Rattle.texts.specs.declared.read.Numbers.TheVariants.{Two, Four}
use Rattle.texts.proofs.Ended.{lines_unended, lines_parted}
use Rattle.lists.specs.Lists.{total_moves}
use Rattle.captures.specs.declared.Held.{Held}
use Rattle.captures.specs.declared.start.Start.{Start}
use Rattle.captures.specs.declared.walk.Tally.{Tally}
use Rattle.std.specs.Prelude.{Option, Some, None}
use Rattle.std.specs.Prelude.{Result, Ok, Err}
use Rattle.answers.specs.declared.Refusal.{Refusal}
use Rattle.answers.specs.declared.Refusal.TheVariants.{Capture}
use Rattle.captures.specs.declared.Replayed.{Replayed}
use Rattle.captures.specs.Captures.{held_of, order_of, no_capture, in_turn, in_place, capture_from}
use Rattle.captures.specs.Inside.{expected_at, expected_from}
use Rattle.captures.specs.Inside.{no_tally, behind_move, behind_record, next_of, end_of, resolved, resolved_from}
use Rattle.captures.proofs.Starting.{few_cells}
use Rattle.captures.proofs.Telling.{turn_known, place_known}
use Rattle.captures.proofs.Resolving.{end-resolved, move_resolved, record_resolved}

-- the tally of a good line, and whether a line is good
abbrev tally_in : Option Tally → Tally
tally_in (Some t) = t
tally_in None = no_tally

abbrev is_good : Option Tally → ℕ
is_good (Some t) = 1
is_good None = 0

not_both : {t : Tally} → None ≡ Some t → ⊥
not_both e = let z : ◌≡◌ {A = ℕ} 0 1 = ap is_good e in omega (arith, z)

-- one line more: the lines behind it come to the same
pub record Stepped (s : ℕ) (w m a : List ℕ) (k : ℕ) (ls : List TextLine) (line : List ℕ) (t t' : Tally) : Type 0 where
  pub same : resolved s w m a t (capture_from s t.made t.next k (ended line ∷ ls)) ≡ resolved s w m a t' (capture_from s t'.made t'.next (suc k) ls)
  pub more : t.made ≤ t'.made
  pub made_few : t'.made ≤ total_moves s
  pub next_few : t'.next ≤ 162
  pub seen_few : t'.seen ≤ t'.next

module _ (s : ℕ) (small : s ≤ 3) (w m a : List ℕ) (k : ℕ) (ls : List TextLine) (line : List ℕ) (t : Tally) (r : List Held)
    (z : r ≡ expected_at s w m a t.made) (made_few : t.made ≤ total_moves s) (seen_few : t.seen ≤ t.next) where
  move_stepped : (number code : ℕ) → numbers_in line ≡ Some (Two number code) → in_turn s t.made number ≡ true
      → Stepped s w m a k ls line t (behind_move s t (length r) number code)
  unfolding capture_from
  move_stepped number code e g =
      let turn = turn_known s t.made number g in
      let v = capture_from s number 0 (suc k) ls in
      record {
        same = rw (e, capture_from, g) (move_resolved s w m a t r z code v ∙ ap (λ (n : ℕ). resolved s w m a (behind_move s t (length r) n code) v) (sym turn.0));
        more = omega (arith, turn);
        made_few = turn.1;
        next_few = omega arith;
        seen_few = omega arith;
      }

  record_stepped : (cell slot word aim : ℕ) → numbers_in line ≡ Some (Four cell slot word aim) → in_place s t.made t.next (held_of cell slot word aim) ≡ true
      → Stepped s w m a k ls line t (behind_record t r (held_of cell slot word aim))
  unfolding capture_from
  record_stepped cell slot word aim e g =
      let h = held_of cell slot word aim in
      let known = place_known s t.made t.next h g in
      record {
        same = rw (e, capture_from, g) (record_resolved s w m a t r z h (capture_from s t.made (suc (order_of h)) (suc k) ls));
        more = omega arith;
        made_few = made_few;
        next_few = omega (arith, known, few_cells s small);
        seen_few = omega (arith, known, seen_few);
      }

  stepped_by : (x : Option Numbers) → numbers_in line ≡ x → (t' : Tally) → next_of s t r x ≡ Some t' → Stepped s w m a k ls line t t'
  unfolding next_of
  stepped_by (Some (Two number code)) e t' n = go (in_turn s t.made number) refl
    where
      go : (g : Bool) → in_turn s t.made number ≡ g → Stepped s w m a k ls line t t'
      go true g = subst (Stepped s w m a k ls line t) (ap tally_in (rw g at n)) (move_stepped number code e g)
      go false g = absurd (not_both (rw g at n))
  stepped_by (Some (Four cell slot word aim)) e t' n = go (in_place s t.made t.next (held_of cell slot word aim)) refl
    where
      go : (g : Bool) → in_place s t.made t.next (held_of cell slot word aim) ≡ g → Stepped s w m a k ls line t t'
      go true g = subst (Stepped s w m a k ls line t) (ap tally_in (rw g at n)) (record_stepped cell slot word aim e g)
      go false g = absurd (not_both (rw g at n))
  stepped_by None e t' n = absurd (not_both n)

  pub stepped : (t' : Tally) → next_of s t r (numbers_in line) ≡ Some t' → Stepped s w m a k ls line t t'
  stepped t' n = stepped_by (numbers_in line) refl t' n

-- a bad line is the one that is named
module _ (s k : ℕ) (ls : List TextLine) (line : List ℕ) (t : Tally) (r : List Held) where
  refused_by : (x : Option Numbers) → numbers_in line ≡ x → next_of s t r x ≡ None → capture_from s t.made t.next k (ended line ∷ ls) ≡ no_capture k
  unfolding next_of capture_from
  refused_by (Some (Two number code)) e n = go (in_turn s t.made number) refl
    where
      go : (g : Bool) → in_turn s t.made number ≡ g → capture_from s t.made t.next k (ended line ∷ ls) ≡ no_capture k
      go true g = absurd (not_both (sym (rw g at n)))
      go false g = rw (e, capture_from, g)
  refused_by (Some (Four cell slot word aim)) e n = go (in_place s t.made t.next (held_of cell slot word aim)) refl
    where
      go : (g : Bool) → in_place s t.made t.next (held_of cell slot word aim) ≡ g → capture_from s t.made t.next k (ended line ∷ ls) ≡ no_capture k
      go true g = absurd (not_both (sym (rw g at n)))
      go false g = rw (e, capture_from, g)
  refused_by None e n = rw (e, capture_from)

  pub refused-line : next_of s t r (numbers_in line) ≡ None → capture_from s t.made t.next k (ended line ∷ ls) ≡ no_capture k
  refused-line n = refused_by (numbers_in line) refl n

-- what the whole capture comes to, and what the rest of it comes to behind a tally
abbrev pub wholly : Start → List ℕ → Result Replayed Refusal
wholly b text = resolved_from b no_tally (capture_from b.side 0 0 1 (lines_of text))

abbrev pub onward : Start → List ℕ → ℕ → Tally → Result Replayed Refusal
onward b rest line t = resolved_from b t (capture_from b.side t.made t.next line (lines_of rest))

-- the state of `walk` before a line: what is not read yet gives the whole answer
pub record Walking (b : Start) (text rest : List ℕ) (line : ℕ) (t : Tally) (r : List Held) : Type 0 where
  pub listed : r ≡ expected_from b t.made
  pub made_few : t.made ≤ total_moves b.side
  pub next_few : t.next ≤ 162
  pub seen_few : t.seen ≤ t.next
  pub left : onward b rest line t ≡ wholly b text

pub walking_start : (b : Start) (text : List ℕ) {t : Tally} {r : List Held} → t ≡ no_tally → r ≡ [] → Walking b text text 1 t r
walking_start b text {t} {r} e l = subst (λ (x : Tally). Walking b text text 1 x r) (sym e) begun
  where
    begun : Walking b text text 1 no_tally r
    begun = record {
      listed = l;
      made_few = omega arith;
      next_few = omega arith;
      seen_few = omega arith;
      left = refl;
    }

module _ {b : Start} {text rest : List ℕ} {line : ℕ} {t : Tally} {r : List Held} (k : Walking b text rest line t r) where
  pub walking_end : length rest ≡ 0 → {x : Replayed} → x ≡ end_of b.side t (length r) → Ok x ≡ wholly b text
  unfolding capture_from lines_of
  walking_end h {x} e =
      let n : rest ≡ [] = nil_from_length rest h in
      ap Ok e ∙ sym (end-resolved b.side _ _ _ t r k.listed) ∙ rw n at k.left

  refuse : {x : Result Replayed Refusal} {n : ℕ} → capture_from b.side t.made t.next line (lines_of rest) ≡ no_capture line → n ≡ line
      → x ≡ Err (Capture n)
      → x ≡ wholly b text
  unfolding resolved
  refuse e n f = rw (f, n) (rw e at k.left)

  pub walking_unended : {x : Result Replayed Refusal} {n : ℕ} → 0 < length rest → bytes_before lf rest ≡ length rest → n ≡ line → x ≡ Err (Capture n)
      → x ≡ wholly b text
  unfolding capture_from
  walking_unended h u n f = refuse (rw (lines_unended rest u h)) n f

  module _ {front behind : List ℕ} (p : Parted lf rest front behind) where
    pub walking_bad : {x : Result Replayed Refusal} {n : ℕ} → None ≡ next_of b.side t r (numbers_in front) → n ≡ line → x ≡ Err (Capture n)
        → x ≡ wholly b text
    walking_bad v n f =
        refuse (ap (capture_from b.side t.made t.next line) (lines_parted rest front behind p) ∙ refused-line b.side line _ front t r (sym v)) n f

    module _ {t' : Tally} (v : Some t' ≡ next_of b.side t r (numbers_in front)) where
      one : Stepped b.side (take b.n b.words) (take b.n b.marks) (take b.n b.aims) line (lines_of behind) front t t'
      one = stepped b.side b.startable.small _ _ _ line _ front t r k.listed k.made_few k.seen_few t' (sym v)

      -- the state that the records behind the line are those of
      pub walking_made : (t.made ≤ t'.made) × (t'.made ≤ total_moves b.side)
      walking_made = (one.more, one.made_few)

      pub walking_next : {r' : List Held} {line' : ℕ} → line' ≡ suc line → r' ≡ expected_from b t'.made → Walking b text behind line' t' r'
      walking_next n l = record {
        listed = l;
        made_few = one.made_few;
        next_few = one.next_few;
        seen_few = one.seen_few;
        left =
            ap (λ (m : ℕ). onward b behind m t') n
            ∙ sym one.same
            ∙ ap (λ (ls : List TextLine). resolved_from b t (capture_from b.side t.made t.next line ls)) (sym (lines_parted rest front behind p))
            ∙ k.left;
      }
