-- A move inside a group, made in place: the turn of a position, and all turns from the far end back: what a place takes is still as it was.
use Prim.Native.Nat.{ℕ, ◌+◌, ◌*◌, ◌≤◌, ◌<◌}
use mathlib.Core.Path.{◌≡◌, refl, sym, ap, ap₂, ◌∙◌}
use mathlib.Core.Bool.{Bool, true, false, cond}
use mathlib.Core.Option.{Option, none, some}
use mathlib.Core.List.{List}
use native.Mathlib.Omega.{arith}
use lib.Dec.{eqb, ltb}
use lib.ListN.{length, get_or}
use borrow.Author.Tests.{eqb-true, eqb-false, ltb-true, ltb-false}
use Rattle.std.specs.List.{CopiedTo}
use Rattle.laws.proofs.Tables.{entries-all, entries_cong}
use Rattle.array.specs.declared.moves.Way.{Way}
use Rattle.array.specs.Cells.{groups, row, column}
use Rattle.array.specs.Moves.{is_forth, stride_of, line_gap}
use Rattle.lanes.specs.declared.Joining.{Joining}
use Rattle.lanes.specs.declared.Joining.TheVariants.{Add, Copy, Fill}
use Rattle.lanes.specs.declared.steps.JoinRule.{JoinRule}
use Rattle.lanes.specs.declared.steps.LinePlaces.{LinePlaces}
use Rattle.std.specs.Prelude.{Option as Perhaps, Some, None}
use Rattle.sums.specs.Sums.{plus}
use Rattle.lanes.specs.Stages.{front, copy, filled, position}
use Rattle.lanes.specs.Inside.{Group, Source, source_of, word_at, next_of, stepped, filling, after_turn, behind_of, line_from, line_at, beginning_of, PlacesLaid, LinesMade, join_of, join_from, LinesJoined}
use Rattle.lanes.specs.Runs.{rule_of}
use Rattle.lanes.proofs.Lines.{front_now, front_not}
use Rattle.lanes.proofs.Spots.{spot, line_number, spot_is, spot-line, spot-position, spot_in, line_in, position_in, Along, Behind, behind_known, spots_along, beginning_in, placed, source_is}

-- the position of a place
abbrev pos : ℕ → Way → ℕ → ℕ
pos s w i = position w (row s i) (column s i)

-- a place whose turn it is
rule_now : (j : Joining) (p own x : ℕ) → rule_of j p p own (some x) ≡ join_of j own x
rule_now Add p own x = front_now plus p own x
rule_now Copy p own x = front_now copy p own x
rule_now Fill p own x = refl

module _ (s : ℕ) (w : Way) (j : Joining) (p : ℕ) (l : List ℕ) where
  -- what comes to a place at position p
  comes : (k : ℕ) → k < s → p < s → source_of s w (spot s w k p) ≡ placed (spot s w k) (behind_of s w p)
  comes k u h =
      source_is s (spot s w k p) w
      ∙ ap₂ (λ a b. placed (spot s w a) (behind_of s w b)) (spot-line u h w) (spot-position u h w)

  next_at : (k : ℕ) → k < s → p < s → next_of s w (record { joining = j; front = p }) l (spot s w k p)
      ≡ rule_of j p p (get_or l (spot s w k p) 0) (word_at l (placed (spot s w k) (behind_of s w p)))
  next_at k u h =
      ap₂ (λ a b. rule_of j p a (get_or l (spot s w k p) 0) (word_at l b)) (spot-position u h w) (comes k u h)

  module _ (l' : List ℕ) (g : Group s (length l)) where
    -- the places at position p hold what the rule makes of them, the others what they held
    after_turn_by : length l' ≡ length l → ((i : ℕ) → i < groups s → pos s w i ≡ p → get_or l' i 0 ≡ next_of s w (record { joining = j; front = p }) l i)
        → ((i : ℕ) → i < groups s → (pos s w i ≡ p → ⊥) → get_or l' i 0 ≡ get_or l i 0) → l' ≡ after_turn s w j p l
    after_turn_by e here there = entries-all _ (groups s) 0 l' (e ∙ g.whole) (λ i u. go i u (eqb (pos s w i) p) refl)
      where
        go : (i : ℕ) → i < groups s → (t : Bool) → eqb (pos s w i) p ≡ t
            → get_or l' i 0 ≡ cond (eqb (pos s w i) p) (next_of s w (record { joining = j; front = p }) l i) (get_or l i 0)
        go i u true x = rw x (here i u (eqb-true (pos s w i) p x))
        go i u false x = rw x (there i u (eqb-false (pos s w i) p x))

    laid_after_turn : (f : ℕ → ℕ) → p < s → PlacesLaid (p * stride_of s w) (line_gap s w) s f l l'
        → ((k : ℕ) → k < s → f k ≡ next_of s w (record { joining = j; front = p }) l (spot s w k p)) → l' ≡ after_turn s w j p l
    laid_after_turn f h z same = after_turn_by z.size here there
      where
        here : (i : ℕ) → i < groups s → pos s w i ≡ p → get_or l' i 0 ≡ next_of s w (record { joining = j; front = p }) l i
        here i u x =
            let k = line_number w (row s i) (column s i) in
            let e : spot s w k p ≡ i = ap (spot s w k) (sym x) ∙ spot_is s i w in
            ap (λ z. get_or l' z 0) (sym e) ∙ z.done k (line_in i w g.least u) ∙ same k (line_in i w g.least u)
            ∙ ap (next_of s w (record { joining = j; front = p }) l) e

        there : (i : ℕ) → i < groups s → (pos s w i ≡ p → ⊥) → get_or l' i 0 ≡ get_or l i 0
        there i u x = z.kept i (λ k v e. x (ap (pos s w) e ∙ spot-position v h w))

    pub after_turn_joined : (q : ℕ) → p < s → behind_of s w p ≡ Some q → PlacesLaid (p * stride_of s w) (line_gap s w) s (join_from j (p * stride_of s w) (q * stride_of s w) (line_gap s w) l) l l'
        → l' ≡ after_turn s w j p l
    after_turn_joined q h e z = laid_after_turn _ h z (λ k u.
        sym (next_at k u h ∙ ap (λ b. rule_of j p p (get_or l (spot s w k p) 0) (word_at l (placed (spot s w k) b))) e ∙ rule_now j p _ _))

-- nothing happens with a front at the edge, and off the board
after_turn_edge : (s : ℕ) (w : Way) (p : ℕ) (l : List ℕ) (op : ℕ → ℕ → ℕ) (j : Joining) → rule_of j ≡ front op → Group s (length l) → p < s
    → behind_of s w p ≡ None → l ≡ after_turn s w j p l
unfolding front
after_turn_edge s w p l op j r g h e = after_turn_by s w j p l l g refl
    (λ i u x. sym
    (ap (λ b. rule_of j p (pos s w i) (get_or l i 0) (word_at l b)) (source_is s i w)
    ∙ ap (λ z. rule_of j p (pos s w i) (get_or l i 0) (word_at l (placed (spot s w (line_number w (row s i) (column s i))) (behind_of s w z)))) x
    ∙ ap (λ b. rule_of j p (pos s w i) (get_or l i 0) (word_at l (placed (spot s w (line_number w (row s i) (column s i))) b))) e
    ∙ ap (λ f. f p (pos s w i) (get_or l i 0) none) r))
    (λ i u x. refl)

after_turn_off : (s : ℕ) (w : Way) (j : Joining) (p : ℕ) (l : List ℕ) → Group s (length l) → s ≤ p → l ≡ after_turn s w j p l
after_turn_off s w j p l g h =
    after_turn_by s w j p l l g refl (λ i u x. absurd (omega (arith, position_in i w g.least u, x))) (λ i u x. refl)

-- a front's line
after_turn_line : (s : ℕ) (w : Way) (p : ℕ) (l l' : List ℕ) (op : ℕ → ℕ → ℕ) (j : Joining) → rule_of j ≡ front op → Group s (length l)
    → LinesJoined j (line_at s w p) l l' → l' ≡ after_turn s w j p l
after_turn_line s w p l l' op j r g z = go (ltb p s) refl z
  where
    from : (b : Source) → p < s → behind_of s w p ≡ b → LinesJoined j (line_from s w p b) l l' → l' ≡ after_turn s w j p l
    from (Some q) h e z = after_turn_joined s w j p l l' g q h e z
    from None h e z = z ∙ after_turn_edge s w p l op j r g h e

    go : (t : Bool) → ltb p s ≡ t → LinesJoined j (cond (ltb p s) (line_from s w p (behind_of s w p)) None) l l' → l' ≡ after_turn s w j p l
    go true e z = from (behind_of s w p) (ltb-true p s e) refl (rw e at z)
    go false e z = rw e at z ∙ after_turn_off s w j p l g (ltb-false p s e)

-- with a front the others keep what they have
front-stepped : (s : ℕ) (w : Way) (r : JoinRule) (l l' : List ℕ) (op : ℕ → ℕ → ℕ) (j : Joining) → rule_of j ≡ front op → r.joining ≡ j
    → l' ≡ after_turn s w j r.front l → l' ≡ stepped s w r l
front-stepped s w r l l' op j e f z = z ∙ entries_cong (groups s) (λ i u. go i (eqb (pos s w i) r.front) refl)
  where
    got : ℕ → Option ℕ
    got i = word_at l (source_of s w i)

    go : (i : ℕ) (t : Bool) → eqb (pos s w i) r.front ≡ t
        → cond (eqb (pos s w i) r.front) (next_of s w (record { joining = j; front = r.front }) l i) (get_or l i 0) ≡ next_of s w r l i
    go i true x = rw (x, f)
    go i false x =
        rw (x, f, e) (sym (front_not op r.front (pos s w i) (get_or l i 0) (got i) (eqb-false (pos s w i) r.front x)))

-- what a step made of the places of a line
joined : (j : Joining) {R : ℕ → ℕ → ℕ → Type 0} (line : Perhaps LinePlaces) (l l' : List ℕ) → LinesMade R line l l'
    → ((own x r : ℕ) → R own x r → r ≡ join_of j own x) → LinesJoined j line l l'
joined j (Some x) l l' z f = record { size = z.so.size; done = λ k u. f _ _ _ (z.so.done k u); kept = z.so.kept }
joined j None l l' z f = z.so

-- a move in which the places at one position make that of their words and of those that come
pub turn_stepped : (s : ℕ) (w : Way) (r : JoinRule) (l l' : List ℕ) (op : ℕ → ℕ → ℕ) (j : Joining) {R : ℕ → ℕ → ℕ → Type 0} (line : Perhaps LinePlaces)
    → rule_of j ≡ front op → r.joining ≡ j → Group s (length l) → line ≡ line_at s w r.front → LinesMade R line l l'
    → ((own x r : ℕ) → R own x r → r ≡ join_of j own x) → l' ≡ stepped s w r l
turn_stepped s w r l l' op j line e f g x z made = front-stepped s w r l l' op j e f (after_turn_line s w r.front l l' op j e g (rw x at (joined j line l l' z made)))

-- all words of a group went on by a place of their lines, over the ends too
pub record Slid (s : ℕ) (w : Way) (l l' : List ℕ) : Type 0 where
  pub size : length l' ≡ length l
  pub moved : (i j : ℕ) → i < length l → j < length l → Along (is_forth w) (stride_of s w) i j → get_or l' i 0 ≡ get_or l j 0

-- so they do by a copy within the group
module _ {s : ℕ} {w : Way} {l l' : List ℕ} (n : ℕ) (size : length l' ≡ length l) (long : length l ≤ stride_of s w + n) where
  pub slid_forth : is_forth w ≡ true → CopiedTo l l' 0 (stride_of s w) n → Slid s w l l'
  slid_forth f z = record {
    size = size;
    moved = λ i j u v a. let e = rw f at a in z i 0 (omega (arith, e)) (omega (arith, long, u)) ∙ ap (λ k. get_or l k 0) (omega (arith, e));
  }

  pub slid_back : is_forth w ≡ false → CopiedTo l l' (stride_of s w) 0 n → Slid s w l l'
  slid_back f z = record {
    size = size;
    moved = λ i j u v a. let e = rw f at a in z i 0 (omega arith) (omega (arith, e, long, v)) ∙ ap (λ k. get_or l k 0) (omega (arith, e));
  }

-- where those that begin a line then hold 0, every place took what came to it
pub filled_stepped : (s : ℕ) (w : Way) (l m l' : List ℕ) → Group s (length l) → Slid s w l m
    → PlacesLaid (beginning_of s w * stride_of s w) (line_gap s w) s (λ k. 0) m l' → l' ≡ stepped s w filling l
filled_stepped s w l m l' g d z = entries-all (next_of s w filling l) (groups s) 0 l' (z.size ∙ d.size ∙ g.whole) (λ i u. go i u (behind_of s w (pos s w i)) refl)
  where
    go : (i : ℕ) → i < groups s → (b : Source) → behind_of s w (pos s w i) ≡ b → get_or l' i 0 ≡ next_of s w filling l i
    go i u (Some q) e =
        let k = line_number w (row s i) (column s i) in
        let h : k < s = line_in i w g.least u in
        let b : Behind s (is_forth w) (pos s w i) q = rw e at (behind_known s w (pos s w i) (position_in i w g.least u)) in
        let along : Along (is_forth w) (stride_of s w) i (spot s w k q) = rw (spot_is s i w) at (spots_along s w k (pos s w i) q (is_forth w) b.next) in
        z.kept i (λ j v x. b.later (ap (pos s w) x ∙ spot-position v (beginning_in w g.least) w))
        ∙ d.moved i (spot s w k q) (omega (arith, g.whole, u)) (omega (arith, g.whole, spot_in h b.inside w)) along
        ∙ sym (ap (λ c. filled (word_at l c)) (source_is s i w ∙ ap (placed (spot s w k)) e))
    go i u None e =
        let k = line_number w (row s i) (column s i) in
        let first : pos s w i ≡ beginning_of s w = rw e at (behind_known s w (pos s w i) (position_in i w g.least u)) in
        ap (λ c. get_or l' c 0) (sym (spot_is s i w) ∙ ap (spot s w k) first) ∙ z.done k (line_in i w g.least u)
        ∙ sym (ap (λ c. filled (word_at l c)) (source_is s i w ∙ ap (placed (spot s w k)) e))
