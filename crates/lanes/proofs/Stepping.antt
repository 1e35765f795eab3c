-- A move of every group's own stretch is a move of the machine, and a run is a stage.
use Prim.Native.Nat.{ℕ, zero, suc, ◌+◌, ◌-◌, ◌*◌, ◌≤◌, ◌<◌}
use mathlib.Core.Path.{◌≡◌, refl, sym, ap, ap₂, ◌∙◌}
use mathlib.Core.Bool.{Bool, true, false, cond}
use mathlib.Core.Option.{Option, none, some}
use mathlib.Core.List.{List}
use native.Mathlib.Omega.{arith}
use native.Mathlib.Numerals.{add-one}
use native.Mathlib.Nat.{suc-mul}
use lib.Arith.{digits_div, digits_mod}
use lib.Dec.{ltb}
use lib.ListN.{get_or}
use borrow.Author.Tests.{lt-ltb, ltb-true}
use Rattle.laws.proofs.Blocks.{block, block_at, Changed}
use Rattle.laws.proofs.Tables.{entry_at}
use Rattle.array.specs.declared.moves.Way.{Way}
use Rattle.array.specs.declared.moves.Way.TheVariants.{Right, Left, Up, Down}
use Rattle.array.specs.declared.moves.Move.TheVariants.{Electronic}
use Rattle.array.specs.Cells.{groups, row, column}
use Rattle.lanes.specs.declared.steps.JoinRule.{JoinRule}
use Rattle.std.specs.Prelude.{Some, None}
use Rattle.lanes.specs.Machine.{State, receive, from_before, from_after}
use Rattle.lanes.specs.Stages.{position}
use Rattle.lanes.specs.Inside.{Moved, source_of, word_at, next_of, stepped, stepped_all}
use Rattle.lanes.specs.Runs.{rule_of}
use Rattle.lanes.proofs.Coordinates.{place<}

-- what comes to a place is what the machine's cell receives
module _ (s : ℕ) (l : List ℕ) (σ : ℕ → ℕ → ℕ) (holds : (a b : ℕ) → a < s → b < s → get_or l (a * s + b) 0 ≡ σ a b) (a b : ℕ) (ha : a < s) (hb : b < s) where
  from_before_lem : (i : ℕ) (f : ℕ → ℕ) (p : ℕ) → (0 < p → get_or l i 0 ≡ f (p - 1)) → word_at l (cond (ltb 0 p) (Some i) None) ≡ from_before f p
  from_before_lem i f zero h = refl
  from_before_lem i f (suc p) h = rw (lt-ltb 0 (suc p) (omega arith)) (ap {B = Option ℕ} (λ x. some x) (h (omega arith) ∙ ap f (omega arith)))

  from-after : (i : ℕ) (f : ℕ → ℕ) (p : ℕ) → (p + 1 < s → get_or l i 0 ≡ f (suc p)) → word_at l (cond (ltb (p + 1) s) (Some i) None) ≡ from_after s f p
  from-after i f p h = rw add-one (go (ltb (suc p) s) refl)
    where
      go : (t : Bool) → ltb (suc p) s ≡ t → word_at l (cond t (Some i) None) ≡ cond t (some (f (suc p))) none
      go true e = ap {B = Option ℕ} (λ x. some x) (h (omega (arith, ltb-true (suc p) s e)))
      go false e = refl

  row_is : row s (a * s + b) ≡ a
  row_is = digits_div a hb

  column_is : column s (a * s + b) ≡ b
  column_is = digits_mod a hb

  arrives : (w : Way) → word_at l (source_of s w (a * s + b)) ≡ receive s (Electronic w) (λ c d a b. σ a b) 0 0 a b
  arrives Right = rw column_is (from_before_lem (a * s + b - 1) (σ a) b (λ u.
      ap (λ z. get_or l z 0) (omega arith) ∙ holds a (b - 1) ha (omega arith)))
  arrives Left = rw column_is (from-after (a * s + b + 1) (σ a) b (λ u.
      ap (λ z. get_or l z 0) (omega arith) ∙ holds a (suc b) ha (omega arith)))
  arrives Up = rw row_is (from-after (a * s + b + s) (λ i. σ i b) a (λ u.
      ap (λ z. get_or l z 0) (omega (arith, suc-mul a s)) ∙ holds (suc a) b (omega arith) hb))
  arrives Down = rw row_is (from_before_lem (a * s + b - s) (λ i. σ i b) a (λ u. above a u ha))
    where
      above : (a : ℕ) → 0 < a → a < s → get_or l (a * s + b - s) 0 ≡ σ (a - 1) b
      above zero u v = absurd (omega arith)
      above (suc a) u v =
          ap (λ z. get_or l z 0) (omega (arith, suc-mul a s)) ∙ holds a b (omega arith) hb ∙ ap (λ i. σ i b) (omega arith)

  placed : (w : Way) → position w (row s (a * s + b)) (column s (a * s + b)) ≡ position w a b
  placed w = rw (row_is, column_is)

  -- a place of a group after a move
  next_is : (w : Way) (r : JoinRule) → next_of s w r l (a * s + b)
      ≡ rule_of r.joining r.front (position w a b) (σ a b) (receive s (Electronic w) (λ c d a b. σ a b) 0 0 a b)
  next_is w r =
      ap (λ z. rule_of r.joining r.front z (get_or l (a * s + b) 0) (word_at l (source_of s w (a * s + b)))) (placed w)
      ∙ ap₂ (rule_of r.joining r.front (position w a b)) (holds a b ha hb) (arrives w)

-- what a cell receives in its group
received : (s : ℕ) (w : Way) (σ : State ℕ) (c d a b : ℕ) → receive s (Electronic w) (λ c' d' a b. σ c d a b) 0 0 a b ≡ receive s (Electronic w) σ c d a b
received s Right σ c d a b = refl
received s Left σ c d a b = refl
received s Up σ c d a b = refl
received s Down σ c d a b = refl

-- a move of all groups
pub step_moved : (s : ℕ) (w : Way) (r : JoinRule) (l l' : List ℕ) (g : ℕ) → groups s ≤ g → Changed (stepped s w r) (groups s) l g l' → Moved s (stepped_all s w r) l l'
step_moved s w r l l' g all_in z = record {
  so = λ σ h. record {
    is = λ c d a b hc hd ha hb.
        let n : ℕ = groups s in
        let p : c * s + d < g = omega (arith, all_in, place< hc hd) in
        sym (block_at (groups s) (c * s + d) l' (a * s + b) (place< ha hb))
        ∙ ap (λ k. get_or k (a * s + b) 0) (z.done (c * s + d) p)
        ∙ entry_at (next_of s w r (block (groups s) (c * s + d) l)) (groups s) (a * s + b) 0 (place< ha hb)
        ∙ next_is s (block (groups s) (c * s + d) l) (σ c d) (λ a b ha hb. block_at (groups s) (c * s + d) l (a * s + b) (place< ha hb) ∙ h.is c d a b hc hd ha hb) a b ha hb w r
        ∙ ap (rule_of r.joining r.front (position w a b) (σ c d a b)) (received s w σ c d a b);
  };
}
