-- A list that is rewritten entry after entry by a rule, in place.
use Prim.Native.Nat.{ℕ, ◌+◌, ◌≤◌, ◌<◌}
use mathlib.Core.Path.{◌≡◌, refl, ◌∙◌}
use mathlib.Core.Logic.{⊎_elim}
use mathlib.Core.Bool.{cond}
use mathlib.Core.List.{List}
use native.Mathlib.Omega.{arith}
use borrow.Author.Tests.{lt-ltb, le-ltb}
use lib.Dec.{ltb}
use lib.ListN.{length, get_or, set, length-set}
use lib.Seq.{get_or-set_same, get_or-set_other}
use Rattle.laws.specs.Tables.{entries}
use Rattle.laws.proofs.Deciding.{same?, ltb_next}
use Rattle.laws.proofs.Tables.{entries-all}

-- the entries below i are those of the rule, and the others as they were
pub record Rewriting {A : Type 0} (f : ℕ → A) (d : A) (old l : List A) (i : ℕ) : Type 0 where
  pub long : length l ≡ length old
  pub entry : (k : ℕ) → get_or l k d ≡ cond (ltb k i) (f k) (get_or old k d)

module _ {A : Type 0} (f : ℕ → A) (d : A) (old : List A) where
  pub rewriting_start : Rewriting f d old old 0
  rewriting_start = record { long = refl; entry = λ k. rw (le-ltb k 0 (omega arith)) }

  -- one entry more
  pub rewriting_store : {l : List A} {i : ℕ} (v : A) → i < length l → v ≡ f i → Rewriting f d old l i → Rewriting f d old (set l i v) (i + 1)
  rewriting_store {l} {i} v h e z = record {
    long = length-set l i v ∙ z.long;
    entry = λ k.
        ⊎_elim
        (λ g. rw (g, lt-ltb i (i + 1) (omega arith)) (get_or-set_same l i v d h ∙ e))
        (λ g. get_or-set_other l i k v d g ∙ rw (ltb_next k i g) (z.entry k))
        (same? k i);
  }

  -- the next entry is as it was
  pub rewriting_next : {l : List A} {i : ℕ} → Rewriting f d old l i → get_or l i d ≡ get_or old i d
  rewriting_next {l} {i} z = rw (le-ltb i i (omega arith)) at (z.entry i)

  pub rewriting_end : {l : List A} {i : ℕ} → length l ≤ i → Rewriting f d old l i → l ≡ entries f 0 (length old)
  rewriting_end {l} {i} h z =
      entries-all f (length old) d l z.long (λ k u. z.entry k ∙ rw (lt-ltb k i (omega (arith, z.long))))
