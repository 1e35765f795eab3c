-- Two outcomes of concentrate or distribute for one input are the same lists, whole or up to a cut. A contract gives every cell of the six lanes, and a slice
-- keeps its length in a call, so it gives the lanes.
use Prim.Native.Nat.{ℕ, ◌<◌}
use mathlib.Core.Path.{◌≡◌, refl, sym, ap, ◌∙◌}
use mathlib.Core.List.{List}
use native.Mathlib.Omega.{arith}
use lib.ListN.{length, get_or}
use lib.Seq.{ext_get_or}
use Rattle.laws.specs.Lent.{Lent, old, new}
use Rattle.array.specs.Cells.{cells}
use Rattle.answers.specs.declared.Answer.{Answer}
use Rattle.answers.proofs.Outcomes.{left_with, same_outcome}
use Rattle.light.specs.Lanes.{slots, Table, table_after}
use Rattle.slots.specs.declared.Cell.{Cell}
use Rattle.slots.specs.Cells.{cell_at, Sized}
use Rattle.slots.specs.Lanes.{cells_after}
use Rattle.lists.specs.declared.Trip.{Trip}
use Rattle.refusals.proofs.Verdicting.{Fitting, full_known, cut_known}
use Rattle.records.specs.Entries.{Stood, sizes_of, FullRun, CutRun}

-- what cell j of a table holds, and its lanes all of length n
abbrev cell_in : Table → ℕ → Cell
cell_in t = cell_at t.front.words t.front.marks t.front.aims t.spare.words t.spare.marks t.spare.aims

abbrev Measured : ℕ → Table → Type 0
Measured n t = Sized n t.front.words t.front.marks t.front.aims t.spare.words t.spare.marks t.spare.aims

-- tables of one length that hold the same cells are the same
module _ (n : ℕ) (t u : Table) (long : Measured n t) (long' : Measured n u) (same : (j : ℕ) → j < n → cell_in t j ≡ cell_in u j) where
  lane : (l l' : List ℕ) (f : Cell → ℕ) → length l ≡ n → length l' ≡ n
      → ((j : ℕ) → f (cell_in t j) ≡ get_or l j 0) → ((j : ℕ) → f (cell_in u j) ≡ get_or l' j 0) → l ≡ l'
  lane l l' f e e' g g' = ext_get_or 0 l l' (e ∙ sym e') (λ j h. sym (g j) ∙ ap f (same j (omega arith)) ∙ g' j)

  same-table : t ≡ u
  same-table =
      let w = lane t.front.words u.front.words (λ c. c.front.word) long.words long'.words (λ j. refl) (λ j. refl) in
      let m = lane t.front.marks u.front.marks (λ c. c.front.mark) long.marks long'.marks (λ j. refl) (λ j. refl) in
      let a = lane t.front.aims u.front.aims (λ c. c.front.aim) long.aims long'.aims (λ j. refl) (λ j. refl) in
      let w₂ = lane t.spare.words u.spare.words (λ c. c.spare.word) long.words2 long'.words2 (λ j. refl) (λ j. refl) in
      let m₂ = lane t.spare.marks u.spare.marks (λ c. c.spare.mark) long.marks2 long'.marks2 (λ j. refl) (λ j. refl) in
      let a₂ = lane t.spare.aims u.spare.aims (λ c. c.spare.aim) long.aims2 long'.aims2 (λ j. refl) (λ j. refl) in
      λ i. record { front = slots (w i) (m i) (a i); spare = slots (w₂ i) (m₂ i) (a₂ i) }

-- six slices keep their lengths in a call
pub record LengthsKept (w m a w₂ m₂ a₂ : Lent) : Type 0 where
  pub words : length (new w) ≡ length (old w)
  pub marks : length (new m) ≡ length (old m)
  pub aims : length (new a) ≡ length (old a)
  pub words2 : length (new w₂) ≡ length (old w₂)
  pub marks2 : length (new m₂) ≡ length (old m₂)
  pub aims2 : length (new a₂) ≡ length (old a₂)

measured : (s : ℕ) (w m a w₂ m₂ a₂ : Lent) → Fitting s (length (old m)) (length (old a)) (sizes_of (old w) (old w₂) (old m₂) (old a₂))
    → LengthsKept w m a w₂ m₂ a₂ → Measured (cells s) (table_after w m a w₂ m₂ a₂)
measured s w m a w₂ m₂ a₂ f k = record {
  words = k.words ∙ f.words;
  marks = k.marks ∙ f.marks;
  aims = k.aims ∙ f.aims;
  words2 = k.words2 ∙ f.words2;
  marks2 = k.marks2 ∙ f.marks2;
  aims2 = k.aims2 ∙ f.aims2;
}

-- an outcome, and another of the same loans that leaves the lanes t
module _ (trip : Trip) (s : ℕ) (w m a w₂ m₂ a₂ : Lent) (t : Table) where
  abbrev w' : Lent
  w' = left_with w t.front.words

  abbrev m' : Lent
  m' = left_with m t.front.marks

  abbrev a' : Lent
  a' = left_with a t.front.aims

  abbrev w₂' : Lent
  w₂' = left_with w₂ t.spare.words

  abbrev m₂' : Lent
  m₂' = left_with m₂ t.spare.marks

  abbrev a₂' : Lent
  a₂' = left_with a₂ t.spare.aims

  module _ (k : LengthsKept w m a w₂ m₂ a₂) (k' : LengthsKept w' m' a' w₂' m₂' a₂') where
    stood_same : (n : ℕ) → Fitting s (length (old m)) (length (old a)) (sizes_of (old w) (old w₂) (old m₂) (old a₂))
        → Stood trip s n (old w) (old m) (old a) (cells_after w m a w₂ m₂ a₂) → Stood trip s n (old w) (old m) (old a) (cell_in t)
        → table_after w m a w₂ m₂ a₂ ≡ t
    stood_same n f o o' =
        same-table (cells s) (table_after w m a w₂ m₂ a₂) t (measured s w m a w₂ m₂ a₂ f k) (measured s w' m' a' w₂' m₂' a₂' f k')
        (λ j h. o.shown j h ∙ sym (o'.shown j h))

    pub cut_same : (cut : ℕ) {r r' : Answer} → CutRun trip s cut w m a w₂ m₂ a₂ r → CutRun trip s cut w' m' a' w₂' m₂' a₂' r'
        → (r ≡ r') × (table_after w m a w₂ m₂ a₂ ≡ t)
    cut_same cut z z' =
        same_outcome z z'
        (λ h o o' _ _. stood_same cut (cut_known trip s cut (sizes_of (old w) (old w₂) (old m₂) (old a₂)) (old m) (old a) z.answer h).fits o o')
        (λ e e'. e ∙ sym e')

    pub full_same : (codes moved : Lent) (c d : List ℕ) {r r' : Answer} → FullRun trip s w m a w₂ m₂ a₂ codes moved r
        → FullRun trip s w' m' a' w₂' m₂' a₂' (left_with codes c) (left_with moved d) r'
        → (r ≡ r') × ((table_after w m a w₂ m₂ a₂ ≡ t) × ((new codes ≡ c) × (new moved ≡ d)))
    full_same codes moved c d z z' =
        let known = full_known trip s (sizes_of (old w) (old w₂) (old m₂) (old a₂)) (old m) (old a) (length (old codes)) (length (old moved)) z.answer in
        same_outcome z z'
        (λ h o o' l l'. (stood_same _ (known h).fits o o', (l.0 ∙ sym l'.0, l.1 ∙ sym l'.1)))
        (λ e e'. (e.0 ∙ sym e'.0, (e.1.0 ∙ sym e'.1.0, e.1.1 ∙ sym e'.1.1)))
