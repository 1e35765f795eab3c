-- The end of a whole run of concentrate: cell r holds the word of the marked cell of rank r.
use Prim.Native.Nat.{ℕ, ◌<◌}
use mathlib.Core.Path.{◌≡◌, refl, ap, ◌∙◌}
use mathlib.Core.List.{List}
use native.Mathlib.Omega.{arith}
use lib.ListN.{length, get_or}
use Rattle.array.specs.Cells.{cells}
use Rattle.travel.proofs.Collide.{at_the_end}
use Rattle.lists.specs.declared.Trip.TheVariants.{Concentrate}
use Rattle.lists.specs.Lists.{total_moves}
use Rattle.slots.specs.declared.Rec.{Rec}
use Rattle.slots.specs.declared.Cell.{Cell}
use Rattle.slots.specs.Cells.{alone}
use Rattle.course.specs.Showing.{Shows}
use Rattle.course.proofs.Holds.{hold1, holds_one}
use Rattle.course.proofs.Content.{Rising, content_holds}
use Rattle.course.proofs.Course.{shows_same}
use Rattle.marks.specs.Marks.{rank_in}
use Rattle.refusals.specs.Cases.{Good}
use Rattle.records.specs.Records.{marked_cell, count_in}
use Rattle.records.specs.Entries.{Stood}
use Rattle.refusals.proofs.Aims.{good_ranked}
use Rattle.records.proofs.Marked.{fits_alone, start_rises, start_inside, start_rising}

-- where each record stands in the cell of its own number it stands there alone
own_cell : {s b : ℕ} {R : ℕ → Rec} {T : ℕ → Cell} → Rising b R → Shows s b R (λ r. r) T → (r : ℕ) → r < b → r < cells s → T r ≡ alone (R r)
own_cell z o r h u =
    o.shown r u ∙ holds_one (content_holds z (λ k. k) (fits_alone (λ i j v l e. omega arith)) r) (hold1 r refl (h, refl) (λ k q. q.1))

module _ (s : ℕ) (some : 0 < s) (words marks aims : List ℕ) (long : length marks ≡ cells s) (good : Good Concentrate s marks aims) where
  pub word_there : {T : ℕ → Cell} → Stood Concentrate s (total_moves s) words marks aims T → (r : ℕ) → r < count_in s marks → r < cells s
      → (T r).front.word ≡ get_or words (marked_cell marks (cells s) r) 0
  word_there o r h u =
      let k = good_ranked s marks aims long good in
      let rises = start_rises s words marks aims k in
      let e = shows_same (λ r v. at_the_end s (rank_in marks (cells s)) some (marked_cell marks (cells s)) rises (start_inside s words marks aims k) r v) o in
      ap (λ (c : Cell). c.front.word) (own_cell (start_rising s words marks aims k) e r h u)
