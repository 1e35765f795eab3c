-- Lanes at the end of a trip, one by one and together.
use Prim.Native.Nat.{ℕ, ◌<◌}
use mathlib.Core.Path.{◌≡◌, refl, sym, ap, ◌∙◌}
use mathlib.Core.Bool.{cond}
use mathlib.Core.Logic.{⊎_elim}
use mathlib.Core.List.{List}
use native.Mathlib.Omega.{arith}
use borrow.Author.Tests.{lt-ltb, le-ltb}
use lib.Dec.{ltb}
use lib.ListN.{length, get_or}
use Rattle.laws.proofs.Deciding.{apart}
use Rattle.laws.proofs.Tables.{entry_at}
use Rattle.lists.specs.declared.Trip.TheVariants.{Concentrate}
use Rattle.marks.specs.Marks.{rank_in}
use Rattle.records.specs.Records.{marked_cell}
use Rattle.records.proofs.Marked.{found}
use Rattle.plainrecords.specs.Inside.{BoardMarks, Gathered, up_to, Holding, ArrangedBy}

-- a lane of which the first cells hold something
pub first_held : (count n : ℕ) (f : ℕ → ℕ) {lane : List ℕ} → lane ≡ up_to count f n → (j : ℕ) → j < n → get_or lane j 0 ≡ cond (ltb j count) (f j) 0
first_held count n f e j h = ap (λ (l : List ℕ). get_or l j 0) e ∙ entry_at (λ i. cond (ltb i count) (f i) 0) n j 0 h

holding_first : (count b n n' : ℕ) (f : ℕ → ℕ) {lane : List ℕ} → lane ≡ up_to count f n' → n' ≡ n → count ≡ b → Holding n (λ j. ltb j b) f lane
holding_first count b n n' f e m c = record { each = λ j h. first_held count n' f e j (omega arith) ∙ ap (λ (k : ℕ). cond (ltb j k) (f j) 0) c }

-- Concentrate: the word at place j is that of the marked cell of rank j
word_of : {words marks gathered : List ℕ} {count : ℕ} → BoardMarks marks → Gathered marks words gathered count
    → (j : ℕ) → j < rank_in marks (length marks) → get_or gathered j 0 ≡ get_or words (marked_cell marks (length marks) j) 0
word_of {marks = marks} {gathered} good g j h =
    let f = found marks (length marks) j (λ i l. omega (arith, good.good i l)) h in
    ap (λ (k : ℕ). get_or gathered k 0) (sym f.rank) ∙ g.word (marked_cell marks (length marks) j) f.inside f.marked

-- the words that were gathered, and the marks and aims of as many cells
pub packed : {words marks aims gathered words' marks' aims' : List ℕ} {count : ℕ} → BoardMarks marks → length gathered ≡ length marks → length aims ≡ length marks
    → Gathered marks words gathered count → words' ≡ up_to count (λ i. get_or gathered i 0) (length gathered) → marks' ≡ up_to count (λ i. 1) (length marks)
    → aims' ≡ up_to count (λ i. i) (length aims) → ArrangedBy Concentrate (length marks) words marks aims words' marks' aims'
packed {words} {marks} {aims} {gathered} {words'} {count = count} good n m g w k a = record {
  words = record { each = λ j h. holding.each j h ∙ ⊎_elim (moved j) (λ u. rw (le-ltb j (rank_in marks (length marks)) u)) (apart j (rank_in marks (length marks))) };
  marks = holding_first count (rank_in marks (length marks)) (length marks) (length marks) (λ i. 1) k refl g.count_is;
  aims = holding_first count (rank_in marks (length marks)) (length marks) (length aims) (λ i. i) a m g.count_is;
}
  where
    holding : Holding (length marks) (λ j. ltb j (rank_in marks (length marks))) (λ i. get_or gathered i 0) words'
    holding = holding_first count (rank_in marks (length marks)) (length marks) (length gathered) (λ i. get_or gathered i 0) w n g.count_is

    moved : (j : ℕ) → j < rank_in marks (length marks)
        → cond (ltb j (rank_in marks (length marks))) (get_or gathered j 0) 0 ≡ cond (ltb j (rank_in marks (length marks))) (get_or words (marked_cell marks (length marks) j) 0) 0
    moved j u = rw (lt-ltb j (rank_in marks (length marks)) u) (word_of good g j u)
