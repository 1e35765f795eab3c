-- The moves up to a cut, from lanes that were found good.
use Prim.Native.Nat.{ℕ, suc, ◌≤◌, ◌<◌}
use mathlib.Core.Path.{◌≡◌, refl, sym, ap, ◌∙◌}
use mathlib.Core.Bool.{Bool, true, false, cond}
use mathlib.Core.Logic.{⊎_elim}
use mathlib.Core.List.{List}
use native.Mathlib.Nat.{sub-zero}
use native.Mathlib.Omega.{arith}
use borrow.Author.Tests.{eq-eqb, ne_eqb, ltb-false}
use lib.ListN.{length, get_or}
use lib.Seq.{sets}
use Rattle.laws.specs.Tables.{entries}
use Rattle.laws.proofs.Deciding.{same?}
use Rattle.laws.proofs.Tables.{length-entries, entry_at}
use Rattle.array.specs.Cells.{is_side, cells}
use Rattle.array.proofs.Board.{side_known}
use Rattle.runs.specs.declared.Run.{Run}
use Rattle.runs.specs.Runs.{moves}
use Rattle.answers.specs.Answers.{log_case}
use Rattle.answers.specs.Entry.{in_front}
use Rattle.answers.proofs.Entering.{written}
use Rattle.lists.specs.declared.Trip.{Trip}
use Rattle.lists.specs.declared.Trip.TheVariants.{Concentrate, Distribute}
use Rattle.lists.specs.Lists.{total_moves, runs_of}
use Rattle.lists.proofs.Counts.{concentrate_length, distribute_length}
use Rattle.travel.proofs.Listed.{times_of}
use Rattle.travel.proofs.Collide.{at_the_end}
use Rattle.array.specs.Lent.{are_lanes}
use Rattle.slots.specs.declared.Rec.{Rec}
use Rattle.slots.specs.declared.Cell.{Cell}
use Rattle.slots.specs.Cells.{cell_at, Sized, record_in, alone, empty}
use Rattle.slots.proofs.Boards.{lanes_are}
use Rattle.slots.proofs.Stored.{cell_ext}
use Rattle.mover.specs.Runs.{Ran}
use Rattle.course.specs.Showing.{Shows, changed}
use Rattle.course.proofs.Course.{Course, course_shows, course_counts, shows_same}
use Rattle.course.proofs.Standing.{all-moves, concentrate_course, distribute_course}
use Rattle.clearing.specs.Cleared.{kept_at, kept, zeros}
use Rattle.refusals.specs.Cases.{marked, Good}
use Rattle.records.specs.Records.{marked_cell, count_in, record_of, cell_of, moved_counts}
use Rattle.records.specs.Entries.{Stood, sizes_of}
use Rattle.refusals.proofs.Aims.{good_ranked, good_aimed}
use Rattle.refusals.proofs.Verdicting.{Fitting}
use Rattle.records.proofs.Marked.{Cleared, start_rises, start_inside, start_aims, start_rising, start_shows, first_rising, first_shows}

-- lanes that fit
pub fitting_sized : {s : ℕ} {w m a w₂ m₂ a₂ : List ℕ}
    → Fitting s (length m) (length a) (sizes_of w w₂ m₂ a₂) → Sized (cells s) w m a w₂ m₂ a₂
fitting_sized f = record { words = f.words; marks = f.marks; aims = f.aims; words2 = f.words2; marks2 = f.marks2; aims2 = f.aims2 }

-- the first n moves were made, with their counts in a log, as far as it goes
abbrev Made : Trip → ℕ → ℕ → List ℕ → List ℕ → List ℕ → (ℕ → Cell) → List ℕ → List ℕ → Type 0
Made trip s n words marks aims T moved moved' = Stood trip s n words marks aims T × (moved' ≡ sets moved 0 (moved_counts trip s n marks aims))

-- a lane with as many marks
kept-lane : (m l : List ℕ) → length m ≡ length l → kept m l ≡ entries (kept_at m l) 0 (length l)
kept-lane m l n = rw (eq-eqb (length m) (length l) n)

-- lanes that were cleared
pub cleared_by : (s : ℕ) {w m a w₂ m₂ a₂ w' a' w₂' m₂' a₂' : List ℕ} → Sized (cells s) w m a w₂ m₂ a₂ → ((i : ℕ) → i < length m → get_or m i 0 < 2)
    → w' ≡ kept m w → a' ≡ kept m a → w₂' ≡ zeros w₂ → m₂' ≡ zeros m₂ → a₂' ≡ zeros a₂ → Cleared s w m a (cell_at w' m a' w₂' m₂' a₂')
cleared_by s {w} {m} {a} {w₂} {m₂} {a₂} {w'} {a'} {w₂'} {m₂'} {a₂'} z g p q p₂ q₂ o₂ = record { cells = λ j u. ⊎_elim (is j u) (isnt j u) (same? (get_or m j 0) 1) }
  where
    keeps : (l l' : List ℕ) → length l ≡ cells s → l' ≡ kept m l → (j : ℕ) → j < cells s → get_or l' j 0 ≡ kept_at m l j
    keeps l l' n e j u = ap (λ (x : List ℕ). get_or x j 0) (e ∙ kept-lane m l (z.marks ∙ sym n)) ∙ entry_at (kept_at m l) (length l) j 0 (omega arith)

    zero_at : (l l' : List ℕ) → length l ≡ cells s → l' ≡ zeros l → (j : ℕ) → j < cells s → get_or l' j 0 ≡ 0
    zero_at l l' n e j u = ap (λ (x : List ℕ). get_or x j 0) e ∙ entry_at (λ i. 0) (length l) j 0 (omega arith)

    is : (j : ℕ) → j < cells s → get_or m j 0 ≡ 1 → cell_at w' m a' w₂' m₂' a₂' j ≡ cond (marked m j) (alone (record_in w m a j)) empty
    is j u e =
        rw (eq-eqb (get_or m j 0) 1 e)
        (cell_ext
        (keeps w w' z.words p j u ∙ rw (eq-eqb (get_or m j 0) 1 e))
        refl
        (keeps a a' z.aims q j u ∙ rw (eq-eqb (get_or m j 0) 1 e))
        (zero_at w₂ w₂' z.words2 p₂ j u)
        (zero_at m₂ m₂' z.marks2 q₂ j u)
        (zero_at a₂ a₂' z.aims2 o₂ j u))

    isnt : (j : ℕ) → j < cells s → (get_or m j 0 ≡ 1 → ⊥) → cell_at w' m a' w₂' m₂' a₂' j ≡ cond (marked m j) (alone (record_in w m a j)) empty
    isnt j u d =
        rw (ne_eqb (get_or m j 0) 1 d)
        (cell_ext
        (keeps w w' z.words p j u ∙ rw (ne_eqb (get_or m j 0) 1 d))
        (omega (arith, g j (omega (arith, z.marks)), d))
        (keeps a a' z.aims q j u ∙ rw (ne_eqb (get_or m j 0) 1 d))
        (zero_at w₂ w₂' z.words2 p₂ j u)
        (zero_at m₂ m₂' z.marks2 q₂ j u)
        (zero_at a₂ a₂' z.aims2 o₂ j u))

-- a course of records that the mover takes
module _ {trip : Trip} {s n b : ℕ} {R : ℕ → Rec} {pos : ℕ → ℕ → ℕ} {C T' : ℕ → Cell} {lanes : Bool} {moved moved' : List ℕ} (some : 0 < s) (l : lanes ≡ true) (h : n ≤ total_moves s)
    (c : Course trip s (runs_of trip s) 0 n b R pos) (o : Shows s b R (pos 0) C) (z : Ran lanes trip s (runs_of trip s) n C T' moved moved') where
  long : n ≤ times_of (runs_of trip s)
  long = rw (all-moves trip s) h

  ran_shows : Shows s b R (pos n) T'
  ran_shows = record { shown = λ j u. z.made l j u ∙ (course_shows some c long o).shown j u }

  ran_log : moved' ≡ sets moved 0 (entries (λ k. changed b (pos k) (pos (suc k))) 0 n)
  ran_log = z.log ∙ rw l (ap (sets moved 0) (course_counts some c long o))

module _ {s n : ℕ} {words marks aims : List ℕ} {C T' : ℕ → Cell} {lanes : Bool} {moved moved' : List ℕ} (some : 0 < s) (l : lanes ≡ true)
    (long : length marks ≡ cells s) (h : n ≤ total_moves s) (w : Cleared s words marks aims C) where
  pub performed_by : (trip : Trip) → Good trip s marks aims → Ran lanes trip s (runs_of trip s) n C T' moved moved' → Made trip s n words marks aims T' moved moved'
  performed_by Concentrate g z =
      let r = good_ranked s marks aims long g in
      let rises = start_rises s words marks aims r in
      let inside = start_inside s words marks aims r in
      let c = concentrate_course s (count_in s marks) some (marked_cell marks (cells s)) rises inside (record_of Concentrate s words marks aims) n h
      (start_rising s words marks aims r) (start_aims s words marks aims r) in
      (ran_shows some l h c (start_shows s words marks aims r w) z, ran_log some l h c (start_shows s words marks aims r w) z)
  performed_by Distribute g z =
      let r = good_aimed s marks aims long g in
      let c = distribute_course s (count_in s marks) some (λ k. get_or aims k 0) r.rising r.below (record_of Distribute s words marks aims) n h
      (first_rising s words marks aims r) (λ k v. refl) in
      let begun : Shows s (count_in s marks) (record_of Distribute s words marks aims) (cell_of Distribute s marks aims 0) C =
      shows_same (λ k u. sym (at_the_end s (count_in s marks) some (λ k. get_or aims k 0) r.rising r.below k u) ∙ rw sub-zero) (first_shows s words marks aims r w) in
      (ran_shows some l h c begun z, ran_log some l h c begun z)

-- the same as the code makes it: five lanes are cleared, and the mover runs
pub performing : (trip : Trip) (s n : ℕ) {rs : List Run} {w m a w₂ m₂ a₂ w' a' w₂' m₂' a₂' moved moved' : List ℕ} {T' : ℕ → Cell}
    → is_side s ≡ true → Sized (cells s) w m a w₂ m₂ a₂ → n ≤ total_moves s → Good trip s m a
    → w' ≡ kept m w → a' ≡ kept m a → w₂' ≡ zeros w₂ → m₂' ≡ zeros m₂ → a₂' ≡ zeros a₂
    → rs ≡ runs_of trip s
    → Ran (are_lanes s (length w') (length m) (length a') (length w₂') (length m₂') (length a₂')) trip s rs n (cell_at w' m a' w₂' m₂' a₂') T' moved moved'
    → Made trip s n w m a T' moved moved'
performing trip s n {rs} {w} {m} {a} {w₂} {m₂} {a₂} {w'} {a'} {w₂'} {m₂'} {a₂'} side z h g p q p₂ q₂ o₂ f r =
    let lanes = lanes_are s {w = w'} {m = m} {a = a'} {w₂ = w₂'} {m₂ = m₂'} {a₂ = a₂'} side sized in
    performed_by (side_known s side).least lanes z.marks h (cleared_by s z g.marks_good p q p₂ q₂ o₂) trip g (rw f at r)
  where
    long : (f : ℕ → ℕ) (l l' : List ℕ) → length l ≡ cells s → l' ≡ entries f 0 (length l) → length l' ≡ cells s
    long f l l' n e = ap length e ∙ length-entries f 0 (length l) ∙ n

    sized : Sized (cells s) w' m a' w₂' m₂' a₂'
    sized = record {
      words = long (kept_at m w) w w' z.words (p ∙ kept-lane m w (z.marks ∙ sym z.words));
      marks = z.marks;
      aims = long (kept_at m a) a a' z.aims (q ∙ kept-lane m a (z.marks ∙ sym z.aims));
      words2 = long (λ i. 0) w₂ w₂' z.words2 p₂;
      marks2 = long (λ i. 0) m₂ m₂' z.marks2 q₂;
      aims2 = long (λ i. 0) a₂ a₂' z.aims2 o₂;
    }

-- the list of a trip has them all
list_length : (trip : Trip) (s : ℕ) → length (moves (runs_of trip s)) ≡ total_moves s
list_length Concentrate s = concentrate_length s
list_length Distribute s = distribute_length s

-- their counts in a log that was not refused
pub counts_written : (trip : Trip) (s : ℕ) (marks aims moved : List ℕ) {moved' : List ℕ} → (log_case (runs_of trip s) (length moved)).applies ≡ false
    → moved' ≡ sets moved 0 (moved_counts trip s (total_moves s) marks aims)
    → moved' ≡ in_front (moved_counts trip s (total_moves s) marks aims) moved
counts_written trip s marks aims moved h e =
    let room = ltb-false (length moved) (length (moves (runs_of trip s))) h in
    let long : length (moved_counts trip s (total_moves s) marks aims) ≡ total_moves s = length-entries _ 0 (total_moves s) in
    e ∙ written (moved_counts trip s (total_moves s) marks aims) moved (omega (arith, room, long, list_length trip s))
