-- What private functions' contracts cite; the public contracts are read without it.
use Rattle.std.specs.Prelude.{Result, Ok, Err, Option, Some, None, ℕ, suc, ◌-◌, ◌≡◌, Bool, false, cond, List, [], ◌∷◌, eqb, leb, length, take, drop}
use Rattle.std.specs.Option.{option_or}
use Rattle.std.specs.List.{slice_get}
use Rattle.runs.specs.Runs.{codes}
use Rattle.lists.specs.Lists.{total_moves, concentrate_runs}
use Rattle.texts.specs.declared.read.Numbers.{Numbers}
use Rattle.texts.specs.declared.read.Numbers.TheVariants.{Two, Four}
use Rattle.answers.specs.declared.Refusal.{Refusal}
use Rattle.answers.specs.declared.Refusal.TheVariants.{Capture}
use Rattle.captures.specs.declared.Held.{Held}
use Rattle.captures.specs.declared.Replayed.{Replayed}
use Rattle.captures.specs.declared.Replayed.TheVariants.{Agrees, Differs, Early}
use Rattle.captures.specs.declared.walk.Tally.{Tally}
use Rattle.captures.specs.Captures.{held_of, order_of, CaptureVerdict, is_capture, no_capture, in_turn, in_place}
use Rattle.captures.specs.Replays.{records_after, code_at, same_held, same_records, compared}
use Rattle.captures.specs.declared.start.Start.{Start}

-- a starting table in its arrays is that of these lanes
pub record Loaded (s : ℕ) (words marks aims : List ℕ) (b : Start) : Type 0 where
  pub side_is : b.side ≡ s
  pub words_are : take b.n b.words ≡ words
  pub marks_are : take b.n b.marks ≡ marks
  pub aims_are : take b.n b.aims ≡ aims

-- the records after so many moves from there
abbrev pub records_from : Start → ℕ → List Held
records_from b made = records_after b.side (take b.n b.words) (take b.n b.marks) (take b.n b.aims) made

-- the records after so many moves that a capture should have; before the first move it has none
abbrev pub expected_at : ℕ → List ℕ → List ℕ → List ℕ → ℕ → List Held
expected_at s words marks aims made = cond (eqb made 0) [] (records_after s words marks aims made)

abbrev pub expected_from : Start → ℕ → List Held
expected_from b made = expected_at b.side (take b.n b.words) (take b.n b.marks) (take b.n b.aims) made

-- the code of a move of the list, by its number from 1, where the list has it
abbrev pub code_in : ℕ → ℕ → Option ℕ
code_in s number = slice_get (codes (concentrate_runs s)) (number - 1)

-- a move, where something does not hold there
abbrev pub unless : Bool → ℕ → Option ℕ
unless holds number = cond holds None (Some number)

-- what follows, where nothing differs; and else the move that does
abbrev pub following : Replayed → Option ℕ → Replayed
following x None = x
following x (Some d) = Differs d

-- nothing was read yet
abbrev pub no_tally : Tally
no_tally = record { made = 0; next = 0; seen = 0; differs = None }

-- behind the line of a move: the records before it should have been so many, and its code that of the list
abbrev pub behind_move : ℕ → Tally → ℕ → ℕ → ℕ → Tally
behind_move s t count number code =
    record {
      made = number;
      next = 0;
      seen = 0;
      differs = option_or (option_or t.differs (unless (leb count t.seen) t.made)) (unless (eqb code (code_at s number)) number);
    }

-- a record is the first of these
abbrev pub is_first : Held → List Held → Bool
is_first h [] = false
is_first h (x ∷ xs) = same_held h x

-- behind the line of a record: it should be the first of those that were not seen yet
abbrev pub behind_record : Tally → List Held → Held → Tally
behind_record t records h =
    record {
      made = t.made;
      next = suc (order_of h);
      seen = suc t.seen;
      differs = option_or t.differs (unless (is_first h (drop t.seen records)) t.made);
    }

-- what a line does to a tally, by its numbers
unfoldable pub next_of : ℕ → Tally → List Held → Option Numbers → Option Tally
next_of s t r (Some (Two number code)) = cond (in_turn s t.made number) (Some (behind_move s t (length r) number code)) None
next_of s t r (Some (Four cell slot word aim)) =
    cond (in_place s t.made t.next (held_of cell slot word aim)) (Some (behind_record t r (held_of cell slot word aim))) None
next_of s t r None = None

-- what a tally comes to at the end of a capture
abbrev pub end_of : ℕ → Tally → ℕ → Replayed
end_of s t count =
    following (cond (leb count t.seen) (cond (eqb t.made (total_moves s)) Agrees (Early t.made)) (Differs t.made)) t.differs

-- and where lines follow it of which this is the verdict
unfoldable pub resolved : ℕ → List ℕ → List ℕ → List ℕ → Tally → CaptureVerdict → Result Replayed Refusal
resolved s words marks aims t (is_capture hs ms) =
    Ok
    (following
    (cond (same_records hs (drop t.seen (expected_at s words marks aims t.made))) (compared s words marks aims t.made ms) (Differs t.made))
    t.differs)
resolved s words marks aims t (no_capture k) = Err (Capture k)

-- the same of a starting table in its arrays
abbrev pub resolved_from : Start → Tally → CaptureVerdict → Result Replayed Refusal
resolved_from b t v = resolved b.side (take b.n b.words) (take b.n b.marks) (take b.n b.aims) t v
