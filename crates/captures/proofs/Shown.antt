-- Replays of whole captures, computed: of the board of side 1 with its cell marked, and of three records at side 2 of which two meet.
use Prim.Native.Nat.{ℕ}
use Prim.Native.String.{String}
use mathlib.Core.Path.{◌≡◌, refl}
use mathlib.Core.List.{List, [], ◌∷◌, map}
use Rattle.texts.specs.Bytes.{bytes}
use Rattle.texts.specs.Numbers.{digits_from, number_of, numbers_in}
use Rattle.texts.specs.Lines.{fields_of, with_byte, lines_of}
use Rattle.slots.specs.Cells.{joined}
use Rattle.course.specs.Showing.{content_of}
use Rattle.records.specs.Records.{marked_cell}
use Rattle.std.specs.Prelude.{Result, Ok, Err}
use Rattle.answers.specs.declared.Refusal.{Refusal}
use Rattle.answers.specs.declared.Refusal.TheVariants.{Capture}
use Rattle.captures.specs.declared.Replayed.{Replayed}
use Rattle.captures.specs.declared.Replayed.TheVariants.{Agrees, Differs, Early}
use Rattle.captures.specs.Captures.{with_move, with_record, capture_from, capture_verdict}
use Rattle.captures.specs.Replays.{held_below, same_records, compared, replay_by, replay_of}

unfoldable pub replay_for : ℕ → List ℕ → List ℕ → List ℕ → String → Result Replayed Refusal
unfolding replay_by capture_verdict capture_from with_move with_record lines_of with_byte numbers_in fields_of number_of digits_from compared same_records held_below content_of joined marked_cell
replay_for s words marks aims t = replay_of s words marks aims (bytes t)

-- side 1: the whole run, no capture, a capture that breaks off, a word, an aim and a code that differ, and lines that are refused
pub one_cell :
    map (replay_for 1 (70 ∷ []) (1 ∷ []) (0 ∷ []))
    ("1\t0\n0\t0\t70\t0\n2\t0\n0\t0\t70\t0\n" ∷
    "" ∷
    "1\t0\n0\t0\t70\t0\n" ∷
    "1\t0\n0\t0\t70\t0\n2\t0\n0\t0\t71\t0\n" ∷
    "1\t0\n0\t0\t70\t1\n" ∷
    "1\t0\n0\t0\t70\t0\n2\t1\n0\t0\t70\t0\n" ∷
    "1\t0\n2\t0\n" ∷
    "1\t0\n0\t0\t70\t0\n0\t1\t70\t0\n" ∷
    "0\t0\t70\t0\n" ∷
    "1\t0\n0\t0\t70\t0\n3\t0\n" ∷
    "1\t0\n0\t0\t70\t0\n0\t0\t70\t0\n" ∷
    "1\t0\n0\t0\t70" ∷
    [])
    ≡ Ok Agrees
    ∷ Ok (Early 0)
    ∷ Ok (Early 1)
    ∷ Ok (Differs 2)
    ∷ Ok (Differs 1)
    ∷ Ok (Differs 2)
    ∷ Ok (Differs 1)
    ∷ Ok (Differs 1)
    ∷ Err (Capture 1)
    ∷ Err (Capture 3)
    ∷ Err (Capture 3)
    ∷ Err (Capture 2)
    ∷ []
unfolding replay_for
one_cell = refl

-- side 2, records in cells 0, 4 and 5: after the first move two of them are in cell 5, after the second they are apart
pub two_meet :
    replay_for 2
    (70 ∷ 0 ∷ 0 ∷ 0 ∷ 71 ∷ 72 ∷ 0 ∷ 0 ∷ 0 ∷ 0 ∷ 0 ∷ 0 ∷ 0 ∷ 0 ∷ 0 ∷ 0 ∷ [])
    (1 ∷ 0 ∷ 0 ∷ 0 ∷ 1 ∷ 1 ∷ 0 ∷ 0 ∷ 0 ∷ 0 ∷ 0 ∷ 0 ∷ 0 ∷ 0 ∷ 0 ∷ 0 ∷ [])
    (0 ∷ 0 ∷ 0 ∷ 0 ∷ 1 ∷ 2 ∷ 0 ∷ 0 ∷ 0 ∷ 0 ∷ 0 ∷ 0 ∷ 0 ∷ 0 ∷ 0 ∷ 0 ∷ [])
    "1\t1\n0\t0\t70\t0\n5\t0\t71\t1\n5\t1\t72\t2\n2\t2\n0\t0\t70\t0\n4\t0\t72\t2\n5\t0\t71\t1\n"
    ≡ Ok (Early 2)
unfolding replay_for
two_meet = refl
