-- A starting table and a capture judged: what is refused, and what the walk's answer is where nothing is.
use Rattle.std.specs.Prelude.{Result, Ok, Err, Option, Some, None}
use Prim.Native.Nat.{ℕ, suc, ◌≤◌, ◌<◌}
use mathlib.Core.Path.{◌≡◌, refl, sym, ◌∙◌}
use mathlib.Core.Bool.{Bool, true, false, cond}
use mathlib.Core.List.{List, [], ◌∷◌}
use borrow.Author.Tests.{lt-ltb, le-ltb}
use lib.ListN.{length}
use Rattle.laws.proofs.Searching.{none_found}
use Rattle.texts.specs.Lines.{TextLine, ended, unended, lines_of}
use Rattle.texts.specs.Numbers.{numbers_in}
use Rattle.texts.specs.declared.read.Numbers.{Numbers}
use Rattle.texts.specs.declared.read.Numbers.TheVariants.{Two, Four}
use Rattle.answers.specs.declared.Answer.{Answer}
use Rattle.answers.specs.Answers.{Case}
use Rattle.answers.specs.Answers.{accepted, answer_of, verdict, lane_case, without_logs}
use Rattle.answers.proofs.Verdicts.{NoneApplies, none_refuses, at_once, side_built, lane_whole}
use Rattle.lists.specs.declared.Trip.TheVariants.{Concentrate}
use Rattle.marks.proofs.Checked.{good_marks}
use Rattle.refusals.specs.declared.Sizes.{Sizes}
use Rattle.refusals.specs.Cases.{bad_aim, full_cases}
use Rattle.captures.specs.declared.start.Start.{Start}
use Rattle.captures.specs.declared.Replayed.{Replayed}
use Rattle.answers.specs.declared.Moves.{Moves}
use Rattle.answers.specs.declared.Refusal.{Refusal}
use Rattle.answers.specs.declared.Refusal.TheVariants.{Capture}
use Rattle.answers.proofs.Judging.{refuses}
use Rattle.captures.specs.Captures.{CaptureVerdict, is_capture, no_capture, in_turn, with_move, capture_from, capture_verdict}
use Rattle.captures.specs.Replays.{same_records, capture_case, start_cases, capture_by, replay_by, replay_of}
use Rattle.captures.specs.Startable.{Startable}
use Rattle.captures.specs.Inside.{Loaded, no_tally, resolved, resolved_from}
use Rattle.captures.proofs.Numbered.{refusal_is, replay_judged}

-- the cases that `judge_unlogged` goes by, of spare lanes that are as long as the words
abbrev sizes : ℕ → Sizes
sizes n = record { words = n; spare_words = n; spare_marks = n; spare_aims = n }

abbrev judged_cases : ℕ → List ℕ → List ℕ → List ℕ → List Case
judged_cases s words marks aims = without_logs (full_cases Concentrate s (sizes (length words)) marks aims 0 0)

-- a lane's case said again changes nothing
same_cases : (s : ℕ) (words marks aims : List ℕ) (a : Answer) → verdict (judged_cases s words marks aims) a ≡ verdict (start_cases s words marks aims) a
same_cases s words marks aims a = go (lane_case s (length words)).applies refl
  where
    go : (t : Bool) → (lane_case s (length words)).applies ≡ t → verdict (judged_cases s words marks aims) a ≡ verdict (start_cases s words marks aims) a
    go true e = rw e
    go false e = rw e

-- before any move no line is a record
abbrev Moveless : CaptureVerdict → Type 0
Moveless (is_capture hs ms) = hs ≡ []
Moveless (no_capture k) = Unit {0}

moveless : (s next k : ℕ) (ls : List TextLine) → Moveless (capture_from s 0 next k ls)
unfolding capture_from with_move
moveless s next k [] = refl
moveless s next k (unended ∷ ls) = tt
moveless s next k (ended line ∷ ls) = by (numbers_in line) refl
  where
    behind : (code : ℕ) (v : CaptureVerdict) → Moveless (with_move code v)
    behind code (is_capture hs ms) = refl
    behind code (no_capture k) = tt

    turn : (t : Bool) (code : ℕ) (v : CaptureVerdict) → Moveless (cond t (with_move code v) (no_capture k))
    turn true code v = behind code v
    turn false code v = tt

    by : (x : Option Numbers) → numbers_in line ≡ x → Moveless (capture_from s 0 next k (ended line ∷ ls))
    by (Some (Two number code)) e = rw (e, capture_from) (turn (in_turn s 0 number) code (capture_from s number 0 (suc k) ls))
    by (Some (Four cell slot word aim)) e = rw (e, capture_from) tt
    by None e = rw (e, capture_from) tt

-- a starting table in its arrays
resolved-here : {s : ℕ} {words marks aims : List ℕ} {b : Start} → Loaded s words marks aims b → (capture : List ℕ)
    → resolved_from b no_tally (capture_from b.side 0 0 1 (lines_of capture))
    ≡ resolved s words marks aims no_tally (capture_from s 0 0 1 (lines_of capture))
resolved-here l capture = rw (l.side_is, l.words_are, l.marks_are, l.aims_are)

module _ (s : ℕ) (words marks aims : List ℕ) where
  -- refused by its lanes, marks or aims, before anything of the capture
  pub start-refused : (x : Refusal) → answer_of (Err x) ≡ verdict (judged_cases s words marks aims) (accepted 0 0)
      → (capture : List ℕ) → Err x ≡ replay_of s words marks aims capture
  start-refused x e capture =
      let v = capture_verdict s capture in
      let start = e ∙ same_cases s words marks aims (accepted 0 0) in
      let whole = at_once (start_cases s words marks aims) (capture_case v ∷ []) (accepted 0 0) (accepted 0 0) start refl (refuses x) in
      refusal_is x _ (whole ∙ sym (replay_judged s words marks aims v))

  module _ {m : Moves} (e : answer_of (Ok m) ≡ verdict (judged_cases s words marks aims) (accepted 0 0)) where
    none : NoneApplies (start_cases s words marks aims)
    none = none_refuses (start_cases s words marks aims) (accepted 0 0) refl (e ∙ same_cases s words marks aims (accepted 0 0)) refl

    pub start_known : s ≤ 3 → Startable s words marks aims
    start_known h = record {
      side = side_built s none.0;
      small = h;
      words_long = lane_whole s (length words) none.1.0;
      marks_long = lane_whole s (length marks) none.1.1.0;
      aims_long = lane_whole s (length aims) none.1.1.1.0;
      good = record {
        marks_good = good_marks marks none.1.1.1.1.0;
        aims_good = none_found (bad_aim Concentrate s marks aims) (length marks) none.1.1.1.1.1.0;
      };
    }

    -- then the capture decides
    by_capture : (v : CaptureVerdict) → replay_by s words marks aims v ≡ capture_by s words marks aims v
    unfolding replay_by
    by_capture v = rw (none.0, none.1.0, none.1.1.0, none.1.1.1.0, none.1.1.1.1.0, none.1.1.1.1.1.0)

    pub too_long : (capture : List ℕ) → 65536 < length capture → Err (Capture 0) ≡ replay_of s words marks aims capture
    unfolding capture_verdict
    too_long capture h = rw (lt-ltb 65536 (length capture) h) (sym (by_capture (no_capture 0)))

    module _ (capture : List ℕ) (short : length capture ≤ 65536) where
      pub side_above : 3 < s → Err (Capture 0) ≡ replay_of s words marks aims capture
      unfolding capture_verdict
      side_above h = rw (le-ltb 65536 (length capture) short, lt-ltb 3 s h) (sym (by_capture (no_capture 0)))

      begun : (v : CaptureVerdict) → Moveless v → resolved s words marks aims no_tally v ≡ replay_by s words marks aims v
      unfolding resolved same_records
      begun (is_capture hs ms) n = rw n (sym (by_capture (is_capture [] ms)))
      begun (no_capture k) n = sym (by_capture (no_capture k))

      pub walked : {b : Start} {r : Result Replayed Refusal} → s ≤ 3 → Loaded s words marks aims b
          → r ≡ resolved_from b no_tally (capture_from b.side 0 0 1 (lines_of capture)) → r ≡ replay_of s words marks aims capture
      unfolding capture_verdict
      walked {b} h l w =
          let v = capture_from s 0 0 1 (lines_of capture) in
          rw (le-ltb 65536 (length capture) short, le-ltb 3 s h)
          (w ∙ resolved-here l capture ∙ begun v (moveless s 0 1 (lines_of capture)))
