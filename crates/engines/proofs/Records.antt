-- The engines agree on records: one theorem of both trips.
use Prim.Native.Nat.{ℕ}
use mathlib.Core.Path.{◌≡◌, refl, sym, ap, ◌∙◌}
use mathlib.Core.Bool.{Bool, true, ◌&&◌}
use mathlib.Core.List.{List}
use native.Mathlib.Omega.{arith}
use lib.ListN.{length}
use borrow.Author.Tests.{le-ltb}
use Rattle.laws.specs.Lent.{Lent, old, new}
use Rattle.array.proofs.Board.{side_known}
use Rattle.runs.specs.Runs.{moves}
use Rattle.answers.specs.declared.Answer.{Answer}
use Rattle.answers.specs.Answers.{Case}
use Rattle.answers.specs.Answers.{accepted_by, verdict, without_logs}
use Rattle.answers.proofs.Entering.{entry_accepted}
use Rattle.answers.proofs.Outcomes.{left_with}
use Rattle.light.specs.Lanes.{Table, table_before, table_after}
use Rattle.lists.specs.declared.Trip.{Trip}
use Rattle.lists.specs.Lists.{total_moves, runs_of}
use Rattle.slots.specs.declared.Cell.{Cell}
use Rattle.slots.specs.Lanes.{cells_after}
use Rattle.refusals.specs.declared.Sizes.{Sizes}
use Rattle.refusals.specs.Cases.{full_cases, Good}
use Rattle.refusals.specs.Cuts.{first_runs}
use Rattle.refusals.proofs.Verdicting.{Fitting, FullKnown, full_known}
use Rattle.refusals.proofs.Accepting.{cut_accepted}
use Rattle.records.specs.Entries.{Stood, sizes_of, FullRun}
use Rattle.records.proofs.Outcomes.{LengthsKept, cut_same}
use Rattle.plainrecords.specs.Tables.{end_table}
use Rattle.plainrecords.specs.Entries.{TableIs, PlainRun}
use Rattle.engines.specs.Engines.{has_room, have_room, EnginesAgree}
use Rattle.engines.proofs.Both.{and_true, WithLogs, engines_agree, plain-same}
use Rattle.engines.proofs.Ends.{stood_by}
use Rattle.engines.proofs.Unlogged.{logs_pass, without_logs_lem}

-- 1, 2, 3, 5 and 6
full_logged : (trip : Trip) (s : ℕ) (n : Sizes) (marks aims : List ℕ) (codes moved : ℕ)
    → WithLogs (have_room (runs_of trip s) codes moved) (full_cases trip s n marks aims codes moved)
full_logged trip s n marks aims codes moved = record {
  ascends = refl;
  refuses = refl;
  logs = ap (λ (t : Bool). has_room (runs_of trip s) codes && t) (and_true (has_room (runs_of trip s) moved));
  later = λ h. (λ k. refl, (λ k. refl, (λ k. refl, (λ k. refl, (λ k. refl, (λ k. refl, (λ k. refl, (λ k. refl, (λ k. refl, tt)))))))));
}

-- by a table of lanes: the cases without the logs', and the end
abbrev unlogged_cases : Trip → ℕ → Table → List Case
unlogged_cases trip s t =
    without_logs
    (full_cases trip s (sizes_of t.front.words t.spare.words t.spare.marks t.spare.aims) t.front.marks t.front.aims 0 0)

abbrev end_on : Trip → ℕ → ℕ → Table → Cell
end_on trip s j t = end_table trip s t.front.words t.front.marks t.front.aims j

-- the plain answer is the stepping one with logs that are just long enough
plain_known : (trip : Trip) (s : ℕ) (n : Sizes) (marks aims : List ℕ) {p : Answer} → p ≡ verdict (without_logs (full_cases trip s n marks aims 0 0)) (accepted_by (runs_of trip s))
    → p.number ≡ 0 → FullKnown trip s n marks aims (length (moves (runs_of trip s))) (length (moves (runs_of trip s)))
plain_known trip s n marks aims e h =
    let l = length (moves (runs_of trip s)) in
    let pass : logs_pass (full_cases trip s n marks aims l l) ≡ true = rw (le-ltb l l (omega arith)) in
    full_known trip s n marks aims l l (e ∙ sym (without_logs_lem (full_cases trip s n marks aims l l) (accepted_by (runs_of trip s)) pass)) h

-- six lanes of one call, and six of another that held the same
module _ (trip : Trip) (s : ℕ) (w m a w₂ m₂ a₂ w' m' a' w₂' m₂' a₂' : Lent) (k : LengthsKept w m a w₂ m₂ a₂) (k' : LengthsKept w' m' a' w₂' m₂' a₂')
    (same : table_before w m a w₂ m₂ a₂ ≡ table_before w' m' a' w₂' m₂' a₂') where
  abbrev sizes : Sizes
  sizes = sizes_of (old w) (old w₂) (old m₂) (old a₂)

  -- what the second call left, as if the first had
  lengths_so : LengthsKept (left_with w (new w')) (left_with m (new m')) (left_with a (new a')) (left_with w₂ (new w₂')) (left_with m₂ (new m₂')) (left_with a₂ (new a₂'))
  lengths_so = record {
    words = k'.words ∙ ap (λ (t : Table). length t.front.words) (sym same);
    marks = k'.marks ∙ ap (λ (t : Table). length t.front.marks) (sym same);
    aims = k'.aims ∙ ap (λ (t : Table). length t.front.aims) (sym same);
    words2 = k'.words2 ∙ ap (λ (t : Table). length t.spare.words) (sym same);
    marks2 = k'.marks2 ∙ ap (λ (t : Table). length t.spare.marks) (sym same);
    aims2 = k'.aims2 ∙ ap (λ (t : Table). length t.spare.aims) (sym same);
  }

  module _ (f : Fitting s (length (old m)) (length (old a)) sizes) (good : Good trip s (old m) (old a)) where
    stood : {T : ℕ → Cell} → TableIs s (end_table trip s (old w) (old m) (old a)) T → Stood trip s (total_moves s) (old w) (old m) (old a) T
    stood = stood_by s (side_known s f.side).least (old w) (old m) (old a) f.marks trip good

    -- records that stand where the trip ends, and lanes that are the end's table
    same_ends : Stood trip s (total_moves s) (old w) (old m) (old a) (cells_after w m a w₂ m₂ a₂)
        → TableIs s (end_table trip s (old w') (old m') (old a')) (cells_after w' m' a' w₂' m₂' a₂')
        → table_after w m a w₂ m₂ a₂ ≡ table_after w' m' a' w₂' m₂' a₂'
    same_ends o o' =
        let e = cut_accepted trip s sizes (old m) (old a) f good (accepted_by (first_runs (total_moves s) (runs_of trip s))) (total_moves s) (omega arith) in
        let n = ap (λ (x : Answer). x.number) e in
        let u = stood (record { each = λ j h. o'.each j h ∙ ap (end_on trip s j) (sym same) }) in
        (cut_same trip s w m a w₂ m₂ a₂ (table_after w' m' a' w₂' m₂' a₂') k lengths_so (total_moves s) (entry_accepted refl n o tt) (entry_accepted refl n u tt)).1

  pub full_agrees : (codes moved : Lent) {r p : Answer} → FullRun trip s w m a w₂ m₂ a₂ codes moved r → PlainRun trip s w' m' a' w₂' m₂' a₂' p
      → EnginesAgree (have_room (runs_of trip s) (length (old codes)) (length (old moved))) r p (table_after w m a w₂ m₂ a₂ ≡ table_after w' m' a' w₂' m₂' a₂')
  full_agrees codes moved z z' =
      let known = full_known trip s sizes (old m) (old a) (length (old codes)) (length (old moved)) z.answer in
      engines_agree (full_logged trip s sizes (old m) (old a) (length (old codes)) (length (old moved))) (ap (unlogged_cases trip s) same) z z'
      (λ h. same_ends (known h).fits (known h).good) (λ q q'. q.0 ∙ same ∙ sym q')

  pub plain_run_same : {p p' : Answer} → PlainRun trip s w m a w₂ m₂ a₂ p → PlainRun trip s w' m' a' w₂' m₂' a₂' p'
      → (p ≡ p') × (table_after w m a w₂ m₂ a₂ ≡ table_after w' m' a' w₂' m₂' a₂')
  plain_run_same z z' =
      let known = plain_known trip s sizes (old m) (old a) z.answer in
      plain-same (ap (unlogged_cases trip s) same) z z'
      (λ h o. same_ends (known h).fits (known h).good (stood (known h).fits (known h).good o)) (λ q q'. q ∙ same ∙ sym q')
