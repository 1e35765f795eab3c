-- The verdicts of the entries: made in two steps, and what is known where no case applies.
use Prim.Native.Nat.{ℕ, ◌-◌, ◌*◌, ◌≤◌}
use mathlib.Core.Path.{◌≡◌, refl, sym, ◌∙◌}
use mathlib.Core.Bool.{true, false, ◌&&◌}
use mathlib.Core.List.{List, [], ◌∷◌, ◌++◌}
use native.Mathlib.Omega.{arith}
use borrow.Author.Tests.{ltb-false}
use lib.Dec.{ltb}
use lib.ListN.{length}
use Rattle.laws.proofs.Searching.{none_found}
use Rattle.answers.specs.declared.Answer.{Answer}
use Rattle.answers.specs.Answers.{Case}
use Rattle.array.specs.declared.lent.LentSlots.{LentSlots}
use Rattle.array.specs.Cells.{is_side, cells}
use Rattle.answers.specs.Answers.{accepted, accepted_by, verdict, without_logs, log_case}
use Rattle.array.proofs.Board.{side_known}
use Rattle.answers.proofs.Verdicts.{NoneApplies, none_refuses, counted, side_built, lane_whole}
use Rattle.lists.specs.declared.Trip.{Trip}
use Rattle.lists.specs.declared.Trip.TheVariants.{Concentrate, Distribute}
use Rattle.lists.specs.Lists.{total_moves, runs_of}
use Rattle.lists.proofs.Counts.{concentrate_electronic, distribute_electronic}
use Rattle.marks.specs.Marks.{marks_case}
use Rattle.marks.proofs.Checked.{good_marks}
use Rattle.refusals.specs.declared.Sizes.{Sizes}
use Rattle.refusals.specs.Cases.{bad_aim, aims_case, cut_case, lane_cases, lanes_of, sizes_in, Framed, full_cases, full_of, cut_cases, cut_of, Good}
use Rattle.refusals.specs.Inside.{OneBoard, GoodMarks}
use Rattle.refusals.specs.declared.Frame.{Frame}
use Rattle.std.specs.Prelude.{Result, Ok}
use Rattle.answers.specs.declared.Refusal.{Refusal}
use Rattle.answers.specs.Judged.{Judged}
use Rattle.answers.proofs.Judging.{none_judged}
use Rattle.refusals.specs.Cuts.{first_runs}

-- the counts of a full run
pub trip_counts : (trip : Trip) (s : ℕ) → is_side s ≡ true → accepted_by (runs_of trip s) ≡ accepted (7 * (s - 1)) 2
trip_counts Concentrate s h = counted (runs_of Concentrate s) (7 * (s - 1)) 2 (concentrate_electronic s) refl (omega (arith, (side_known s h).most)) (omega arith)
trip_counts Distribute s h = counted (runs_of Distribute s) (7 * (s - 1)) 2 (distribute_electronic s) refl (omega (arith, (side_known s h).most)) (omega arith)

-- a side and lanes of these lengths that are a board's
pub record Fitting (s m a : ℕ) (n : Sizes) : Type 0 where
  pub side : is_side s ≡ true
  pub words : n.words ≡ cells s
  pub marks : m ≡ cells s
  pub aims : a ≡ cells s
  pub words2 : n.spare_words ≡ cells s
  pub marks2 : n.spare_marks ≡ cells s
  pub aims2 : n.spare_aims ≡ cells s

module _ (s m a : ℕ) (n : Sizes) (rest : List Case) (k : NoneApplies (lane_cases s m a n ++ rest)) where
  pub fitting : Fitting s m a n
  fitting = record {
    side = side_built s k.0;
    words = lane_whole s n.words k.1.0;
    marks = lane_whole s m k.1.1.0;
    aims = lane_whole s a k.1.1.1.0;
    words2 = lane_whole s n.spare_words k.1.1.1.1.0;
    marks2 = lane_whole s n.spare_marks k.1.1.1.1.1.0;
    aims2 = lane_whole s n.spare_aims k.1.1.1.1.1.1.0;
  }

  pub others : NoneApplies rest
  others = k.1.1.1.1.1.1.1

good_by : (trip : Trip) (s : ℕ) (marks aims : List ℕ) → (marks_case marks).applies ≡ false → (aims_case trip s marks aims).applies ≡ false → Good trip s marks aims
good_by trip s marks aims e f = record { marks_good = good_marks marks e; aims_good = none_found (bad_aim trip s marks aims) (length marks) f }

-- a full run that is accepted
pub record FullKnown (trip : Trip) (s : ℕ) (n : Sizes) (marks aims : List ℕ) (codes moved : ℕ) : Type 0 where
  pub fits : Fitting s (length marks) (length aims) n
  pub good : Good trip s marks aims
  pub codes_room : (log_case (runs_of trip s) codes).applies ≡ false
  pub moved_room : (log_case (runs_of trip s) moved).applies ≡ false

pub full_known : (trip : Trip) (s : ℕ) (n : Sizes) (marks aims : List ℕ) (codes moved : ℕ) {r : Answer}
    → r ≡ verdict (full_cases trip s n marks aims codes moved) (accepted_by (runs_of trip s)) → r.number ≡ 0 → FullKnown trip s n marks aims codes moved
full_known trip s n marks aims codes moved e h =
    let rest = log_case (runs_of trip s) codes ∷ log_case (runs_of trip s) moved ∷ marks_case marks ∷ aims_case trip s marks aims ∷ [] in
    let k = none_refuses (full_cases trip s n marks aims codes moved) (accepted_by (runs_of trip s)) refl e h in
    let o = others s (length marks) (length aims) n rest k in
    record {
      fits = fitting s (length marks) (length aims) n rest k;
      good = good_by trip s marks aims o.1.1.0 o.1.1.1.0;
      codes_room = o.0;
      moved_room = o.1.0;
    }

-- a cut run that is accepted
pub record CutKnown (trip : Trip) (s cut : ℕ) (n : Sizes) (marks aims : List ℕ) : Type 0 where
  pub fits : Fitting s (length marks) (length aims) n
  pub good : Good trip s marks aims
  pub inside : cut ≤ total_moves s

pub cut_known : (trip : Trip) (s cut : ℕ) (n : Sizes) (marks aims : List ℕ) {r : Answer}
    → r ≡ verdict (cut_cases trip s cut n marks aims) (accepted_by (first_runs cut (runs_of trip s))) → r.number ≡ 0 → CutKnown trip s cut n marks aims
cut_known trip s cut n marks aims e h =
    let rest = marks_case marks ∷ aims_case trip s marks aims ∷ cut_case s cut ∷ [] in
    let k = none_refuses (cut_cases trip s cut n marks aims) (accepted_by (first_runs cut (runs_of trip s))) refl e h in
    let o = others s (length marks) (length aims) n rest k in
    let f = fitting s (length marks) (length aims) n rest k in
    let x : (is_side s && ltb (total_moves s) cut) ≡ false = o.1.1.0 in
    record { fits = f; good = good_by trip s marks aims o.0 o.1.0; inside = ltb-false (total_moves s) cut (rw f.side at x) }

-- what the judging of the marks may take for granted, and that of the aims
pub one_board : (t : Frame) {r : Result (Unit {0}) Refusal} {u : Unit {0}} → Judged (lanes_of t) r → r ≡ Ok u → OneBoard t.marks.now t.aims.now
one_board t j e =
    let z = fitting t.side (length t.marks.now) (length t.aims.now) t.sizes [] (none_judged j refl e) in
    record { long = z.marks ∙ sym z.aims; few = omega (arith, z.marks, (side_known t.side z.side).cells_few) }

pub checked_marks : {marks aims : List ℕ} {r : Result (Unit {0}) Refusal} {u : Unit {0}} → OneBoard marks aims
    → Judged (marks_case marks ∷ []) r → r ≡ Ok u → GoodMarks marks aims
checked_marks {marks} z j e = record { long = z.long; few = z.few; good = good_marks marks (none_judged j refl e).0 }

-- the answers of a frame are those of the lanes that it was made of
module _ {s : ℕ} {t u : LentSlots} {f : Frame} (z : Framed s t u f) (trip : Trip) {r : Answer} where
  pub full_framed : (codes moved : ℕ) → r ≡ verdict (full_of trip f codes moved) (accepted_by (runs_of trip f.side))
      → r ≡ verdict (full_cases trip s (sizes_in t u) t.marks.now t.aims.now codes moved) (accepted_by (runs_of trip s))
  full_framed codes moved e = rw (z.side, z.sizes, z.marks, z.aims) at e

  pub cut_framed : (cut : ℕ) → r ≡ verdict (cut_of trip cut f) (accepted_by (first_runs cut (runs_of trip f.side)))
      → r ≡ verdict (cut_cases trip s cut (sizes_in t u) t.marks.now t.aims.now) (accepted_by (first_runs cut (runs_of trip s)))
  cut_framed cut e = rw (z.side, z.sizes, z.marks, z.aims) at e

  pub unlogged_framed : (a : Answer) → r ≡ verdict (without_logs (full_of trip f 0 0)) a
      → r ≡ verdict (without_logs (full_cases trip s (sizes_in t u) t.marks.now t.aims.now 0 0)) a
  unlogged_framed a e = rw (z.side, z.sizes, z.marks, z.aims) at e
