-- What the plain entries answer: counts without a list, and what is known where they accept.
use Prim.Native.Nat.{ℕ, ◌-◌, ◌*◌}
use mathlib.Core.Path.{◌≡◌, refl, sym, ap, ◌∙◌}
use mathlib.Core.Bool.{Bool, true, false}
use mathlib.Core.List.{List, [], ◌∷◌, ◌++◌}
use native.Mathlib.Omega.{arith}
use lib.ListN.{length}
use Rattle.laws.proofs.Searching.{none_found}
use Rattle.array.specs.Cells.{is_side, cells}
use Rattle.array.proofs.Board.{side_known}
use Rattle.lists.specs.declared.Trip.{Trip}
use Rattle.lists.specs.Lists.{prefix_sum_runs, runs_of}
use Rattle.answers.specs.declared.Answer.{Answer}
use Rattle.answers.specs.declared.Moves.{Moves}
use Rattle.answers.specs.Answers.{Case}
use Rattle.answers.specs.Answers.{accepted, accepted_by, verdict, without_logs, side_case, lane_case}
use Rattle.answers.proofs.Verdicts.{none_refuses, side_built, lane_whole}
use Rattle.marks.specs.Marks.{marks_case}
use Rattle.marks.proofs.Checked.{good_marks}
use Rattle.refusals.specs.declared.Sizes.{Sizes}
use Rattle.refusals.specs.Cases.{bad_aim, aims_case, full_cases}
use Rattle.refusals.proofs.Verdicting.{Fitting, fitting, others, trip_counts}
use Rattle.ranking.specs.Entries.{rank_cases}
use Rattle.plainrecords.specs.Inside.{BoardMarks, TripLanes}

-- where the side is refused first, the accepted answer has to be right on a board alone
pub on_board : (s : ℕ) (cs : List Case) {a b : Answer} → (is_side s ≡ true → a ≡ b) → verdict (side_case s ∷ cs) a ≡ verdict (side_case s ∷ cs) b
on_board s cs {a} {b} f = go (is_side s) refl
  where
    go : (t : Bool) → is_side s ≡ t → verdict (side_case s ∷ cs) a ≡ verdict (side_case s ∷ cs) b
    go true e = ap (verdict (side_case s ∷ cs)) (f e)
    go false e = rw e

-- the counts of the moves of a board
abbrev pub BoardMoves : ℕ → Moves → Type 0
BoardMoves s m = is_side s ≡ true → m ≡ record { electronic = 7 * (s - 1); swaps = 2 }

moves-made : (s : ℕ) {m : Moves} → BoardMoves s m → is_side s ≡ true → accepted m.electronic m.swaps ≡ accepted (7 * (s - 1)) 2
moves-made s f t = ap (λ (m : Moves). accepted m.electronic m.swaps) (f t)

-- marks and aims that rank accepts
pub record RankKnown (s : ℕ) (marks : List ℕ) (n : ℕ) : Type 0 where
  pub marks_long : length marks ≡ cells s
  pub aims_long : n ≡ length marks
  pub good : BoardMarks marks

pub rank_known : (s : ℕ) (marks : List ℕ) (n : ℕ) {r : Answer} → r ≡ verdict (without_logs (rank_cases s marks n 0)) (accepted_by (prefix_sum_runs s)) → r.number ≡ 0 → RankKnown s marks n
rank_known s marks n e z =
    let k = none_refuses (without_logs (rank_cases s marks n 0)) (accepted_by (prefix_sum_runs s)) refl e z in
    let long = lane_whole s (length marks) k.1.0 in
    record {
      marks_long = long;
      aims_long = lane_whole s n k.1.1.0 ∙ sym long;
      good = record { few = omega (arith, long, (side_known s (side_built s k.0)).cells_few); good = good_marks marks k.1.1.1.0 };
    }

module _ (trip : Trip) (s : ℕ) (n : Sizes) (marks aims : List ℕ) where
  -- the answer of a trip, with the counts of its list
  pub trip_answer : {m : Moves} {r : Answer} → BoardMoves s m → r ≡ verdict (without_logs (full_cases trip s n marks aims 0 0)) (accepted m.electronic m.swaps)
      → r ≡ verdict (without_logs (full_cases trip s n marks aims 0 0)) (accepted_by (runs_of trip s))
  trip_answer f e =
      let lanes = lane_case s n.words ∷ lane_case s (length marks) ∷ lane_case s (length aims) ∷ lane_case s n.spare_words ∷ lane_case s n.spare_marks ∷ lane_case s n.spare_aims ∷ [] in
      e ∙ on_board s (lanes ++ (marks_case marks ∷ aims_case trip s marks aims ∷ [])) (λ t. moves-made s f t ∙ sym (trip_counts trip s t))

  -- lanes that a trip takes
  pub record TripKnown : Type 0 where
    pub fits : Fitting s (length marks) (length aims) n
    pub lanes : TripLanes trip marks aims

  pub trip_known : {r : Answer} → r ≡ verdict (without_logs (full_cases trip s n marks aims 0 0)) (accepted_by (runs_of trip s)) → r.number ≡ 0 → TripKnown
  trip_known e z =
      let rest = marks_case marks ∷ aims_case trip s marks aims ∷ [] in
      let k = none_refuses (without_logs (full_cases trip s n marks aims 0 0)) (accepted_by (runs_of trip s)) refl e z in
      let o = others s (length marks) (length aims) n rest k in
      let f = fitting s (length marks) (length aims) n rest k in
      record {
        fits = f;
        lanes = record {
          side = s;
          built = f.side;
          size = f.marks;
          good = record { marks_good = good_marks marks o.0; aims_good = none_found (bad_aim trip s marks aims) (length marks) o.1.0 };
        };
      }
