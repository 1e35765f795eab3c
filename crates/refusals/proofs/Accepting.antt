-- What is accepted: lanes of a board, with the marks and aims that the trip asks for, logs with room for its list, a cut that is not beyond it.
use Prim.Native.Nat.{ℕ, zero, suc, ◌-◌, ◌≤◌, ◌<◌}
use mathlib.Core.Path.{◌≡◌, refl, ◌∙◌}
use mathlib.Core.Bool.{Bool, true, false, not, ◌&&◌}
use mathlib.Core.Logic.{⊎_elim}
use mathlib.Core.List.{List, [], ◌∷◌, ◌++◌}
use native.Mathlib.Omega.{arith}
use borrow.Author.Tests.{eqb-true, eq-eqb, ne_eqb, lt-ltb, le-ltb, lt-leb}
use lib.Dec.{eqb, ltb, leb}
use lib.ListN.{length, get_or}
use Rattle.laws.proofs.Deciding.{apart}
use Rattle.laws.proofs.Searching.{all_passed}
use Rattle.answers.specs.declared.Answer.{Answer}
use Rattle.answers.specs.Answers.{Case}
use Rattle.array.specs.Cells.{is_side, cells}
use Rattle.runs.specs.Runs.{moves}
use Rattle.answers.specs.Answers.{verdict, log_case}
use Rattle.answers.proofs.Verdicts.{NoneApplies, accepted_is, side_passes, lane_passes, log_passes}
use Rattle.lists.specs.declared.Trip.{Trip}
use Rattle.lists.specs.declared.Trip.TheVariants.{Concentrate, Distribute}
use Rattle.lists.specs.Lists.{total_moves, runs_of}
use Rattle.lists.proofs.Counts.{concentrate_length, distribute_length}
use Rattle.marks.specs.Marks.{rank_in, marks_case}
use Rattle.marks.proofs.Checked.{good_passes}
use Rattle.refusals.specs.declared.Sizes.{Sizes}
use Rattle.refusals.specs.Cases.{bad_aim, first_aim, aims_case, cut_case, lane_cases, full_cases, cut_cases, Good}
use Rattle.refusals.proofs.Aims.{RankedAims, Aimed, first-marked}
use Rattle.refusals.proofs.Verdicting.{Fitting}

-- the marks and aims that a trip asks for: every marked cell's aim its rank; the first cells marked, with rising aims
abbrev pub Asked : Trip → ℕ → List ℕ → List ℕ → Type 0
Asked Concentrate s marks aims = RankedAims s marks aims
Asked Distribute s marks aims = Aimed s (rank_in marks (cells s)) marks aims

pub ranked_good : (s : ℕ) (marks aims : List ℕ) → length marks ≡ cells s → RankedAims s marks aims → Good Concentrate s marks aims
ranked_good s marks aims n z = record {
  marks_good = λ i h. omega (arith, z.mark i (omega arith));
  aims_good = λ i h. go i (omega arith) (eqb (get_or marks i 0) 1) refl;
}
  where
    go : (i : ℕ) → i < cells s → (t : Bool) → eqb (get_or marks i 0) 1 ≡ t → (eqb (get_or marks i 0) 1 && not (eqb (get_or aims i 0) (rank_in marks i))) ≡ false
    go i h true e = rw (e, eq-eqb (get_or aims i 0) (rank_in marks i) (z.rank i h (eqb-true (get_or marks i 0) 1 e)))
    go i h false e = rw e

module _ (s b : ℕ) (side : is_side s ≡ true) (marks aims : List ℕ) (n : length marks ≡ cells s) (z : Aimed s b marks aims) where
  not_marked : (i : ℕ) → i < cells s → b ≤ i → get_or marks i 0 ≡ 0
  not_marked i l h = z.first i l ∙ rw (le-ltb i b h)

  own_rank : (i : ℕ) → i ≤ b → rank_in marks i ≡ i
  own_rank zero h = refl
  own_rank (suc i) h = omega (arith, own_rank i (omega arith), first-marked z i h)

  above : (i : ℕ) → i < b → (ltb 0 i && leb (get_or aims i 0) (get_or aims (i - 1) 0)) ≡ false
  above zero h = refl
  above (suc i) h =
      let e : suc i - 1 ≡ i = omega arith in
      rw (e, lt-ltb 0 (suc i) (omega arith), lt-leb (get_or aims (suc i) 0) (get_or aims i 0) (z.rising i h))

  not_bad : (i : ℕ) → i < b → bad_aim Distribute s marks aims i ≡ false
  not_bad i h =
      rw (
        eq-eqb (get_or marks i 0) 1 (first-marked z i h),
        le-ltb (rank_in marks i) i (omega (arith, own_rank i (omega arith))),
        side,
        lt-ltb (get_or aims i 0) (cells s) (z.below i h),
        above i h,
      )

  aimed_good : Good Distribute s marks aims
  aimed_good = record {
    marks_good = λ i h. ⊎_elim (λ l. omega (arith, first-marked z i l)) (λ l. omega (arith, not_marked i (omega arith) l)) (apart i b);
    aims_good = λ i h. ⊎_elim (not_bad i) (λ l. rw (ne_eqb (get_or marks i 0) 1 (λ e. omega (arith, e, not_marked i (omega arith) l)))) (apart i b);
  }

pub asked_good : (trip : Trip) (s : ℕ) (marks aims : List ℕ) → is_side s ≡ true → length marks ≡ cells s → Asked trip s marks aims → Good trip s marks aims
asked_good Concentrate s marks aims side n z = ranked_good s marks aims n z
asked_good Distribute s marks aims side n z = aimed_good s (rank_in marks (cells s)) side marks aims n z

-- the list of either trip has as many moves
pub trip_length : (trip : Trip) (s : ℕ) → length (moves (runs_of trip s)) ≡ total_moves s
trip_length Concentrate s = concentrate_length s
trip_length Distribute s = distribute_length s

module _ (trip : Trip) (s : ℕ) (n : Sizes) (marks aims : List ℕ) (f : Fitting s (length marks) (length aims) n) (z : Good trip s marks aims) (a : Answer) where
  lanes_pass : (rest : List Case) → NoneApplies rest → NoneApplies (lane_cases s (length marks) (length aims) n ++ rest)
  lanes_pass rest k =
      let lane = lane_passes s in (
        side_passes s f.side,
        (
          lane n.words f.words,
          (
            lane (length marks) f.marks,
            (
              lane (length aims) f.aims,
              (
                lane n.spare_words f.words2,
                (lane n.spare_marks f.marks2, (lane n.spare_aims f.aims2, k)),
              ),
            ),
          ),
        ),
      )

  marks_pass : (marks_case marks).applies ≡ false
  marks_pass = good_passes marks z.marks_good

  aims_pass : (aims_case trip s marks aims).applies ≡ false
  aims_pass = le-ltb (first_aim trip s marks aims) (length marks) (omega (arith, all_passed (bad_aim trip s marks aims) (length marks) z.aims_good))

  log_room : (log : ℕ) → total_moves s ≤ log → (log_case (runs_of trip s) log).applies ≡ false
  log_room log h = log_passes (runs_of trip s) log (omega (arith, trip_length trip s))

  pub full_accepted : (codes moved : ℕ) → total_moves s ≤ codes → total_moves s ≤ moved → verdict (full_cases trip s n marks aims codes moved) a ≡ a
  full_accepted codes moved c m =
      let rest = log_case (runs_of trip s) codes ∷ log_case (runs_of trip s) moved ∷ marks_case marks ∷ aims_case trip s marks aims ∷ [] in
      accepted_is (full_cases trip s n marks aims codes moved) a (lanes_pass rest (log_room codes c, (log_room moved m, (marks_pass, (aims_pass, tt)))))

  pub cut_accepted : (cut : ℕ) → cut ≤ total_moves s → verdict (cut_cases trip s cut n marks aims) a ≡ a
  cut_accepted cut h =
      accepted_is (cut_cases trip s cut n marks aims) a
      (lanes_pass (marks_case marks ∷ aims_case trip s marks aims ∷ cut_case s cut ∷ []) (marks_pass, (aims_pass, (cut_passes, tt))))
    where
      cut_passes : (cut_case s cut).applies ≡ false
      cut_passes = rw (f.side, le-ltb (total_moves s) cut h)
