-- Records that stand where concentrate has them: every move of concentrate takes them on, and every move of distribute takes them back.
use Prim.Native.Nat.{ℕ, zero, suc, ◌+◌, ◌-◌, ◌*◌, ◌/◌, ◌%◌, ◌≤◌, ◌<◌}
use mathlib.Core.Path.{◌≡◌, refl, sym, ap, ◌∙◌, subst}
use native.Mathlib.Nat.{mod-eq_of_lt, mul-pos, lt_of_le_of_lt, div-lt_iff_lt-mul}
use native.Mathlib.Omega.{arith}
use borrow.Author.Tests.{ne_eqb}
use Rattle.array.specs.declared.moves.Move.{Move}
use Rattle.array.specs.Cells.{groups, cells, partner}
use Rattle.array.proofs.Board.{partner_twice}
use Rattle.lists.specs.declared.Trip.{Trip}
use Rattle.lists.specs.declared.Trip.TheVariants.{Concentrate, Distribute}
use Rattle.lists.specs.Lists.{concentrate_runs, distribute_runs, runs_of}
use Rattle.travel.specs.declared.turns.Turn.{Turn}
use Rattle.travel.specs.Travel.{heading, stands}
use Rattle.travel.specs.Turns.{turn_at}
use Rattle.travel.proofs.Listed.{times_of}
use Rattle.travel.proofs.Collide.{Starts, never_three, can_start}
use Rattle.travel.proofs.Range.{stands_in_range}
use Rattle.slots.specs.declared.Rec.{Rec}
use Rattle.mover.specs.Runs.{low_after}
use Rattle.course.proofs.Bridge.{headed}
use Rattle.course.proofs.Content.{Rising, Fits}
use Rattle.course.proofs.Course.{went_to, Step, Course}
use Rattle.travel.proofs.Turning.{StageBack, leg, light, stage_back}

-- a record of the board heads by the rule for the place that it heads for
first_two : (s aim : ℕ) → 1 ≤ s → aim < cells s → aim / groups s % groups s ≡ aim / groups s
first_two s aim pos h = mod-eq_of_lt ((div-lt_iff_lt-mul (mul-pos pos pos)).1 h)

heads_for : (s aim swaps : ℕ) → 1 ≤ s → aim < cells s → headed s (low_after Concentrate swaps) aim ≡ heading s swaps aim
heads_for s aim zero pos h = refl
heads_for s aim (suc n) pos h = rw (ne_eqb (suc n) 0 (λ e. omega arith)) (first_two s aim pos h)

back_heads_for : (s aim swaps : ℕ) → 1 ≤ s → aim < cells s → swaps ≤ 1 → headed s (low_after Distribute (2 - swaps)) aim ≡ heading s swaps aim
back_heads_for s aim zero pos l h = refl
back_heads_for s aim (suc zero) pos l h = first_two s aim pos l
back_heads_for s aim (suc (suc n)) pos l h = absurd (omega arith)

-- all moves of either list
pub all-moves : (trip : Trip) (s : ℕ) → times_of (runs_of trip s) ≡ 7 * (s - 1) + 2
all-moves Concentrate s = omega arith
all-moves Distribute s = omega arith

-- a move of a list, by what it is
step_by : {trip : Trip} {s b : ℕ} {x : Turn} {R : ℕ → Rec} {pos post : ℕ → ℕ} {m : Move} → x.step ≡ m → ((r : ℕ) → r < b → post r ≡ went_to trip s x m (R r).aim (pos r)) → Step trip s x b R pos post
step_by {trip} {s} {b} {x} {R} {pos} {post} e h =
    record { next = subst (λ (m : Move). (r : ℕ) → r < b → post r ≡ went_to trip s x m (R r).aim (pos r)) (sym e) h }

-- b records, in cells that rise with their ranks
module _ (s b : ℕ) (pos : 1 ≤ s) (start : ℕ → ℕ) (rising : (r : ℕ) → suc r < b → start r < start (suc r)) (inside : (r : ℕ) → r < b → start r < cells s) where
  abbrev at : ℕ → ℕ → ℕ
  at k r = stands s k r (start r)

  starts : (r : ℕ) → r < b → Starts s (start r) r
  starts = can_start s b pos start rising inside

  pub rank< : (r : ℕ) → r < b → r < cells s
  rank< r h = lt_of_le_of_lt (starts r h).rank (inside r h)

  pub below : (k r : ℕ) → r < b → stands s k r (start r) < cells s
  below k r h = stands_in_range s pos k r (start r) (rank< r h) (inside r h)

  pub fits : (k : ℕ) → Fits b (λ r. stands s k r (start r))
  fits k = never_three s b pos start rising inside k

  module _ (R : ℕ → Rec) where
    -- concentrate: each record is aimed at its rank
    pub concentrate_step : (k : ℕ) → k < 7 * (s - 1) + 2 → ((r : ℕ) → r < b → (R r).aim ≡ r)
        → Step Concentrate s (turn_at (concentrate_runs s) k) b R (λ r. stands s k r (start r)) (λ r. stands s (suc k) r (start r))
    concentrate_step k h aims = go (stage_back s pos k (7 * (s - 1) + 1 - k) (omega arith))
      where
        go : {k' : ℕ} → StageBack s k k' → Step Concentrate s (turn_at (concentrate_runs s) k) b R (at k) (at (suc k))
        go (light f g over) = step_by f (λ r u. over r (start r))
        go (leg w swaps l) = step_by l.step (λ r u. l.goes_on r (start r) ∙ sym (rw (l.turn, aims r u, heads_for s r swaps pos (rank< r u))))

    -- distribute: each record is aimed at the cell that it started in
    pub distribute_step : (k k' : ℕ) → k + k' ≡ 7 * (s - 1) + 1 → ((r : ℕ) → r < b → (R r).aim ≡ start r)
        → Step Distribute s (turn_at (distribute_runs s) k') b R (λ r. stands s (suc k) r (start r)) (λ r. stands s k r (start r))
    distribute_step k k' e aims = go (stage_back s pos k k' e)
      where
        go : StageBack s k k' → Step Distribute s (turn_at (distribute_runs s) k') b R (at (suc k)) (at k)
        go (light f g over) = step_by g (λ r u. sym (ap (partner s) (over r (start r)) ∙ partner_twice pos (at k r) (below k r u)))
        go (leg w swaps l) =
            step_by l.back_step (λ r u. l.goes_back r (start r) (starts r u) ∙ sym (rw (l.back_turn, aims r u, back_heads_for s (start r) swaps pos (inside r u) l.few)))

    module _ (n : ℕ) (h : n ≤ 7 * (s - 1) + 2) (z : Rising b R) where
      pub concentrate_course : ((r : ℕ) → r < b → (R r).aim ≡ r) → Course Concentrate s (concentrate_runs s) 0 n b R (λ k r. stands s k r (start r))
      concentrate_course aims = record { rising = z; fits = λ k u. fits k; inside = λ k u. below k; step = λ k u. concentrate_step k (omega arith) aims }

      pub distribute_course : ((r : ℕ) → r < b → (R r).aim ≡ start r) → Course Distribute s (distribute_runs s) 0 n b R (λ k r. stands s (7 * (s - 1) + 2 - k) r (start r))
      distribute_course aims =
          record {
            rising = z;
            fits = λ k u. fits (7 * (s - 1) + 2 - k);
            inside = λ k u. below (7 * (s - 1) + 2 - k);
            step = λ k u.
                let e : 7 * (s - 1) + 2 - k ≡ suc (7 * (s - 1) + 2 - suc k) = omega arith in
                rw e (distribute_step (7 * (s - 1) + 2 - suc k) k (omega arith) aims);
          }
