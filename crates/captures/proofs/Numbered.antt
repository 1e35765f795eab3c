-- A replay is refused by the verdict on its cases, by number and place; where no case applies, comparing the moves decides.
use Rattle.std.specs.Prelude.{Result, Ok, Err}
use Prim.Native.Nat.{ℕ}
use mathlib.Core.Path.{◌≡◌, refl, sym, ap, ◌∙◌}
use mathlib.Core.Bool.{Bool, true, false}
use mathlib.Core.List.{List}
use native.Mathlib.Omega.{arith}
use lib.ListN.{length}
use Rattle.answers.specs.declared.Answer.{Answer}
use Rattle.answers.specs.declared.Refusal.{Refusal}
use Rattle.answers.specs.declared.Refusal.TheVariants.{Side, Lane, Mark, Aim}
use Rattle.answers.specs.Answers.{Case}
use Rattle.answers.specs.Answers.{number_of, place_of, accepted, refused, refusing, verdict, side_case, lane_case}
use Rattle.answers.proofs.Judging.{refuses}
use Rattle.answers.proofs.Named.{same_refusal}
use Rattle.lists.specs.declared.Trip.TheVariants.{Concentrate}
use Rattle.marks.specs.Marks.{marks_case}
use Rattle.refusals.specs.Cases.{aims_case}
use Rattle.captures.specs.declared.Replayed.{Replayed}
use Rattle.captures.specs.Captures.{CaptureVerdict, is_capture, no_capture}
use Rattle.captures.specs.Replays.{compared, capture_case, replay_cases, moves_in, unless_applies, capture_by, replay_by}

-- what a replay returns, as the answer of an entry that moves nothing
abbrev pub judged : Result Replayed Refusal → Answer
judged (Ok found) = accepted 0 0
judged (Err refusal) = refused (number_of refusal) (place_of refusal)

-- no two refusals have the same number and place, and a refusal is nothing that is found
pub refusal_is : (x : Refusal) (r : Result Replayed Refusal) → refused (number_of x) (place_of x) ≡ judged r → Err x ≡ r
refusal_is x (Ok found) e = absurd (refuses x (ap (λ (a : Answer). a.number) e))
refusal_is x (Err y) e = ap Err (same_refusal x y e)

-- a refusal is not what a replay finds
abbrev is_found : Result Replayed Refusal → ℕ
is_found (Ok found) = 1
is_found (Err x) = 0

not_found : {x : Refusal} {found : Replayed} → ◌≡◌ {A = Result Replayed Refusal} (Err x) (Ok found) → ⊥
not_found e = let z : ◌≡◌ {A = ℕ} 0 1 = ap is_found e in omega (arith, z)

abbrev found_in : Replayed → Result Replayed Refusal → Replayed
found_in otherwise (Ok found) = found
found_in otherwise (Err x) = otherwise

-- a case is the refusal that stands beside it
step : (c : Case) (x : Refusal) (r : Result Replayed Refusal) {a : Answer}
    → refused (number_of x) (place_of x) ≡ refused c.number c.place → judged r ≡ a
    → judged (unless_applies c x r) ≡ refusing c a
step c x r {a} e f = go c.applies refl
  where
    go : (t : Bool) → c.applies ≡ t → judged (unless_applies c x r) ≡ refusing c a
    go true h = rw h e
    go false h = rw h f

module _ (s : ℕ) (words marks aims : List ℕ) where
  captured : (v : CaptureVerdict) → judged (capture_by s words marks aims v) ≡ refusing (capture_case v) (accepted 0 0)
  captured (is_capture hs ms) = refl
  captured (no_capture k) = refl

  pub replay_judged : (v : CaptureVerdict) → judged (replay_by s words marks aims v) ≡ verdict (replay_cases s words marks aims v) (accepted 0 0)
  unfolding replay_by
  replay_judged v =
      step (side_case s) Side _ refl
      (step (lane_case s (length words)) Lane _ refl
      (step (lane_case s (length marks)) Lane _ refl
      (step (lane_case s (length aims)) Lane _ refl
      (step (marks_case marks) (Mark (marks_case marks).place) _ refl
      (step (aims_case Concentrate s marks aims) (Aim (aims_case Concentrate s marks aims).place) _ refl (captured v))))))

-- what is found is what comparing the moves gives
behind_case : (c : Case) (x : Refusal) (r : Result Replayed Refusal) {found : Replayed} → unless_applies c x r ≡ Ok found → r ≡ Ok found
behind_case c x r {found} e = go c.applies refl
  where
    go : (t : Bool) → c.applies ≡ t → r ≡ Ok found
    go true h = absurd (not_found (rw h at e))
    go false h = rw h at e

module _ (s : ℕ) (words marks aims : List ℕ) where
  by_capture : (v : CaptureVerdict) {found : Replayed} → capture_by s words marks aims v ≡ Ok found
      → compared s words marks aims 0 (moves_in v) ≡ found
  by_capture (is_capture hs ms) {found} e = ap (found_in found) e
  by_capture (no_capture k) e = absurd (not_found e)

  pub found_compared : (v : CaptureVerdict) {found : Replayed} → replay_by s words marks aims v ≡ Ok found
      → compared s words marks aims 0 (moves_in v) ≡ found
  unfolding replay_by
  found_compared v e =
      by_capture v
      (behind_case (aims_case Concentrate s marks aims) _ _
      (behind_case (marks_case marks) _ _
      (behind_case (lane_case s (length aims)) _ _
      (behind_case (lane_case s (length marks)) _ _ (behind_case (lane_case s (length words)) _ _ (behind_case (side_case s) _ _ e))))))

  -- and that decides where no case applies
  pub replay_compared : (v : CaptureVerdict) → (verdict (replay_cases s words marks aims v) (accepted 0 0)).number ≡ 0
      → replay_by s words marks aims v ≡ Ok (compared s words marks aims 0 (moves_in v))
  replay_compared v z = go (replay_by s words marks aims v) refl
    where
      go : (r : Result Replayed Refusal) → replay_by s words marks aims v ≡ r → r ≡ Ok (compared s words marks aims 0 (moves_in v))
      go (Ok found) e = ap Ok (sym (found_compared v e))
      go (Err x) e =
          absurd
          (refuses x
          (ap (λ (r : Result Replayed Refusal). (judged r).number) (sym e) ∙ ap (λ (a : Answer). a.number) (replay_judged s words marks aims v) ∙ z))
