-- A program goes by single moves: those of its list, each of them one move of the machine.
use Prim.Native.Nat.{ℕ, zero, suc, ◌+◌, ◌-◌, ◌≤◌, ◌<◌}
use mathlib.Core.Path.{◌≡◌, refl, ap, ◌∙◌}
use mathlib.Core.Bool.{Bool, true, false, cond}
use mathlib.Core.Option.{some}
use mathlib.Core.List.{List, [], ◌∷◌}
use native.Mathlib.Omega.{arith}
use lib.Dec.{ltb}
use lib.ListN.{length, length-append, length-replicate}
use borrow.Author.Tests.{ltb-true, ltb-false, lt-ltb, le-ltb}
use Rattle.std.specs.Prelude.{Some}
use Rattle.runs.specs.Runs.{moves, step_in}
use Rattle.runs.proofs.Steps.{step-here, step_next}
use Rattle.lanes.specs.Machine.{State, Stage, make, ran, all, made, stage_runs}
use Rattle.lanes.specs.Registers.{after_moves, handed_on}

-- no move made
after_no_move : {R A : Type 0} (s : ℕ) (ts : List (Stage R A)) (σ : State R) → after_moves s ts 0 σ ≡ σ
after_no_move s [] σ = refl
after_no_move s (t ∷ ts) σ = go t.run.times (after_no_move s ts σ)
  where
    go : (n : ℕ) → after_moves s ts 0 σ ≡ σ → cond (ltb 0 n) σ (after_moves s ts (0 - n) (ran s t n σ)) ≡ σ
    go zero ih = ih
    go (suc n) ih = rw (lt-ltb 0 (suc n) (omega arith))

-- all moves made
pub after-all-moves : {R A : Type 0} (s : ℕ) (ts : List (Stage R A)) (σ : State R) → after_moves s ts (length (moves (stage_runs ts))) σ ≡ made s ts σ
after-all-moves s [] σ = refl
after-all-moves s (t ∷ ts) σ =
    let n = t.run.times in
    let e : length (moves (stage_runs (t ∷ ts))) ≡ n + length (moves (stage_runs ts)) = simp (length-append, length-replicate) in
    let f : n + length (moves (stage_runs ts)) - n ≡ length (moves (stage_runs ts)) = omega arith in
    rw (e, le-ltb (n + length (moves (stage_runs ts))) n (omega arith), f) (after-all-moves s ts (all s t σ))

-- the move after the first k is that of the list, and one move of the machine, in which each cell hands on what `handed_on` says
pub record OneMove {R A : Type 0} (s : ℕ) (ts : List (Stage R A)) (k : ℕ) (σ : State R) : Type 0 where
  pub stage : Stage R A
  pub number : ℕ
  pub listed : step_in (moves (stage_runs ts)) k ≡ Some stage.run.step
  pub hands : (c d a b : ℕ) → handed_on s ts k σ c d a b ≡ some (stage.send (after_moves s ts k σ c d a b))
  pub makes : after_moves s ts (suc k) σ ≡ make s stage.run.step stage.send (stage.rule number) (after_moves s ts k σ)

pub one_move : {R A : Type 0} (s : ℕ) (ts : List (Stage R A)) (k : ℕ) (σ : State R) → k < length (moves (stage_runs ts)) → OneMove s ts k σ
one_move s [] k σ h = absurd (omega arith)
one_move s (t ∷ ts) k σ h =
    let e : length (moves (stage_runs (t ∷ ts))) ≡ t.run.times + length (moves (stage_runs ts)) = simp (length-append, length-replicate) in
    go (ltb k t.run.times) refl (λ l. one_move s ts (k - t.run.times) (all s t σ) (omega arith))
  where
    n : ℕ
    n = t.run.times

    more : (x : Bool) → ltb (suc k) n ≡ x → k < n → cond x (ran s t (suc k) σ) (after_moves s ts (suc k - n) (all s t σ)) ≡ ran s t (suc k) σ
    more true e l = refl
    more false e l =
        let f : n ≡ suc k = omega (arith, ltb-false (suc k) n e) in
        let g : suc k - n ≡ 0 = omega arith in
        ap (λ (i : ℕ). after_moves s ts i (all s t σ)) g ∙ after_no_move s ts (all s t σ) ∙ ap (λ (i : ℕ). ran s t i σ) f

    rest : n ≤ k → OneMove s ts (k - n) (all s t σ) → OneMove s (t ∷ ts) k σ
    rest l z = record {
      stage = z.stage;
      number = z.number;
      listed = step_next (stage_runs (t ∷ ts)) 0 k t.run (omega arith) l ∙ z.listed;
      hands = λ c d a b. rw (le-ltb k n l) (z.hands c d a b);
      makes =
          let e : suc k - n ≡ suc (k - n) = omega arith in
          rw (le-ltb k n l, le-ltb (suc k) n (omega arith), e) z.makes;
    }

    go : (x : Bool) → ltb k n ≡ x → (n ≤ k → OneMove s ts (k - n) (all s t σ)) → OneMove s (t ∷ ts) k σ
    go true e ih =
        let l = ltb-true k n e in
        record {
          stage = t;
          number = k;
          listed = step-here (stage_runs (t ∷ ts)) 0 k t.run (omega arith) l;
          hands = λ c d a b. rw e;
          makes = more (ltb (suc k) n) refl l ∙ rw e;
        }
    go false e ih = let l = ltb-false k n e in rest l (ih l)
