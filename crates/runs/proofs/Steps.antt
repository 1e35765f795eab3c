-- Move k of a list.
use Prim.Native.Nat.{ℕ, zero, suc, ◌-◌, ◌≤◌, ◌<◌}
use mathlib.Core.Path.{◌≡◌, refl, sym, ap, ◌∙◌}
use mathlib.Core.List.{List, ◌++◌}
use native.Mathlib.Nat.{suc-sub-suc}
use native.Mathlib.Omega.{arith}
use lib.ListN.{length, get_or, replicate, drop}
use lib.Seq.{drop-cons}
use Rattle.array.specs.declared.moves.Move.{Move}
use Rattle.runs.specs.declared.Run.{Run}
use Rattle.std.specs.Prelude.{Some}
use Rattle.runs.specs.Runs.{moves, step_in}

-- in the run that is n moves m, and past it
in_run_lem : (n k : ℕ) (m : Move) (ms : List Move) → k < n → step_in (replicate n m ++ ms) k ≡ Some m
in_run_lem zero k m ms h = absurd (omega arith)
in_run_lem (suc n) zero m ms h = refl
in_run_lem (suc n) (suc k) m ms h = in_run_lem n k m ms (omega arith)

past_run : (n k : ℕ) (m : Move) (ms : List Move) → n ≤ k → step_in (replicate n m ++ ms) k ≡ step_in ms (k - n)
past_run zero k m ms h = ap (step_in ms) (omega arith)
past_run (suc n) zero m ms h = absurd (omega arith)
past_run (suc n) (suc k) m ms h = past_run n k m ms (omega arith) ∙ ap (step_in ms) (sym (suc-sub-suc k n))

-- the same from run q of a list on
module _ (rs : List Run) (q k : ℕ) (d : Run) (h : q < length rs) where
  pub step-here : k < (get_or rs q d).times → step_in (moves (drop q rs)) k ≡ Some (get_or rs q d).step
  step-here l = rw (drop-cons rs q d h) (in_run_lem (get_or rs q d).times k (get_or rs q d).step (moves (drop (suc q) rs)) l)

  pub step_next : (get_or rs q d).times ≤ k → step_in (moves (drop q rs)) k ≡ step_in (moves (drop (suc q) rs)) (k - (get_or rs q d).times)
  step_next l = rw (drop-cons rs q d h) (past_run (get_or rs q d).times k (get_or rs q d).step (moves (drop (suc q) rs)) l)
