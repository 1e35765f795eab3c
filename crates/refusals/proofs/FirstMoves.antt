-- The runs of the first k moves of a list are, move by move, its first k moves.
use Prim.Native.Nat.{ℕ, zero, suc, ◌+◌, ◌-◌, ◌≤◌, min}
use mathlib.Core.Path.{◌≡◌, sym, ap, ◌∙◌}
use mathlib.Core.List.{List, [], ◌∷◌, ◌++◌}
use native.Mathlib.Nat.{zero-min, min-zero, suc-min-suc, zero-sub, sub-zero, suc-sub-suc}
use lib.ListN.{length, take, replicate}
use lib.Seq.{take-nil, length-take-le}
use Rattle.array.specs.declared.moves.Move.{Move}
use Rattle.runs.specs.declared.Run.{Run}
use Rattle.runs.specs.Runs.{moves, electronic, swaps}
use Rattle.runs.proofs.Lengths.{length-moves}
use Rattle.refusals.specs.Cuts.{first_runs}

in_run_lem : (k n : ℕ) (m : Move) (ms : List Move) → take k (replicate n m ++ ms) ≡ replicate (min k n) m ++ take (k - n) ms
in_run_lem zero n m ms = rw (zero-min, zero-sub)
in_run_lem (suc k) zero m ms = rw (min-zero, sub-zero)
in_run_lem (suc k) (suc n) m ms = rw (suc-min-suc, suc-sub-suc) (ap (λ (xs : List Move). m ∷ xs) (in_run_lem k n m ms))

pub first-moves : (k : ℕ) (rs : List Run) → moves (first_runs k rs) ≡ take k (moves rs)
first-moves k [] = sym (take-nil k)
first-moves k (r ∷ rs) =
    ap (λ (ms : List Move). replicate (min k r.times) r.step ++ ms) (first-moves (k - r.times) rs) ∙ sym (in_run_lem k r.times r.step (moves rs))

-- and so many are counted
pub first_counts : (k : ℕ) (rs : List Run) → k ≤ length (moves rs) → electronic (first_runs k rs) + swaps (first_runs k rs) ≡ k
first_counts k rs h = sym (length-moves (first_runs k rs)) ∙ ap length (first-moves k rs) ∙ length-take-le k (moves rs) h
