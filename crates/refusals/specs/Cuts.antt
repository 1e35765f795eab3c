-- The runs of the first moves of a list.
use Rattle.std.specs.Prelude.{ℕ, ◌-◌, min, List, [], ◌∷◌}
use Rattle.runs.specs.declared.Run.{Run}

-- the first k moves, run by run
abbrev pub first_runs : ℕ → List Run → List Run
first_runs k [] = []
first_runs k (r ∷ rs) = record { step = r.step; times = min k r.times } ∷ first_runs (k - r.times) rs
