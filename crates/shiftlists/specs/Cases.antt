-- When a shift is refused by its distance.
use Rattle.std.specs.Prelude.{ℕ, not, ℤ}
use Rattle.answers.specs.Answers.{Case}
use Rattle.answers.specs.Answers.{case_of}
use Rattle.shiftlists.specs.Shifts.{distance_of, within}

-- 4: the distance is not within the side
abbrev pub distance_case : ℕ → ℤ → Case
distance_case s k = case_of (not (within s (distance_of k))) 4 0
