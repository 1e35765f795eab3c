-- One move of a list of runs: the move, how many of its run remain, and how many swaps were made before it.
use Rattle.std.specs.Prelude.{ℕ, ◌+◌, ◌-◌, cond, List, [], ◌∷◌, ltb}
use Rattle.array.specs.declared.moves.Move.TheVariants.{Swap}
use Rattle.runs.specs.declared.Run.{Run}
use Rattle.runs.specs.Runs.{swaps_in}
use Rattle.travel.specs.declared.turns.Turn.{Turn}

-- move k of a list, where so many swaps were made before the list
abbrev pub turn_in : List Run → ℕ → ℕ → Turn
turn_in [] swaps k = record { step = Swap; remaining = 0; swaps = swaps }
turn_in (r ∷ rs) swaps k =
    cond (ltb k r.times)
    (record { step = r.step; remaining = r.times - k; swaps = swaps + swaps_in r.step k })
    (turn_in rs (swaps + swaps_in r.step r.times) (k - r.times))

abbrev pub turn_at : List Run → ℕ → Turn
turn_at rs k = turn_in rs 0 k
