-- The move lists of the eight shifts by k, −s < k < s.
use Rattle.std.specs.Prelude.{ℕ, suc, ◌-◌, Bool, cond, ◌&&◌, List, ◌∷◌, ℤ, pos, negsuc, ltb, eqb, replicate}
use Rattle.array.specs.declared.moves.Way.{Way}
use Rattle.array.specs.declared.moves.Way.TheVariants.{Right, Down}
use Rattle.runs.specs.declared.Run.{Run}
use Rattle.shiftlists.specs.declared.Axis.{Axis}
use Rattle.shiftlists.specs.declared.Axis.TheVariants.{MeshRow, MeshColumn, GroupRow, GroupColumn}
use Rattle.shiftlists.specs.declared.Edge.{Edge}
use Rattle.shiftlists.specs.declared.Edge.TheVariants.{ZeroFill, Circular}
use Rattle.shiftlists.specs.declared.Distance.{Distance}
use Rattle.array.specs.Moves.{opposite}
use Rattle.runs.specs.Runs.{no_runs, along, swapping}

-- a shift by k goes so far forth, or so far back
abbrev pub distance_of : ℤ → Distance
distance_of (pos n) = record { forth = n; back = 0 }
distance_of (negsuc n) = record { forth = 0; back = suc n }

-- −s < k < s
abbrev pub within : ℕ → Distance → Bool
within s k = ltb k.forth s && ltb k.back s

-- k mod s, 0 to s − 1, of a k within the side
abbrev pub modulo : ℕ → Distance → ℕ
modulo s k = cond (ltb 0 k.back) (s - k.back) k.forth

-- k = 0
abbrev pub is_nothing : Distance → Bool
is_nothing k = eqb k.forth 0 && eqb k.back 0

-- how many electronic moves a circular shift has: none by nothing, else as many as the side
abbrev pub circular_moves : ℕ → Distance → ℕ
circular_moves s k = cond (is_nothing k) 0 s

-- how many moves go forth and how many back
abbrev pub forth_moves : Edge → ℕ → Distance → ℕ
forth_moves ZeroFill s k = k.forth
forth_moves Circular s k = modulo s k

abbrev pub back_moves : Edge → ℕ → Distance → ℕ
back_moves ZeroFill s k = k.back
back_moves Circular s k = circular_moves s k - modulo s k

-- a shift of a row, of a mesh or of groups, goes right and left, and one of a column down and up
abbrev pub forth_way : Axis → Way
forth_way MeshRow = Right
forth_way MeshColumn = Down
forth_way GroupRow = Right
forth_way GroupColumn = Down

-- a shift of groups begins and ends with a swap
abbrev pub swaps_of : Axis → ℕ
swaps_of MeshRow = 0
swaps_of MeshColumn = 0
swaps_of GroupRow = 1
swaps_of GroupColumn = 1

abbrev pub shift_list : Axis → ℕ → ℕ → List Run
shift_list axis forth back =
    swapping (swaps_of axis) ∷ along (forth_way axis) forth ∷ along (opposite (forth_way axis)) back ∷ swapping (swaps_of axis) ∷
    replicate 5 (swapping 0)

abbrev pub shift_by : ℕ → Axis → Edge → Distance → List Run
shift_by s axis edge k = cond (within s k) (shift_list axis (forth_moves edge s k) (back_moves edge s k)) no_runs

abbrev pub shift_runs : ℕ → Axis → Edge → ℤ → List Run
shift_runs s axis edge k = shift_by s axis edge (distance_of k)
