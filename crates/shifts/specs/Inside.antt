-- What the parts of a shift do to its lanes. A reader of the public contract does not need it.
use Rattle.std.specs.Prelude.{ℕ, ◌+◌, Bool, cond, ◌&&◌, List, get_or, ltb}
use Rattle.array.specs.declared.moves.Way.{Way}
use Rattle.array.specs.declared.moves.Way.TheVariants.{Right, Down}
use Rattle.shiftlists.specs.declared.Axis.{Axis}
use Rattle.shiftlists.specs.declared.Axis.TheVariants.{MeshRow, MeshColumn, GroupRow, GroupColumn}
use Rattle.array.specs.Cells.{place, row, column}
use Rattle.array.specs.Moves.{opposite}
use Rattle.lanes.specs.declared.Joining.TheVariants.{Fill}
use Rattle.lanes.specs.Machine.{State, all}
use Rattle.lanes.specs.Stages.{position}
use Rattle.sums.specs.Sums.{cellwise}
use Rattle.lanes.specs.Runs.{running}
use Rattle.lanes.specs.Inside.{swapped_state}
use Rattle.shifts.specs.declared.Shift.{Shift}
use Rattle.shifts.specs.declared.Spot.{Spot}
use Rattle.shifts.specs.Programs.{takes_back}

-- n moves in which every cell takes what comes, and 0 where nothing comes
abbrev pub slide : ℕ → Way → ℕ → State ℕ → State ℕ
slide s w n σ = all s (running w Fill 0 n) σ

-- whether a cell at position p takes the word that came back, and not the one that came forth
abbrev pub takes : Shift → ℕ → Bool
takes x p = ltb 0 x.around && takes_back x.edge x.forth p

-- a shift inside the groups, and one between swaps
abbrev pub mesh_shift : ℕ → Way → Shift → State ℕ → State ℕ
mesh_shift s w x σ c d a b = cond (takes x (position w a b)) (slide s (opposite w) x.around σ c d a b) (slide s w x.forth σ c d a b)

abbrev pub group_shift : ℕ → Way → Shift → State ℕ → State ℕ
group_shift s w x σ = swapped_state (mesh_shift s w x (swapped_state σ))

abbrev pub shift_on : ℕ → Axis → Shift → State ℕ → State ℕ
shift_on s MeshRow x = mesh_shift s Right x
shift_on s MeshColumn x = mesh_shift s Down x
shift_on s GroupRow x = group_shift s Right x
shift_on s GroupColumn x = group_shift s Down x

-- the spot of the next cell
abbrev pub next_spot : ℕ → Spot → Spot
next_spot s x =
    cond (ltb (x.column + 1) s) (record { row = x.row; column = x.column + 1 })
    (cond (ltb (x.row + 1) s) (record { row = x.row + 1; column = 0 }) (record { row = 0; column = 0 }))

-- l, with the words of m in the cells that take them
abbrev pub chosen : ℕ → Way → Shift → List ℕ → List ℕ → List ℕ
chosen s w x l m = cellwise (λ i own. cond (takes x (position w (row s (place s i)) (column s (place s i)))) (get_or m i 0) own) l

-- the same with those of m in the cells at a position below `forth`
abbrev pub taken_below : ℕ → Way → ℕ → List ℕ → List ℕ → List ℕ
taken_below s w forth l m = cellwise (λ i own. cond (ltb (position w (row s (place s i)) (column s (place s i))) forth) (get_or m i 0) own) l
