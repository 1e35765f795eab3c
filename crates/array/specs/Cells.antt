-- The array of side s: s * s groups of s * s cells. A mesh joins the cells of a group, and light joins the groups.
use Rattle.std.specs.Prelude.{ℕ, ◌+◌, ◌-◌, ◌*◌, ◌/◌, ◌%◌, Bool, cond, ◌&&◌, ltb, leb, eqb}
use Rattle.std.proofs.Math.Option.{Option, none, some}
use Rattle.array.specs.declared.moves.Way.{Way}
use Rattle.array.specs.declared.moves.Way.TheVariants.{Right, Left, Up, Down}

-- the sides that are built
abbrev pub is_side : ℕ → Bool
is_side s = leb 1 s && leb s 8

-- N, the number of groups, and of cells in a group
abbrev pub groups : ℕ → ℕ
groups s = s * s

abbrev pub cells : ℕ → ℕ
cells s = groups s * groups s

-- cell p of group g, and back
abbrev pub cell : ℕ → ℕ → ℕ → ℕ
cell s g p = g * groups s + p

abbrev pub group : ℕ → ℕ → ℕ
group s i = i / groups s

abbrev pub place : ℕ → ℕ → ℕ
place s i = i % groups s

-- the row and the column of a place, and of a group
abbrev pub row : ℕ → ℕ → ℕ
row s p = p / s

abbrev pub column : ℕ → ℕ → ℕ
column s p = p % s

-- the cell at the other end of the light from cell i
abbrev pub partner : ℕ → ℕ → ℕ
partner s i = cell s (place s i) (group s i)

-- i is a cell of a board
abbrev pub is_cell : ℕ → ℕ → Bool
is_cell s i = is_side s && ltb i (cells s)

-- a lane of n entries is one of a board
abbrev pub is_board : ℕ → ℕ → Bool
is_board s n = is_side s && eqb n (cells s)

-- how many cells lie ahead of cell i one way, up to the edge of its group
abbrev pub ahead : ℕ → Way → ℕ → ℕ
ahead s Right i = s - 1 - column s (place s i)
ahead s Left i = column s (place s i)
ahead s Up i = row s (place s i)
ahead s Down i = s - 1 - row s (place s i)

-- the cell one step on
abbrev pub onward : ℕ → Way → ℕ → ℕ
onward s Right i = i + 1
onward s Left i = i - 1
onward s Up i = i - s
onward s Down i = i + s

-- the neighbour one way; there is none past an edge
abbrev pub neighbour : ℕ → Way → ℕ → Option ℕ
neighbour s w i = cond (ltb 0 (ahead s w i)) (some (onward s w i)) none
