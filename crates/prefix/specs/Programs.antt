-- Prefix sum as a program of the machine.
use Rattle.std.specs.Prelude.{ℕ, ◌-◌, List, [], ◌∷◌}
use Rattle.array.specs.declared.moves.Way.TheVariants.{Right, Left, Up, Down}
use Rattle.lanes.specs.Machine.{State, Stage, made}
use Rattle.sums.specs.Sums.{plus, minus}
use Rattle.lanes.specs.Stages.{from, light}
use Rattle.lanes.specs.Registers.{IsWord}

-- Prefix sum, in the paper's nine steps.
-- r: the sum of the cell's row up to it. c: that of r down its column, its own row included. a: what came by light.
-- y: the sum of a along the row up to the cell. z: that of y down its column, and later what is before the cell.
pub record Sums : Type 0 where
  pub r : ℕ
  pub c : ℕ
  pub a : ℕ
  pub y : ℕ
  pub z : ℕ

-- all five are words
pub record FiveWords (o : Sums) : Type 0 where
  pub r : IsWord o.r
  pub c : IsWord o.c
  pub a : IsWord o.a
  pub y : IsWord o.y
  pub z : IsWord o.z

abbrev pub load_sums : ℕ → Sums
load_sums w = record { r = w; c = w; a = 0; y = 0; z = 0 }

-- 1: row sums; the column sums start from them. 2: column sums
abbrev pub add_row : Sums → ℕ → Sums
add_row o x = record { r = plus o.r x; c = plus o.r x; a = o.a; y = o.y; z = o.z }

abbrev pub add_column : Sums → ℕ → Sums
add_column o x = record { r = o.r; c = plus o.c x; a = o.a; y = o.y; z = o.z }

-- 3: the column sums go by light
abbrev pub take_group : Sums → ℕ → Sums
take_group o x = record { r = o.r; c = o.c; a = x; y = x; z = x }

-- 4: the sums of what came, row by row; the rows above, back along the row, and with them the row's own sum
abbrev pub add_groups : Sums → ℕ → Sums
add_groups o x = record { r = o.r; c = o.c; a = o.a; y = plus o.y x; z = plus o.y x }

abbrev pub add_group_rows : Sums → ℕ → Sums
add_group_rows o x = record { r = o.r; c = o.c; a = o.a; y = o.y; z = plus o.z x }

abbrev pub rows_above : Sums → ℕ
rows_above o = minus o.z o.y

abbrev pub take_above : Sums → ℕ → Sums
take_above o x = record { r = o.r; c = o.c; a = o.a; y = o.y; z = plus x o.y }

-- 5: the modified sum, without what came itself, goes back by light. 6: it goes up the last column
abbrev pub groups_before : Sums → ℕ
groups_before o = minus o.z o.a

abbrev pub take_before : Sums → ℕ → Sums
take_before o x = record { r = o.r; c = o.c; a = o.a; y = o.y; z = x }

-- 7: the column sum is added, and the cell's own row sum is taken off again. 8: that goes along the rows
abbrev pub row_before : Sums → ℕ
row_before o = minus (plus o.z o.c) o.r

abbrev pub take_row : Sums → ℕ → Sums
take_row o x = record { r = o.r; c = o.r; a = o.a; y = o.y; z = x }

-- 9: each cell adds its row sum
abbrev pub unload_sums : Sums → ℕ
unload_sums o = plus o.r (row_before o)

abbrev pub prefix_sum : ℕ → List (Stage Sums ℕ)
prefix_sum s =
    from Right (λ o. o.r) add_row 0 (s - 1) ∷
    from Down (λ o. o.c) add_column 0 (s - 1) ∷
    light 1 (λ o. o.c) take_group ∷
    from Right (λ o. o.y) add_groups 0 (s - 1) ∷
    from Down (λ o. o.z) add_group_rows 0 (s - 1) ∷
    from Left rows_above take_above (s - 1) (s - 1) ∷
    light 1 groups_before take_before ∷
    from Up (λ o. o.z) take_before (s - 1) (s - 1) ∷
    from Left row_before take_row (s - 1) (s - 1) ∷ []

-- what it makes of a state of words
abbrev pub prefixed : ℕ → State ℕ → State ℕ
prefixed s σ c d a b = unload_sums (made s (prefix_sum s) (λ c d a b. load_sums (σ c d a b)) c d a b)
