-- Broadcast and data sum as programs of the machine.
use Rattle.std.specs.Prelude.{ℕ, ◌-◌, List, [], ◌∷◌, ◌++◌}
use Rattle.array.specs.declared.moves.Way.TheVariants.{Right, Left, Up, Down}
use Rattle.array.specs.Cells.{group, place, row, column}
use Rattle.lanes.specs.Machine.{Stage}
use Rattle.sums.specs.Sums.{plus}
use Rattle.lanes.specs.Stages.{from, light, word, copy}

-- Broadcast: the word of row a and column b reaches its whole group; so does, after a swap, that of the source's group in each group.
abbrev pub spread : ℕ → ℕ → ℕ → List (Stage ℕ ℕ)
spread s a b =
    from Left word copy b b ∷ from Right word copy b (s - 1 - b) ∷ from Up word copy a a ∷ from Down word copy a (s - 1 - a) ∷ []

abbrev pub broadcast : ℕ → ℕ → List (Stage ℕ ℕ)
broadcast s i =
    spread s (row s (place s i)) (column s (place s i)) ++ (light 1 word copy ∷ spread s (row s (group s i)) (column s (group s i)))

-- Data sum: to the end of each row and back, down the columns and back; the same after a swap.
abbrev pub group_sum : ℕ → List (Stage ℕ ℕ)
group_sum s =
    from Right word plus 0 (s - 1) ∷ from Left word copy (s - 1) (s - 1) ∷ from Down word plus 0 (s - 1) ∷ from Up word copy (s - 1) (s - 1) ∷ []

abbrev pub data_sum : ℕ → List (Stage ℕ ℕ)
data_sum s = group_sum s ++ (light 1 word copy ∷ group_sum s)
