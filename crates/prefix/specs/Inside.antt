-- What the parts of the prefix sum do to its lanes, step by step. A reader of the public contract does not need it.
use Rattle.std.specs.Prelude.{ℕ, ◌-◌, List}
use Rattle.array.specs.declared.moves.Way.{Way}
use Rattle.array.specs.declared.moves.Way.TheVariants.{Right, Left, Up, Down}
use Rattle.lanes.specs.Machine.{State, all}
use Rattle.sums.specs.Sums.{plus, minus}
use Rattle.lanes.specs.Stages.{from, word, copy}
use Rattle.lanes.specs.Inside.{Lane, swapped_state}

-- runs over whole lines: sums from the first position on, copies from the last one back
abbrev pub summed : ℕ → Way → State ℕ → State ℕ
summed s w σ = all s (from w word plus 0 (s - 1)) σ

abbrev pub copied : ℕ → Way → State ℕ → State ℕ
copied s w σ = all s (from w word copy (s - 1) (s - 1)) σ

-- Steps 1 and 2: the row sums in r, their column sums in c.
pub record RowsAndColumns (s : ℕ) (r r' c' : List ℕ) : Type 0 where
  pub rows : (R : State ℕ) → Lane s r R → Lane s r' (summed s Right R)
  pub columns : (R : State ℕ) → Lane s r R → Lane s c' (summed s Down (summed s Right R))

-- step 3 and the sums of step 4: y are the row sums of what came by light, z their column sums
pub record GroupSums (s : ℕ) (c y' z' : List ℕ) : Type 0 where
  pub rows : (C : State ℕ) → Lane s c C → Lane s y' (summed s Right (swapped_state C))
  pub columns : (C : State ℕ) → Lane s c C → Lane s z' (summed s Down (summed s Right (swapped_state C)))

-- the rest of step 4, and step 5: the modified sums, sent back by light; A is what came
abbrev pub modified : ℕ → State ℕ → State ℕ → State ℕ → State ℕ
modified s A Y Z = swapped_state (λ c d a b. minus (plus (copied s Left (λ c d a b. minus (Z c d a b) (Y c d a b)) c d a b) (Y c d a b)) (A c d a b))

pub record Modified (s : ℕ) (c y z z' : List ℕ) : Type 0 where
  pub so : (C Y Z : State ℕ) → Lane s c C → Lane s y Y → Lane s z Z → Lane s z' (modified s (swapped_state C) Y Z)

-- steps 6 to 9: up the last column, the column sum on and the row sum off, along the rows, and the row sum on
abbrev pub finished : ℕ → State ℕ → State ℕ → State ℕ → State ℕ
finished s R C M c d a b =
    plus (R c d a b) (copied s Left (λ c d a b. minus (plus (copied s Up M c d a b) (C c d a b)) (R c d a b)) c d a b)

pub record Finished (s : ℕ) (r c z r' : List ℕ) : Type 0 where
  pub so : (R C M : State ℕ) → Lane s r R → Lane s c C → Lane s z M → Lane s r' (finished s R C M)
