-- Stages of programs: runs in which a front goes along the lines, swaps, and what a cell does with a word.
use Rattle.std.specs.Prelude.{ℕ, suc, ◌+◌, ◌-◌, cond, eqb}
use Rattle.std.proofs.Math.Option.{Option, none, some}
use Rattle.array.specs.declared.moves.Way.{Way}
use Rattle.array.specs.Moves.{is_along_rows, is_forth}
use Rattle.runs.specs.Runs.{along, swapping}
use Rattle.lanes.specs.Machine.{Stage}

-- the position of the cell in row a and column b on the line that a way goes along
abbrev pub position : Way → ℕ → ℕ → ℕ
position w a b = cond (is_along_rows w) b a

-- the position k steps on from e
abbrev pub steps_on : Way → ℕ → ℕ → ℕ
steps_on w e k = cond (is_forth w) (e + k) (e - k)

-- a cell at position p when it is the turn of position q: it joins the word that it receives to what it has
unfoldable pub front : {R A : Type 0} → (R → A → R) → ℕ → ℕ → R → Option A → R
front op q p own none = own
front op q p own (some x) = cond (eqb p q) (op own x) own

-- n moves one way from position e: in each of them the next position joins what it receives
abbrev pub from : {R A : Type 0} → Way → (R → A) → (R → A → R) → ℕ → ℕ → Stage R A
from w send op e n = record { run = along w n; send = send; rule = λ k c d a b. front op (steps_on w e (suc k)) (position w a b) }

-- n swaps, in which every cell joins what it receives
abbrev pub taking : {R A : Type 0} → (R → A → R) → R → Option A → R
taking op own none = own
taking op own (some x) = op own x

abbrev pub light : {R A : Type 0} → ℕ → (R → A) → (R → A → R) → Stage R A
light n send op = record { run = swapping n; send = send; rule = λ k c d a b. taking op }

-- words that are handed on as they are, and taken as they come
abbrev pub word : ℕ → ℕ
word own = own

abbrev pub copy : ℕ → ℕ → ℕ
copy own x = x

-- what came, and 0 where nothing came
abbrev pub filled : Option ℕ → ℕ
filled none = 0
filled (some x) = x
