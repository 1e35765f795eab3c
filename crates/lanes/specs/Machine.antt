-- The machine of the word operations. A state gives the registers of each cell, by the row and the column of its group and its own row and
-- column. In a move every cell hands on one word, which it works out of its registers, and its registers become what a rule makes of its
-- place, the move's number, its own registers and the one word that it receives, if any. R stands for a cell's registers, A for what it hands on:
-- a number, in the operations on words. Registers.antt says what it is that these are words after every single move.
use Rattle.std.specs.Prelude.{ℕ, zero, suc, ◌+◌, ◌*◌, cond, List, [], ◌∷◌, map, get_or, ltb}
use Rattle.std.proofs.Math.Option.{Option, none, some}
use Rattle.laws.specs.Tables.{entries}
use Rattle.array.specs.declared.moves.Way.TheVariants.{Right, Left, Up, Down}
use Rattle.array.specs.declared.moves.Move.{Move}
use Rattle.array.specs.declared.moves.Move.TheVariants.{Swap, Electronic}
use Rattle.runs.specs.declared.Run.{Run}
use Rattle.array.specs.Cells.{cells, cell, group, place, row, column}

-- by group row c, group column d, row a and column b
abbrev pub State : Type 0 → Type 0
State R = ℕ → ℕ → ℕ → ℕ → R

-- what a cell makes of its place, its registers and the word that it receives
abbrev pub Rule : Type 0 → Type 0 → Type 0
Rule R A = ℕ → ℕ → ℕ → ℕ → R → Option A → R

-- what position p of a line receives when each cell hands on to the next, and to the one before; at the edge nothing
abbrev pub from_before : {A : Type 0} → (ℕ → A) → ℕ → Option A
from_before f zero = none
from_before f (suc p) = some (f p)

abbrev pub from_after : {A : Type 0} → ℕ → (ℕ → A) → ℕ → Option A
from_after s f p = cond (ltb (suc p) s) (some (f (suc p))) none

-- what each cell receives, of its neighbour or its partner
abbrev pub receive : {A : Type 0} → ℕ → Move → State A → State (Option A)
receive s Swap σ c d a b = some (σ a b c d)
receive s (Electronic Right) σ c d a b = from_before (λ j. σ c d a j) b
receive s (Electronic Left) σ c d a b = from_after s (λ j. σ c d a j) b
receive s (Electronic Down) σ c d a b = from_before (λ i. σ c d i b) a
receive s (Electronic Up) σ c d a b = from_after s (λ i. σ c d i b) a

-- one move: each cell hands on the word `send`
abbrev pub make : {R A : Type 0} → ℕ → Move → (R → A) → Rule R A → State R → State R
make s m send ρ σ c d a b = ρ c d a b (σ c d a b) (receive s m (λ c d a b. send (σ c d a b)) c d a b)

-- a stage of a program: a run of moves, the word that a cell hands on in it, and the rule of each of its moves
pub record Stage (R A : Type 0) : Type 0 where
  pub run : Run
  pub send : R → A
  pub rule : ℕ → Rule R A

-- the first k moves of a stage, and all of them
abbrev pub ran : {R A : Type 0} → ℕ → Stage R A → ℕ → State R → State R
ran s t zero σ = σ
ran s t (suc k) σ = make s t.run.step t.send (t.rule k) (ran s t k σ)

abbrev pub all : {R A : Type 0} → ℕ → Stage R A → State R → State R
all s t σ = ran s t t.run.times σ

-- a program, stage by stage, and the runs that it makes
abbrev pub made : {R A : Type 0} → ℕ → List (Stage R A) → State R → State R
made s [] σ = σ
made s (t ∷ ts) σ = made s ts (all s t σ)

abbrev pub stage_runs : {R A : Type 0} → List (Stage R A) → List Run
stage_runs ts = map (λ t. t.run) ts

-- the cell in row a and column b of the group in row c and column d
abbrev pub at : ℕ → ℕ → ℕ → ℕ → ℕ → ℕ
at s c d a b = cell s (c * s + d) (a * s + b)

-- a list of words as a state, and back
abbrev pub load : ℕ → List ℕ → State ℕ
load s l c d a b = get_or l (at s c d a b) 0

abbrev pub value_at : {A : Type 0} → ℕ → State A → ℕ → A
value_at s σ i = σ (row s (group s i)) (column s (group s i)) (row s (place s i)) (column s (place s i))

abbrev pub unload : ℕ → State ℕ → List ℕ
unload s σ = entries (value_at s σ) 0 (cells s)
