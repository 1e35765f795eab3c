-- What a cell's registers hold after every single move of a program, and what it hands on in every move.
use Rattle.std.specs.Prelude.{ℕ, ◌-◌, ◌^◌, ◌<◌, cond, List, [], ◌∷◌, ltb}
use Rattle.std.proofs.Math.Option.{Option, none, some}
use Rattle.lanes.specs.Machine.{State, Stage, ran, all}

-- a number that is a word
abbrev pub IsWord : ℕ → Type 0
IsWord x = x < 2 ^ 32

-- the state after the first k moves of a program; after all of them where it has fewer
abbrev pub after_moves : {R A : Type 0} → ℕ → List (Stage R A) → ℕ → State R → State R
after_moves s [] k σ = σ
after_moves s (t ∷ ts) k σ = cond (ltb k t.run.times) (ran s t k σ) (after_moves s ts (k - t.run.times) (all s t σ))

-- what each cell hands on in the move after these; nothing where there is none
abbrev pub handed_on : {R A : Type 0} → ℕ → List (Stage R A) → ℕ → State R → State (Option A)
handed_on s [] k σ c d a b = none
handed_on s (t ∷ ts) k σ c d a b =
    cond (ltb k t.run.times) (some (t.send (ran s t k σ c d a b))) (handed_on s ts (k - t.run.times) (all s t σ) c d a b)

-- P holds of it, where there is one
abbrev pub IfAny : {A : Type 0} → (A → Type 0) → Option A → Type 0
IfAny P none = Unit {0}
IfAny P (some x) = P x

-- a program made on σ: after every single move Good holds of every cell's registers, and in every move Fit of what it hands on
pub record Registers {R A : Type 0} (Good : R → Type 0) (Fit : A → Type 0) (s : ℕ) (ts : List (Stage R A)) (σ : State R) : Type 0 where
  pub after : (k c d a b : ℕ) → Good (after_moves s ts k σ c d a b)
  pub handed : (k c d a b : ℕ) → IfAny Fit (handed_on s ts k σ c d a b)
