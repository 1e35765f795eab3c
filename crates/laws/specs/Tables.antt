-- Lists given by a rule for their entries.
use Rattle.std.specs.Prelude.{ℕ, zero, suc, List, [], ◌∷◌}

-- the n entries f i, f (i + 1), ..
abbrev pub entries : {A : Type 0} → (ℕ → A) → ℕ → ℕ → List A
entries f i zero = []
entries f i (suc n) = f i ∷ entries f (suc i) n
