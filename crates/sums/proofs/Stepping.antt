-- A lane that is stepped on cell by cell, with the words of another.
use Rattle.std.proofs.Common.{◌≡◌, ℕ, ◌<◌, ◌≤◌, List, length, get_or, eq-eqb, ne_eqb}
use native.Mathlib.Decide.{ℕ_discrete}
use Rattle.laws.proofs.Tables.{entries-all}
use Rattle.sums.specs.Sums.{combined_words}

-- the cells below i made their step, and the others hold what they held
pub record Stepping (R : ℕ → ℕ → ℕ → Type 0) (old from l : List ℕ) (i : ℕ) : Type 0 where
  pub done : (k : ℕ) → k < i → R (get_or old k 0) (get_or from k 0) (get_or l k 0)
  pub left : (k : ℕ) → i ≤ k → get_or l k 0 ≡ get_or old k 0

-- a lane whose cells all made a step that is op
pub stepped : (op : ℕ → ℕ → ℕ) (old from l : List ℕ) → length l ≡ length old
    → ((length old ≡ length from → ⊥) → l ≡ old)
    → (length old ≡ length from → (i : ℕ) → i < length old → get_or l i 0 ≡ op (get_or old i 0) (get_or from i 0))
    → l ≡ combined_words op old from
stepped op old from l n other each = go (ℕ_discrete (length old) (length from))
  where
    go : Dec (length old ≡ length from) → l ≡ combined_words op old from
    go (yes e) = rw (eq-eqb _ _ e) (entries-all (λ i. op (get_or old i 0) (get_or from i 0)) (length old) 0 l n (each e))
    go (no d) = rw (ne_eqb _ _ d) (other d)
