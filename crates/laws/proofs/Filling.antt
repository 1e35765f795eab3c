-- A list that is filled entry by entry is the list of its rule's entries.
use Prim.Native.Nat.{ℕ, ◌<◌, ◌≤◌}
use mathlib.Core.Path.{◌≡◌}
use mathlib.Core.List.{List}
use native.Mathlib.Omega.{arith}
use lib.ListN.{length, get_or}
use Rattle.laws.specs.Tables.{entries}
use Rattle.laws.proofs.Tables.{entries-all}

-- of the n entries of ys the first q are those of the rule f
pub record Filled {A : Type 0} (f : ℕ → A) (d : A) (n : ℕ) (ys : List A) (q : ℕ) : Type 0 where
  pub same : length ys ≡ n
  pub done : (k : ℕ) → k < q → get_or ys k d ≡ f k

module _ {A : Type 0} (f : ℕ → A) (d : A) where
  pub filled-end : {n : ℕ} {ys : List A} {q : ℕ} → n ≤ q → Filled f d n ys q → ys ≡ entries f 0 n
  filled-end {n} {ys} h z = entries-all f n d ys z.same (λ k l. z.done k (omega arith))
