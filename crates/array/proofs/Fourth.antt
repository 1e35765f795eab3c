-- The number of cells as a power of the side.
use Prim.Native.Nat.{ℕ, ◌^◌, ◌<◌}
use mathlib.Core.Path.{◌≡◌, sym, ◌∙◌}
use mathlib.Core.Logic.{◌⊎◌, inl, inr}
use mathlib.Core.Bool.{Bool}
use lib.Dec.{eqb}
use borrow.Author.Tests.{eq-eqb, ne_eqb}
use Rattle.std.specs.Prelude.{Option, Some, None}
use Rattle.std.specs.Option.{SomeIff, option_eq}
use Rattle.laws.proofs.Deciding.{same?}
use Rattle.laws.proofs.Powers.{fourth_power}
use Rattle.array.specs.Cells.{cells}

-- a number of cells that fits is told as it is, and one that does not is no number of 64 bits
pub told_cells : (s n m : ℕ) (o : Option ℕ) {r : Bool} → n < m → SomeIff o (s ^ 4 < m) (s ^ 4) → r ≡ option_eq eqb o (Some n) → r ≡ eqb n (cells s)
told_cells s n m (Some x) h (u, e) f = f ∙ rw (e, fourth_power s) (turned (same? n (cells s)))
  where
    turned : (n ≡ cells s) ⊎ (n ≡ cells s → ⊥) → eqb (cells s) n ≡ eqb n (cells s)
    turned (inl i) = rw (eq-eqb n (cells s) i) (eq-eqb (cells s) n (sym i))
    turned (inr i) = rw (ne_eqb n (cells s) i) (ne_eqb (cells s) n (λ j. i (sym j)))
told_cells s n m None h u f = f ∙ sym (ne_eqb n (cells s) (λ e. u (rw (fourth_power s, ← e) h)))
