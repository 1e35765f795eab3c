-- The parts of the link list, one a group.
use Prim.Native.Nat.{ℕ, zero, suc, min, ◌*◌, ◌≤◌}
use mathlib.Core.Path.{◌≡◌, ap, sym}
use mathlib.Core.Logic.{⊎_elim}
use mathlib.Core.List.{List}
use native.Mathlib.Omega.{arith}
use Rattle.laws.specs.Tables.{entries}
use Rattle.laws.proofs.Deciding.{same?}
use Rattle.links.specs.Links.{entry_of}

-- the part of group g, and of what is past the last group
abbrev pub part : ℕ → List ℕ
part g = entries entry_of (64 * min g 63) 64

pub picked : (k : ℕ) {g : ℕ} → g ≡ k → part k ≡ part g
picked k e = ap part (sym e)

-- a number is none of those below k
abbrev NoneBelow : ℕ → ℕ → Type 0
NoneBelow zero g = Unit {0}
NoneBelow (suc k) g = NoneBelow k g × (g ≡ k → ⊥)

none_below : (k g : ℕ) → NoneBelow k g → k ≤ g
none_below zero g h = omega arith
none_below (suc k) g h = ⊎_elim (λ e. absurd (h.1 e)) (λ d. omega (arith, d, none_below k g h.0)) (same? g k)

pub past : (g : ℕ) → NoneBelow 63 g → part 63 ≡ part g
past g h = let e : min g 63 ≡ 63 = omega (arith, none_below 63 g h) in ap (λ (n : ℕ). entries entry_of (64 * n) 64) (sym e)
