-- The starred bench cases of the scope: what each begins with.
use Rattle.std.specs.Prelude.{ℕ, ◌+◌, List, [], ◌∷◌, ℤ, pos, replicate}
use Rattle.laws.specs.Tables.{entries}
use Rattle.shiftlists.specs.declared.Axis.{Axis}
use Rattle.shiftlists.specs.declared.Axis.TheVariants.{MeshRow, GroupColumn}
use Rattle.shiftlists.specs.declared.Edge.{Edge}
use Rattle.shiftlists.specs.declared.Edge.TheVariants.{ZeroFill, Circular}

-- an operation, the side and what it is given; concentrate's aims come from rank
pub data StarCase : Type 0 where
  Concentrate : (side : ℕ) → (words marks : List ℕ) → StarCase
  Distribute : (side : ℕ) → (words marks aims : List ℕ) → StarCase
  PrefixSum : (side : ℕ) → (words : List ℕ) → StarCase
  DataSum : (side : ℕ) → (words : List ℕ) → StarCase
  Shift : (side : ℕ) → Axis → Edge → (k : ℤ) → (words : List ℕ) → StarCase

-- word 100 + I in cell I, of side 2; unmarked cells hold one as well
abbrev pub hundreds : List ℕ
hundreds = entries (λ i. 100 + i) 0 16

-- word I in cell I, of side 2
abbrev pub indexes : List ℕ
indexes = entries (λ i. i) 0 16

abbrev pub cases : List StarCase
cases =
    -- Side 1, one cell marked
    Concentrate 1 (100 ∷ []) (1 ∷ []) ∷
    -- Side 2, marks at 0, 4, 5
    Concentrate 2 hundreds (1 ∷ 0 ∷ 0 ∷ 0 ∷ 1 ∷ 1 ∷ replicate 10 0) ∷
    -- The job of the scope: words 70, 71, 72 in cells 1, 6, 11
    Concentrate 2
    (0 ∷ 70 ∷ 0 ∷ 0 ∷ 0 ∷ 0 ∷ 71 ∷ 0 ∷ 0 ∷ 0 ∷ 0 ∷ 72 ∷ 0 ∷ 0 ∷ 0 ∷ 0 ∷ [])
    (0 ∷ 1 ∷ 0 ∷ 0 ∷ 0 ∷ 0 ∷ 1 ∷ 0 ∷ 0 ∷ 0 ∷ 0 ∷ 1 ∷ 0 ∷ 0 ∷ 0 ∷ 0 ∷ []) ∷
    -- Distribute, side 2, cells 0, 1, 2 aimed at 1, 6, 11
    Distribute 2 hundreds (1 ∷ 1 ∷ 1 ∷ replicate 13 0) (1 ∷ 6 ∷ 11 ∷ replicate 13 0) ∷
    -- Side 2, all 16 marked
    Concentrate 2 hundreds (replicate 16 1) ∷
    -- Side 2, none marked
    Concentrate 2 hundreds (replicate 16 0) ∷
    -- Side 2, words 4294967295, 2, then 0: prefix sums, and data sum
    PrefixSum 2 (4294967295 ∷ 2 ∷ replicate 14 0) ∷
    DataSum 2 (4294967295 ∷ 2 ∷ replicate 14 0) ∷
    -- Side 2, word I in cell I: mesh row shift by 1, zero fill
    Shift 2 MeshRow ZeroFill (pos 1) indexes ∷
    -- The same words, group column circular shift by 1
    Shift 2 GroupColumn Circular (pos 1) indexes ∷ []
