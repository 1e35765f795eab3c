-- The numbers of each table of cases do not fall, so the first case that applies is the lowest number (`answers` proofs/Lowest.antt `lowest_given`).
use Prim.Native.Nat.{ℕ}
use mathlib.Core.Path.{◌≡◌, refl}
use mathlib.Core.Bool.{true}
use mathlib.Core.List.{List}
use lib.IntN.{ℤ}
use Rattle.runs.specs.declared.Run.{Run}
use Rattle.shiftlists.specs.declared.Axis.{Axis}
use Rattle.shiftlists.specs.declared.Edge.{Edge}
use Rattle.answers.proofs.Lowest.{ascending}
use Rattle.words.specs.Entries.{broadcast_cases, sum_cases, shift_cases}

pub broadcast_ascends : (s i n log : ℕ) → ascending (broadcast_cases s i n log) ≡ true
broadcast_ascends s i n log = refl

pub sum_ascends : (s : ℕ) (list : List Run) (n log : ℕ) → ascending (sum_cases s list n log) ≡ true
sum_ascends s list n log = refl

pub shift_ascends : (s : ℕ) (axis : Axis) (edge : Edge) (k : ℤ) (n log : ℕ) → ascending (shift_cases s axis edge k n log) ≡ true
shift_ascends s axis edge k n log = refl
