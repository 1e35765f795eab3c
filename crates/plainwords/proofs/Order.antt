-- The numbers of each table of cases do not fall, so the first case that applies is the lowest number (`answers` proofs/Lowest.antt `lowest_given`).
use Rattle.std.proofs.Common.{◌≡◌, ℕ, true, List, ℤ, refl}
use Rattle.runs.specs.declared.Run.{Run}
use Rattle.shiftlists.specs.declared.Axis.{Axis}
use Rattle.shiftlists.specs.declared.Edge.{Edge}
use Rattle.answers.specs.Answers.{without_logs}
use Rattle.answers.proofs.Lowest.{ascending}
use Rattle.words.specs.Entries.{broadcast_cases, sum_cases, shift_cases}

pub plain-broadcast_ascends : (s i n : ℕ) → ascending (without_logs (broadcast_cases s i n 0)) ≡ true
plain-broadcast_ascends s i n = refl

pub plain-sum_ascends : (s : ℕ) (list : List Run) (n : ℕ) → ascending (without_logs (sum_cases s list n 0)) ≡ true
plain-sum_ascends s list n = refl

pub plain-shift_ascends : (s : ℕ) (axis : Axis) (edge : Edge) (k : ℤ) (n : ℕ) → ascending (without_logs (shift_cases s axis edge k n 0)) ≡ true
plain-shift_ascends s axis edge k n = refl
