-- The numbers of the table of cases do not fall, so the first case that applies is the lowest number (`answers` proofs/Lowest.antt `lowest_given`).
use Prim.Native.Nat.{ℕ}
use mathlib.Core.Path.{◌≡◌, refl}
use mathlib.Core.Bool.{true}
use Rattle.answers.proofs.Lowest.{ascending}
use Rattle.stretches.specs.Stretches.{group_cases}

pub group_ascends : (s g n : ℕ) → ascending (group_cases s g n) ≡ true
group_ascends s g n = refl
