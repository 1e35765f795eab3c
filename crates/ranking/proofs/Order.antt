-- The numbers of the table of cases do not fall, so the first case that applies is the lowest number (`answers` proofs/Lowest.antt `lowest_given`).
use Prim.Native.Nat.{ℕ}
use mathlib.Core.Path.{◌≡◌, refl}
use mathlib.Core.Bool.{true}
use mathlib.Core.List.{List}
use Rattle.answers.proofs.Lowest.{ascending}
use Rattle.ranking.specs.Entries.{rank_cases}

pub rank_ascends : (s : ℕ) (marks : List ℕ) (aims log : ℕ) → ascending (rank_cases s marks aims log) ≡ true
rank_ascends s marks aims log = refl
