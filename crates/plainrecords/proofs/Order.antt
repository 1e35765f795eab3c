-- The numbers of each table of cases do not fall, so the first case that applies is the lowest number (`answers` proofs/Lowest.antt `lowest_given`).
use Prim.Native.Nat.{ℕ}
use mathlib.Core.Path.{◌≡◌, refl}
use mathlib.Core.Bool.{true}
use mathlib.Core.List.{List}
use Rattle.answers.specs.Answers.{without_logs}
use Rattle.answers.proofs.Lowest.{ascending}
use Rattle.lists.specs.declared.Trip.{Trip}
use Rattle.ranking.specs.Entries.{rank_cases}
use Rattle.refusals.specs.declared.Sizes.{Sizes}
use Rattle.refusals.specs.Cases.{full_cases}

pub plain-rank_ascends : (s : ℕ) (marks : List ℕ) (aims : ℕ) → ascending (without_logs (rank_cases s marks aims 0)) ≡ true
plain-rank_ascends s marks aims = refl

pub plain_run_ascends : (trip : Trip) (s : ℕ) (n : Sizes) (marks aims : List ℕ) → ascending (without_logs (full_cases trip s n marks aims 0 0)) ≡ true
plain_run_ascends trip s n marks aims = refl
