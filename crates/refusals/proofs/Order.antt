-- The numbers of each table of cases do not fall, so the first case that applies is the lowest number (`answers` proofs/Lowest.antt `lowest_given`).
use Prim.Native.Nat.{ℕ}
use mathlib.Core.Path.{◌≡◌, refl}
use mathlib.Core.Bool.{true}
use mathlib.Core.List.{List}
use Rattle.answers.proofs.Lowest.{ascending}
use Rattle.lists.specs.declared.Trip.{Trip}
use Rattle.refusals.specs.declared.Sizes.{Sizes}
use Rattle.refusals.specs.Cases.{full_cases, cut_cases}

pub full_ascends : (trip : Trip) (s : ℕ) (n : Sizes) (marks aims : List ℕ) (codes moved : ℕ) → ascending (full_cases trip s n marks aims codes moved) ≡ true
full_ascends trip s n marks aims codes moved = refl

pub cut_ascends : (trip : Trip) (s cut : ℕ) (n : Sizes) (marks aims : List ℕ) → ascending (cut_cases trip s cut n marks aims) ≡ true
cut_ascends trip s cut n marks aims = refl
