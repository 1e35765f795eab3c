-- The checks as they are made, cell after cell and run after run.
use Prim.Native.Nat.{ℕ, zero, suc, ◌-◌, ◌≤◌, ◌<◌}
use mathlib.Core.Path.{◌≡◌, refl, ap, ◌∙◌}
use mathlib.Core.List.{List, ◌++◌}
use native.Mathlib.Omega.{arith}
use lib.Dec.{ltb}
use lib.ListN.{length, get_or, take, drop}
use Rattle.laws.proofs.Searching.{Searching}
use Rattle.runs.specs.declared.Run.{Run}
use Rattle.lists.specs.declared.Trip.{Trip}
use Rattle.lists.specs.declared.Trip.TheVariants.{Concentrate, Distribute}
use Rattle.marks.specs.Marks.{rank_in}
use Rattle.refusals.specs.Cases.{bad_in, bad_aim}
use Rattle.std.specs.Prelude.{Option, is_some, unwrap_or}
use Rattle.std.specs.Slice.Iter.{iter_rest}
use Rattle.std.specs.Iterator.Adapters.{enumerate_source, enumerate_count, zip_first, zip_second}
use Rattle.std.specs.declared.slice.Iter.{Iter}
use Rattle.std.specs.declared.iter.Zip.{Zip}
use Rattle.std.specs.declared.iter.Enumerate.{Enumerate}
use Rattle.refusals.specs.Cuts.{first_runs}

-- what is left of two lists that are walked side by side, and counted
pub record Counted (xs ys : List ℕ) (z : Enumerate (Zip (Iter ℕ) (Iter ℕ))) (i : ℕ) : Type 0 where
  pub first : iter_rest (zip_first (enumerate_source z)) ≡ drop i xs
  pub second : iter_rest (zip_second (enumerate_source z)) ≡ drop i ys
  pub count : enumerate_count z ≡ i

-- the cells below i are right
pub record Judging (trip : Trip) (s : ℕ) (marks aims : List ℕ) (rank : ℕ) (previous : Option ℕ) (i : ℕ) : Type 0 where
  pub rank_is : rank ≡ rank_in marks i
  pub few : rank ≤ i
  pub before : is_some previous ≡ ltb 0 i
  pub previous_is : 0 < i → unwrap_or previous 0 ≡ get_or aims (i - 1) 0
  pub searching : Searching (bad_aim trip s marks aims) (length marks) i

-- before the first cell the aim before it is not looked at
bad_same : (trip : Trip) (s i rank mark aim p q : ℕ) → (0 < i → p ≡ q) → bad_in trip s i rank mark aim p ≡ bad_in trip s i rank mark aim q
bad_same trip s zero rank mark aim p q h = go trip
  where
    go : (t : Trip) → bad_in t s 0 rank mark aim p ≡ bad_in t s 0 rank mark aim q
    go Concentrate = refl
    go Distribute = refl
bad_same trip s (suc i) rank mark aim p q h = ap (bad_in trip s (suc i) rank mark aim) (h (omega arith))

module _ {trip : Trip} {s : ℕ} {marks aims : List ℕ} {rank : ℕ} {previous : Option ℕ} {i : ℕ} (z : Judging trip s marks aims rank previous i) where
  judged : bad_in trip s i rank (get_or marks i 0) (get_or aims i 0) (unwrap_or previous 0) ≡ bad_aim trip s marks aims i
  judged =
      ap (λ (r : ℕ). bad_in trip s i r (get_or marks i 0) (get_or aims i 0) (unwrap_or previous 0)) z.rank_is
      ∙ bad_same trip s i (rank_in marks i) (get_or marks i 0) (get_or aims i 0) (unwrap_or previous 0) (get_or aims (i - 1) 0) z.previous_is

-- the first runs found so far, and the moves that remain for the others
pub record Cutting (cut : ℕ) (runs firsts : List Run) (remaining q : ℕ) : Type 0 where
  pub so_far : take q firsts ++ first_runs remaining (drop q firsts) ≡ first_runs cut runs
