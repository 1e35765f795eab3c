-- What is known of a distance that is within the side.
use Prim.Native.Nat.{ℕ, ◌<◌}
use mathlib.Core.Path.{◌≡◌}
use mathlib.Core.Bool.{true}
use lib.Dec.{ltb}
use borrow.Author.Tests.{ltb-true}
use Rattle.laws.proofs.Bools.{both_left, both_right}
use Rattle.shiftlists.specs.declared.Distance.{Distance}
use Rattle.shiftlists.specs.Shifts.{within}

pub record WithinSide (s : ℕ) (k : Distance) : Type 0 where
  pub forth : k.forth < s
  pub back : k.back < s

pub within_known : (s : ℕ) (k : Distance) → within s k ≡ true → WithinSide s k
within_known s k h = record {
  forth = ltb-true k.forth s (both_left (ltb k.forth s) (ltb k.back s) h);
  back = ltb-true k.back s (both_right (ltb k.forth s) (ltb k.back s) h);
}
