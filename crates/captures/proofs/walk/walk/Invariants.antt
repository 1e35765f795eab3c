-- `captures::walk::walk` meets its contract: line after line.
use Prim.Native.Nat.{suc}
use Rattle.captures.proofs.Walking.{Walking}
use Rattle.captures.proofs.walk.walk.Given as goal

abbrev pub invariant-loop-i : goal.invariant-loop-i
invariant-loop-i l = Walking l.start l.capture l.i-iterator.iter.rest.now (suc l.i-iterator.count) l.tally l.records
