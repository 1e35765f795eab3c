-- `clearing::clear` meets its contract: cell after cell.
use Rattle.std.proofs.Common.{arith}
use Rattle.laws.proofs.Rewriting.{rewriting_end}
use Rattle.clearing.proofs.clear.Goals as goal

pub returns : goal.returns
returns g c = rewriting_end _ _ _ (omega arith) c.loop-own.invariant
