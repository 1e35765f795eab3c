-- `plainwords::add_up` meets its contract: word after word, the sum carried on.
use Rattle.std.proofs.Common.{arith}
use Rattle.laws.proofs.Rewriting.{rewriting_end}
use Rattle.plainwords.proofs.add_up.Goals as goal

pub returns : goal.returns
returns c = rewriting_end _ _ _ (omega arith) c.loop-word.invariant.lane
