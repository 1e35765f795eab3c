-- `clearing::keep` meets its contract: cell after cell, by its mark.
use Rattle.std.proofs.Common.{arith, eq-eqb}
use Rattle.laws.proofs.Rewriting.{rewriting_end}
use Rattle.clearing.proofs.keep.Goals as goal

pub returns : goal.returns
returns g c = rw (eq-eqb _ _ c.if-marks-lane.false) (rewriting_end _ _ _ (omega arith) c.loop-i.invariant)
