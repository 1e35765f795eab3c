-- `plainrecords::spreading::scatter` meets its contract: record after record, the last one first, until one stays.
use Rattle.plainrecords.proofs.Scattering.{Spreading}
use Rattle.plainrecords.proofs.spreading.scatter.Given as goal

abbrev pub invariant-loop-r : goal.invariant-loop-r
invariant-loop-r l = Spreading l.count l.initial.words l.initial.marks l.initial.aims l.words l.marks l.aims l.r
