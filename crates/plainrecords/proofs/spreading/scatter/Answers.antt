-- `plainrecords::spreading::scatter` meets its contract: record after record, the last one first, until one stays.
use Rattle.std.proofs.Common.{◌∙◌, sym}
use Rattle.plainrecords.proofs.Scattering.{spreading_next, spreading_end}
use Rattle.plainrecords.proofs.spreading.scatter.Goals as goal

pub loop-r-preserved : goal.loop-r-preserved
loop-r-preserved c = spreading_next c.requires c.loop-r-test.true c.loop-r.invariant c.from-to.ensures

pub returns-then-to-r : goal.returns-then-to-r
returns-then-to-r c =
    let z = spreading_end c.requires c.loop-r-test.true c.loop-r.invariant (sym c.from-to.ensures ∙ c.if-to-r.true) in
    record { words = z.0; marks = z.1.0; aims = z.1.1 }
