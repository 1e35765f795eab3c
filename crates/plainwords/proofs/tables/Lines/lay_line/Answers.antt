-- `plainwords::tables::Lines::lay_line` meets its contract: position after position.
use Rattle.std.proofs.Common.{◌≡◌, ◌<◌, ap, arith}
use Rattle.std.proofs.Common.{length-take}
use lib.Seq.{get_or-take}
use lib.ListN.{get_or}
use Rattle.plainwords.proofs.Shifting.{laid_more}
use Rattle.plainwords.proofs.tables.Lines.lay_line.Goals as goal

pub loop-p-preserved : goal.loop-p-preserved
loop-p-preserved c =
    let from = c.args.self.from.now in
    let inside : c.loop-p.p < c.args.self.side = omega (arith, length-take c.args.self.side from) in
    laid_more _ c.requires.on (c.requires.inside c.loop-p.p inside) (ap (λ q. get_or c.args.line.now q 0) (get_or-take c.args.self.side from c.loop-p.p 0 inside)) c.loop-p.invariant

pub returns : goal.returns
returns c =
    let e : c.loop-p.p ≡ c.args.self.side = omega (arith, length-take c.args.self.side c.args.self.from.now, c.args.self.names.long) in
    rw e at c.loop-p.invariant
