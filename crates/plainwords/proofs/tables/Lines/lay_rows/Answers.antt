-- `plainwords::tables::Lines::lay_rows` meets its contract: row after row, each from where the table says.
use Rattle.std.proofs.Common.{◌≡◌, ◌<◌, ◌+◌, ◌*◌, refl, ap, arith}
use Rattle.std.proofs.Common.{length-take}
use lib.Seq.{get_or-take}
use lib.ListN.{get_or}
use Rattle.plainwords.proofs.Rows.{rows_next}
use Rattle.plainwords.proofs.tables.Lines.lay_rows.Goals as goal

pub loop-p-preserved : goal.loop-p-preserved
loop-p-preserved c =
    let from = c.args.self.from.now in
    let inside : c.loop-p.p < c.args.self.side = omega (arith, length-take c.args.self.side from) in
    let named = get_or-take c.args.self.side from c.loop-p.p 0 inside in
    rows_next c.requires.on refl (λ j u. ap (λ q. get_or c.args.rows.now (q * 8 + j) 0) named) c.loop-p.invariant c.copy_eight.ensures

pub returns : goal.returns
returns c =
    let e : c.loop-p.p ≡ c.args.self.side = omega (arith, length-take c.args.self.side c.args.self.from.now, c.args.self.names.long) in
    rw e at c.loop-p.invariant
