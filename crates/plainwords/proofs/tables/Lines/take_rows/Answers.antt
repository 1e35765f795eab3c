-- `plainwords::tables::Lines::take_rows` meets its contract: row after row.
use Rattle.std.proofs.Common.{◌≡◌, refl, arith}
use Rattle.plainwords.proofs.Rows.{rows_next}
use Rattle.plainwords.proofs.tables.Lines.take_rows.Goals as goal

pub loop-p-preserved : goal.loop-p-preserved
loop-p-preserved c = rows_next (omega arith) (omega arith) (λ j u. refl) c.loop-p.invariant c.copy_eight.ensures

pub returns : goal.returns
returns c = let e : c.loop-p.p ≡ c.args.self.side = omega arith in rw e at c.loop-p.invariant
