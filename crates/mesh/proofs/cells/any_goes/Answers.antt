-- `mesh::cells::any_goes` meets its contract: `any` over the cells of the line.
use Rattle.std.proofs.Common.{◌≡◌, true, false, refl, arith, rules, tests}
use Rattle.std.proofs.lemmas.Iterator.{cases_from_any, YieldsList-from_range}
use Rattle.slots.specs.Lanes.{records_in}
use Rattle.mesh.specs.Lines.{leaves}
use Rattle.mesh.specs.Inside.{line_at}
use Rattle.mesh.proofs.Slots.{leaves_any}
use Rattle.mesh.proofs.cells.any_goes.Goals as goal

pub returns : goal.returns
returns c =
    let t = c.args.by.rule in
    let S = line_at t c.args.start (records_in c.args.slots.now) in
    leaves_any t S t.side _
    (cases_from_any _ _ _ (λ p. leaves t p (S p) ≡ true) (λ p. leaves t p (S p) ≡ false) c.any.ensures.ran
    (YieldsList-from_range 0 t.side t.side refl (omega arith))
    (λ p b k. search (rules, tests)) (λ p b k. search (rules, tests)))
