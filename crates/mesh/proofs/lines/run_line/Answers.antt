-- `mesh::lines::run_line` meets its contract: a line that nothing leaves stays, and any other is taken, put down and laid back.
use mathlib.Core.Path.{refl, sym, ◌∙◌}
use borrow.Author.Tests.{not-true, not-false}
use borrow.Author.Rules.{rules}
use Rattle.slots.specs.Cells.{nothing, empty}
use Rattle.mesh.proofs.Ruling.{known}
use Rattle.mesh.proofs.Laying.{ran_moved, ran_still}
use Rattle.mesh.proofs.lines.run_line.Goals as goal

pub returns-then-line_goes-clause-ran : goal.returns-then-line_goes-clause-ran
returns-then-line_goes-clause-ran c =
    ran_moved c.take_slots-fronts.result c.take_slots-spares.result _ _ (known c.args.by).most
    (not-true _ (sym c.line_goes.ensures ∙ c.if-line_goes.true))
    c.take_slots-fronts.ensures c.take_slots-spares.ensures c.put_line-line.ensures
    (λ p h. let made = c.map.ensures.items.at p empty nothing h in search rules)
    (λ p h. let made = c.map-then-line_goes.ensures.items.at p empty nothing h in search rules)
    c.lay_slots.ensures.laid c.lay_slots-then-line_goes.ensures.laid refl refl

pub returns-else-line_goes-clause-ran : goal.returns-else-line_goes-clause-ran
returns-else-line_goes-clause-ran c = ran_still (not-false _ (sym c.line_goes.ensures ∙ c.if-line_goes.false)) refl
