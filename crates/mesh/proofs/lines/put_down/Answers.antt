-- `mesh::lines::put_down` meets its contract: where there is a record, at its landing.
use borrow.Author.Rules.{rules}
use mathlib.Core.Path.{refl}
use Rattle.mesh.proofs.Ruling.{known}
use Rattle.mesh.proofs.Laying.{put_none, put_some, arrives_some}
use Rattle.mesh.proofs.lines.put_down.Goals as goal

pub returns-then-x-ne0 : goal.returns-then-x-ne0
returns-then-x-ne0 c =
    put_some (known c.args.by).most (search rules) (search rules)
    (arrives_some c.if-x-ne0.true c.digit.ensures.digit c.landing-far.ensures) refl c.joined.ensures

pub returns-else-x-ne0 : goal.returns-else-x-ne0
returns-else-x-ne0 c = put_none _ _ c.if-x-ne0.false
