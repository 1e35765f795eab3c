-- `mesh::lines::goes` meets its contract: a mark, and a cell to go.
use mathlib.Core.Path.{sym}
use Rattle.mesh.proofs.Ruling.{goes_by, leaves_none}
use Rattle.mesh.proofs.lines.goes.Goals as goal

pub returns-then-mark-eq0 : goal.returns-then-mark-eq0
returns-then-mark-eq0 c = λ word. sym (leaves_none c.args.by.rule c.args.p (record { word = word; mark = c.args.mark; aim = c.args.aim }) c.if-mark-eq0.true)

pub returns : goal.returns
returns c =
    λ word. goes_by c.args.by c.args.p word c.args.mark c.args.aim c.if-mark-eq0.false c.digit.ensures.digit c.distance.ensures c.gone.ensures
