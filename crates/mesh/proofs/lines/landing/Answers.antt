-- `mesh::lines::landing` meets its contract: all that a record goes is up the line, or all of it down.
use mathlib.Core.Path.{◌≡◌}
use mathlib.Core.Bool.{cond}
use borrow.Author.Tests.{lt-ltb, le-ltb}
use lib.Dec.{ltb}
use Rattle.mesh.proofs.Ruling.{known}
use Rattle.mesh.proofs.Walking.{ending_at}
use Rattle.mesh.proofs.Laying.{lands}
use Rattle.mesh.proofs.lines.landing.Goals as goal
use Rattle.mesh.proofs.lines.landing.Goals.{then-p-h, else-p-h}

pub returns : goal.returns
returns c =
    let a = c.args in
    let r = c.requires in
    let t = a.by.rule in
    let few = (known a.by).most in
    let up : c.if-p-h.up ≡ cond (ltb a.p a.h) c.gone-on.result 0 = elim c.if-p-h.branch [
      | then-p-h w ↦ rw (lt-ltb a.p a.h w.if-p-h.true) w.up-is
      | else-p-h w ↦ rw (le-ltb a.p a.h w.if-p-h.false) w.up-is
    ] in
    let e = ending_at t a.h a.p a.by.within c.distance-far.ensures c.gone-on.ensures r.0 r.1 up c.saturating_sub.ensures in
    lands few a.by.within r.0 r.1 c.distance-far.ensures c.gone-on.ensures c.min.ensures e
