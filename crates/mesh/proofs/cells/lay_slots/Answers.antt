-- `mesh::cells::lay_slots` meets its contract: cell after cell of the line.
use Prim.Native.Nat.{◌+◌, ◌*◌}
use mathlib.Core.Path.{◌≡◌, ◌∙◌}
use lib.ListN.{length}
use lib.Seq.{length-take-le, get_or-take}
use Rattle.slots.specs.Cells.{nothing}
use native.Mathlib.Omega.{arith}
use borrow.Author.Rules.{rules}
use Rattle.slots.proofs.Stored.{rec_stored}
use Rattle.mesh.proofs.Ruling.{known}
use Rattle.mesh.proofs.Slots.{laid_step}
use Rattle.mesh.proofs.cells.lay_slots.Goals as goal

pub loop-p-preserved : goal.loop-p-preserved
loop-p-preserved c =
    let l = c.loop-p in
    let i = l.invariant in
    let at = c.requires.lies.inside c.loop-p.p (search rules) in
    let k = c.args.start + l.p * c.args.by.rule.stride in
    record {
      same = search rules;
      laid = laid_step c.args.by.stride (search rules)
          (λ j. rec_stored l.slots.words.now l.slots.marks.now l.slots.aims.now k _ j (search rules) (search rules) (search rules)) i.laid;
    }

pub returns-clause-laid : goal.returns-clause-laid
returns-clause-laid c =
    let l = c.loop-p in
    let n = c.args.by.rule.side in
    let eight : length c.args.line ≡ 8 = search rules in
    let e : l.p ≡ n = omega (arith, length-take-le n c.args.line, (known c.args.by).most, l.auto.p-end, c.loop-p-test.false) in
    let i = rw e at l.invariant.laid in
    record { made = λ p h. i.made p h ∙ get_or-take n c.args.line p nothing h; kept = i.kept }
