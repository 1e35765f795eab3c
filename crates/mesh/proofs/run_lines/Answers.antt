-- `mesh::run_lines` meets its contract: line after line.
use mathlib.Core.Path.{refl}
use native.Mathlib.Omega.{arith}
use borrow.Author.Rules.{rules}
use Rattle.mesh.proofs.Ruling.{known, strided}
use Rattle.mesh.proofs.Groups.{lined_step, lined_few, lined_end, line_lies}
use Rattle.mesh.proofs.run_lines.Goals as goal

pub run_line-requires-clause-lines : goal.run_line-requires-clause-lines
run_line-requires-clause-lines c =
    let k = known c.args.by in
    let z = c.loop-l.invariant.long in
    let y = line_lies c.args.by.rule k.least (strided c.args.by) k.groups_few c.loop-l.l c.loop-l-test.true in
    record {
      front = record { lies = rw (z.words, c.line_step-step.ensures) y; marks = omega (arith, z); aims = omega (arith, z) };
      spare = record { lies = rw (z.words2, c.line_step-step.ensures) y; marks = omega (arith, z); aims = omega (arith, z) };
    }

pub run_line-requires-clause-roomy : goal.run_line-requires-clause-roomy
run_line-requires-clause-roomy c =
    let y = c.loop-l.invariant.lined in
    let few = lined_few (known c.args.by).most y in
    record { room = λ d h. omega (arith, c.requires.roomy.room d h, few d h) }

pub loop-l-preserved : goal.loop-l-preserved
loop-l-preserved c =
    let l = c.loop-l in
    let y = c.run_line.ensures in
    record {
      same = search rules;
      long = omega (arith, l.invariant.long, y.same);
      lined = lined_step (known c.args.by).least c.args.by.stride (strided c.args.by) c.loop-l-test.true l.invariant.lined
          (rw c.line_step-step.ensures at y.ran) refl;
    }

pub returns-clause-ran : goal.returns-clause-ran
returns-clause-ran c = lined_end (known c.args.by).least (strided c.args.by) c.loop-l-test.false refl c.loop-l.invariant.lined
