-- `mesh::run_all` meets its contract: group after group.
use mathlib.Core.Path.{refl}
use native.Mathlib.Omega.{arith}
use Prim.Native.Nat.{◌+◌, ◌*◌, ◌≤◌}
use mathlib.Core.Path.{◌≡◌}
use native.Mathlib.Nat.{zero-mul, suc-mul}
use borrow.Author.Rules.{rules}
use Rattle.laws.proofs.Bools.{passed}
use Rattle.array.specs.Cells.{groups}
use Rattle.slots.proofs.Boards.{lanes_known}
use Rattle.mesh.proofs.Ruling.{known, strided}
use Rattle.mesh.proofs.Groups.{ranged_start, ranged_step, ranged_few, ranged_end, part_fits, moving_few}
use Rattle.mesh.proofs.Legs.{no_counts}
use Rattle.mesh.proofs.run_all.Goals as goal

pub loop-g-init : goal.loop-g-init
loop-g-init c =
    let k = lanes_known c.args.leg.side c.args.lanes.now (passed c.fit.ensures c.if-not-fit.false) in
    record { same = search rules; long = rw c.board_rule-by.ensures k.long; ranged = rw zero-mul (ranged_start _ _ (no_counts 8)) }

pub run_part-requires-clause-roomy : goal.run_part-requires-clause-roomy
run_part-requires-clause-roomy c =
    let by = c.board_rule-by.result in
    let i = c.loop-g.invariant in
    let f = part_fits (groups by.rule.side) c.loop-g.g _ (moving_few by.rule c.moving_groups-g-end.ensures c.loop-g-test.true) refl in
    let few : c.loop-g.g * groups by.rule.side ≤ 4096 = omega (arith, f, (known by).cells_few) in
    record { room = λ d h. omega (arith, ranged_few few i.ranged d h) }

pub run_part-requires-clause-within : goal.run_part-requires-clause-within
run_part-requires-clause-within c =
    let t = c.board_rule-by.result.rule in
    part_fits (groups t.side) c.loop-g.g _ (moving_few t c.moving_groups-g-end.ensures c.loop-g-test.true) refl

pub loop-g-preserved : goal.loop-g-preserved
loop-g-preserved c =
    let by = c.board_rule-by.result in
    let n = groups by.rule.side in
    let g = c.loop-g.g in
    let i = c.loop-g.invariant in
    let y = c.run_part.ensures in
    let e : (g + 1) * n ≡ g * n + n = omega (arith, suc-mul g n) in
    let few = moving_few by.rule c.moving_groups-g-end.ensures c.loop-g-test.true in
    record {
      same = search rules;
      long = omega (arith, i.long, y.front, y.spare);
      ranged = rw e (ranged_step (known by).least (strided by) few i.ranged refl y.ran);
    }

pub returns-clause-ran : goal.returns-clause-ran
returns-clause-ran c =
    let by = c.board_rule-by.result in
    ranged_end (passed c.fit.ensures c.if-not-fit.false) c.board_rule-by.ensures (known by).least by.stride c.moving_groups-g-end.ensures
    c.loop-g-test.false c.loop-g.invariant.ranged
