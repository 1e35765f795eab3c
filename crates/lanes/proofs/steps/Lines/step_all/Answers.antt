-- `lanes::steps::Lines::step_all` meets its contract: group by group.
use Rattle.std.proofs.Common.{◌∙◌, arith}
use Rattle.laws.proofs.Blocks.{changed_next, block_in, block_size}
use Rattle.lanes.proofs.Stepping.{step_moved}
use Rattle.lanes.proofs.steps.Lines.step_all.Goals as goal

pub slice_bounds-step-end : goal.slice_bounds-step-end
slice_bounds-step-end c = omega (arith, block_in _ c.requires.whole c.loop-g-test.true c.loop-g.invariant)

pub loop-g-preserved : goal.loop-g-preserved
loop-g-preserved c =
    let long = c.step.auto.part ∙ block_size _ c.requires.whole c.loop-g-test.true c.loop-g.invariant in
    changed_next _ c.requires.whole c.loop-g-test.true c.loop-g.invariant _ long c.step.ensures

pub returns : goal.returns
returns c = step_moved c.args.self.side c.args.self.way c.args.rule _ _ _ (omega arith) c.loop-g.invariant
