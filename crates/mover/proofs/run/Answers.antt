-- `mover::run` meets its contract: run after run.
use native.Mathlib.Omega.{arith}
use borrow.Author.Rules.{rules}
use Rattle.laws.proofs.Bools.{passed}
use Rattle.array.specs.declared.moves.Move.TheVariants.{Swap}
use Rattle.slots.proofs.Boards.{lanes_known}
use Rattle.mover.proofs.Running.{running_next, running-end, run_few, run_went, run_counts}
use Rattle.mover.proofs.run.Goals as goal

pub log_run-requires-clause-few_went : goal.log_run-requires-clause-few_went
log_run-requires-clause-few_went c =
    let k = lanes_known c.args.side c.args.lanes.now (passed c.fit.ensures c.if-not-fit.false) in
    let y = c.make_run-tally.ensures.made in
    (run_went k.side y, omega (arith, run_few k.side y, c.loop-run.invariant.running.upto))

pub log_run-requires-clause-few_counts : goal.log_run-requires-clause-few_counts
log_run-requires-clause-few_counts c =
    let k = lanes_known c.args.side c.args.lanes.now (passed c.fit.ensures c.if-not-fit.false) in
    run_counts k.side c.make_run-tally.ensures.made

pub loop-run-preserved : goal.loop-run-preserved
loop-run-preserved c =
    let k = lanes_known c.args.side c.args.lanes.now (passed c.fit.ensures c.if-not-fit.false) in
    let i = c.loop-run.invariant in
    let y = c.make_run-tally.ensures in
    record {
      same = search rules;
      long = omega (arith, i.long, y.same);
      running = running_next c.args.runs (record { step = Swap; times = 0 }) k.side (search rules) y.made c.log_run.ensures i.running;
    }

pub returns-clause-ran : goal.returns-clause-ran
returns-clause-ran c = running-end _ (passed c.fit.ensures c.if-not-fit.false) (search rules) c.loop-run.invariant.running
