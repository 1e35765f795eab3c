-- `jobs::settle` meets its contract: concentrate behind rank, and neither refuses.
use Rattle.std.proofs.Common.{rules, refl}
use Rattle.jobs.proofs.Settled.{rank_accepted, concentrate_accepted, settled}
use Rattle.jobs.proofs.settle.Goals as goal

pub unwrap-requires : goal.unwrap-requires
unwrap-requires c = rank_accepted c.requires _ _ c.rank.ensures (search rules)

pub unwrap-requires-2 : goal.unwrap-requires-2
unwrap-requires-2 c = concentrate_accepted c.requires _ _ c.rank.ensures (search rules) _ _ c.run.ensures.run (search rules)

pub returns-clause-settled : goal.returns-clause-settled
returns-clause-settled c =
    settled c.requires _ _ c.rank.ensures (search rules) _ _ c.run.ensures.run (search rules) c.run.new.lanes.front.now.words.now (λ i. refl) (search rules)
