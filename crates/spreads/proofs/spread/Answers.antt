-- `spreads::spread` meets its contract: four runs, one after the other.
use Rattle.spreads.proofs.Composing.{spread-moves}
use Rattle.spreads.proofs.spread.Goals as goal

pub returns : goal.returns
returns c =
    spread-moves _ _ _ c.requires.0 c.requires.1 c.run.ensures c.run-2.ensures c.run-3.ensures c.run-4.ensures
