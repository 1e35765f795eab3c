-- `spreads::spread_all` meets its contract: two spreads and the swap between them; the coordinates of a cell are inside the side.
use Rattle.lanes.proofs.Coordinates.{c_in, d_in}
use Rattle.spreads.proofs.Composing.{spread-all-moves}
use Rattle.spreads.proofs.spread_all.Goals as goal

pub spread-requires-2 : goal.spread-requires-2
spread-requires-2 c = (c_in _ _ c.requires.0 c.requires.2, d_in _ _ c.requires.0 c.requires.2)

pub returns : goal.returns
returns c = spread-all-moves _ _ c.spread.ensures c.swap_words.ensures c.spread-2.ensures
