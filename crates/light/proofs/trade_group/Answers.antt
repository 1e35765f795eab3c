-- `light::trade_group` meets its contract: with its part of the link list at side 8, and else with none.
use Rattle.light.proofs.Partners.{listed_links}
use Rattle.light.proofs.trade_group.Goals as goal

pub trade_places-requires-clause-listed : goal.trade_places-requires-clause-listed
trade_places-requires-clause-listed c =
    listed_links c.args.side c.args.g _ c.if-side-eq8.true c.requires.in_range c.links_of.ensures
