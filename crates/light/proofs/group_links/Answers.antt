-- `light::group_links` meets its contract: the part is the group's own.
use Rattle.light.proofs.Partners.{listed_links}
use Rattle.light.proofs.group_links.Goals as goal

pub returns-then-side-eq8 : goal.returns-then-side-eq8
returns-then-side-eq8 c = listed_links c.args.side c.args.g _ c.if-side-eq8.true c.requires c.links_of.ensures
