-- `captures::walk::is_first` meets its contract: it is compared with the first that is left, if one is.
use mathlib.Core.Path.{◌∙◌}
use Rattle.captures.proofs.Telling.{first_is}
use Rattle.captures.proofs.walk.is_first.Goals as goal

pub returns : goal.returns
returns c = c.eq.ensures ∙ first_is c.args.held c.args.records.now c.args.seen _ c.get.ensures
