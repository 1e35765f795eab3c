-- `plainwords::axes::NearShift::sources` meets its contract: what each call of the closure gives.
use Rattle.std.proofs.Common.{ℕ, rules}
use Rattle.laws.proofs.Tables.{entries-all}
use Rattle.shifts.specs.Results.{came_from}
use Rattle.plainwords.specs.Inside.{entry_for}
use Rattle.plainwords.proofs.Placed.{entry_is}
use Rattle.plainwords.proofs.axes.NearShift.sources.Goals as goal

pub returns : goal.returns
returns c =
    let a = c.args.self in
    entries-all (λ (p : ℕ). entry_for (came_from a.edge a.side a.k p)) 8 0 c.from_fn.result c.from_fn.ensures.items.long
    (λ p h. let made = c.from_fn.ensures.items.at p 0 h in search (rules, entry_is))
