-- `sums::subtract` meets its contract: each cell made the step of the closure, and the other lane's words are below 2 ^ 32.
use Rattle.std.proofs.Common.{◌≡◌, ◌+◌, ◌-◌, ◌%◌, ◌^◌, get_or, rules, arith}
use Rattle.sums.specs.Sums.{minus}
use Rattle.sums.proofs.Stepping.{stepped}
use Rattle.sums.proofs.subtract.Goals as goal

pub returns : goal.returns
returns c =
    stepped minus _ _ _ c.combine.auto.to c.combine.ensures.other
    (λ e i h.
    let made = c.combine.ensures.each e i h in
    let is : get_or c.combine.new.to i 0 ≡ (get_or c.args.to.now i 0 + (2 ^ 32 - get_or c.args.from.now i 0)) % 2 ^ 32 = search rules in
    let fits = (c.type_inv.from i).fits in
    omega (arith, fits, is))
