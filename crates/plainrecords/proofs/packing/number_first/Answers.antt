-- `plainrecords::packing::number_first` meets its contract: the first cells, and the others.
use Rattle.std.proofs.Common.{◌≤◌, ◌++◌, length, drop, arith, length-append, length-take-le}
use Rattle.plainrecords.proofs.Parts.{filled-front, zeroed_behind}
use Rattle.plainrecords.proofs.packing.number_first.Goals as goal

pub returns : goal.returns
returns c =
    let n = c.args.count in
    let l = c.args.aims.now in
    let y = c.number_all.new.aims in
    let many = c.number_all.auto.aims in
    let inside : n ≤ length (y ++ drop n l) = omega (arith, length-append y (drop n l), many, length-take-le n l c.requires.count_in_bounds) in
    filled-front n l c.requires.count_in_bounds (λ i. i) y many c.number_all.ensures
    (zeroed_behind n (y ++ drop n l) inside (c.fill.ensures.after (λ y e. e)))
