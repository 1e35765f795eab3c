-- `plainrecords::packing::mark_first` meets its contract: the first cells, and the others.
use Rattle.std.proofs.Common.{ℕ, ◌≤◌, List, ◌++◌, length, get_or, drop, ap, ◌∙◌, arith, length-append, length-take-le}
use lib.ListN.{get_or-replicate}
use Rattle.plainrecords.proofs.Parts.{filled-front, zeroed_behind}
use Rattle.plainrecords.proofs.packing.mark_first.Goals as goal

pub returns : goal.returns
returns c =
    let n = c.args.count in
    let l = c.args.marks.now in
    let y = c.fill.new.self in
    let ones = c.fill.ensures.after (λ y e. e) in
    let many = c.fill.ensures.len in
    let inside : n ≤ length (y ++ drop n l) = omega (arith, length-append y (drop n l), many, length-take-le n l c.requires) in
    filled-front n l c.requires (λ i. 1) y many
    (λ k h. ap (λ (l : List ℕ). get_or l k 0) ones ∙ get_or-replicate _ k 1 0 (omega (arith, h, many)))
    (zeroed_behind n (y ++ drop n l) inside (c.fill-2.ensures.after (λ y e. e)))
