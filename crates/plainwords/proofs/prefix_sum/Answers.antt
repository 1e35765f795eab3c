-- `plainwords::prefix_sum` meets its contract: the side passed its check, so its list has both swaps.
use Rattle.std.proofs.Common.{◌≡◌, ℕ, suc, ◌-◌, ◌*◌, ◌%◌, ◌^◌, length, ap, arith, refl, sym, ◌∙◌}
use Rattle.answers.proofs.Entering.{entry_accepted}
use Rattle.answers.specs.Answers.{accepted, accepted_by}
use Rattle.laws.specs.Sums.{sum_of}
use Rattle.laws.specs.Tables.{entries}
use Rattle.lists.specs.Lists.{prefix_sum_runs}
use Rattle.words.proofs.Counts.{prefix_sum_counts}
use Rattle.plainwords.proofs.Counts.{listed, side_stands, allowed, whole}
use Rattle.plainwords.proofs.prefix_sum.Goals as goal

pub overflow_sub-result : goal.overflow_sub-result
overflow_sub-result c =
    let total = listed c.args.side (length c.args.words.now) c.check_words.ensures c.in_ok-check_words.was c.total_moves.ensures in
    omega (arith, total)

pub returns : goal.returns
returns c =
    let a = c.args in
    let n = length a.words.now in
    let e = allowed a.side n c.check_words.ensures c.in_ok-check_words.was (accepted_by (prefix_sum_runs a.side)) in
    let built = side_stands a.side n c.check_words.ensures c.in_ok-check_words.was in
    let total = listed a.side n c.check_words.ensures c.in_ok-check_words.was c.total_moves.ensures in
    let made : accepted (c.total_moves.result - 2) 2 ≡ accepted (7 * (a.side - 1)) 2 = ap (λ (n : ℕ). accepted n 2) (omega (arith, total)) in
    let summed = c.add_up.ensures
    ∙ ap (entries (λ i. sum_of (suc i) a.words.now % 2 ^ 32) 0) (whole a.side n c.check_words.ensures c.in_ok-check_words.was) in
    entry_accepted (made ∙ sym (prefix_sum_counts a.side built) ∙ sym e) refl summed tt
