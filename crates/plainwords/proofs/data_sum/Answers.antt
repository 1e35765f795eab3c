-- `plainwords::data_sum` meets its contract: the side passed its check, so the counts are those of its list.
use Rattle.std.proofs.Common.{ℕ, ◌%◌, ◌^◌, length, replicate, arith, ap, refl, sym, ◌∙◌}
use Rattle.answers.proofs.Entering.{entry_accepted}
use Rattle.answers.specs.Answers.{accepted_by}
use Rattle.laws.specs.Sums.{sum_of}
use Rattle.lists.specs.Lists.{data_sum_runs}
use Rattle.words.proofs.Counts.{data_sum_counts}
use Rattle.plainwords.proofs.Counts.{side_passed, side_stands, allowed, whole}
use Rattle.plainwords.proofs.data_sum.Goals as goal

pub overflow_sub-result : goal.overflow_sub-result
overflow_sub-result c = (side_passed c.args.side (length c.args.words.now) c.check_words.ensures c.in_ok-check_words.was).least

pub overflow_mul-result : goal.overflow_mul-result
overflow_mul-result c =
    let side = side_passed c.args.side (length c.args.words.now) c.check_words.ensures c.in_ok-check_words.was in omega (arith, side)

pub returns : goal.returns
returns c =
    let a = c.args in
    let n = length a.words.now in
    let e = allowed a.side n c.check_words.ensures c.in_ok-check_words.was (accepted_by (data_sum_runs a.side)) in
    let built = side_stands a.side n c.check_words.ensures c.in_ok-check_words.was in
    let filled = c.fill.ensures.after (λ y e. e) ∙ ap (replicate n) c.total-sum.ensures
    ∙ ap (λ (k : ℕ). replicate k (sum_of k a.words.now % 2 ^ 32)) (whole a.side n c.check_words.ensures c.in_ok-check_words.was) in
    entry_accepted (sym (data_sum_counts a.side built) ∙ sym e) refl filled tt
