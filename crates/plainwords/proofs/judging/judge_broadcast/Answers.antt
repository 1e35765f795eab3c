-- `plainwords::judging::judge_broadcast` meets its contract: the side passed its check, so the counts fit.
use Rattle.std.proofs.Common.{arith}
use Rattle.plainwords.proofs.Counts.{side_passed}
use Rattle.plainwords.proofs.judging.judge_broadcast.Goals as goal

pub overflow_sub-result : goal.overflow_sub-result
overflow_sub-result c = (side_passed c.args.side c.args.length c.check_words.ensures c.in_ok-check_words.was).least

pub overflow_mul-result : goal.overflow_mul-result
overflow_mul-result c = let side = side_passed c.args.side c.args.length c.check_words.ensures c.in_ok-check_words.was in omega (arith, side)
