-- `marks::check_marks` meets its contract: where the greatest mark is 0 or 1 no mark is bad, and else the first bad one is found.
use Rattle.std.proofs.Common.{sym, ◌∙◌, arith}
use Rattle.marks.proofs.Checked.{found_judged, none_judged, good_judged}
use Rattle.marks.proofs.check_marks.Goals as goal

pub returns-then-greatest_mark-lt2 : goal.returns-then-greatest_mark-lt2
returns-then-greatest_mark-lt2 c = good_judged c.args.marks.now (λ k h. omega (arith, c.greatest_mark.ensures k h))

pub returns-in-Some : goal.returns-in-Some
returns-in-Some c = found_judged c.args.marks.now (sym c.first_bad.ensures ∙ c.in-Some.is)

pub returns-in-None : goal.returns-in-None
returns-in-None c = none_judged c.args.marks.now (sym c.first_bad.ensures ∙ c.in-None.is)
