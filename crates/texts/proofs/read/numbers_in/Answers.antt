-- `texts::read::numbers_in` meets its contract: the fields that are taken are all, or a fifth stands behind them.
use Rattle.std.proofs.Common.{rules, ◌∙◌, eqb}
use Rattle.std.proofs.lemmas.Iterator.Splits.{YieldsList-from_slice_split}
use Rattle.texts.specs.Lines.{fields_of}
use Rattle.texts.proofs.Fields.{in_one, in_two, in_three, in_four, in_five}
use Rattle.texts.proofs.read.numbers_in.Goals as goal

pub returns-in_err-second : goal.returns-in_err-second
unfolding fields_of
returns-in_err-second c =
    let split = c.split-fields.ensures in
    c.from_residual-in_err-second.ensures ∙ in_one c.args.line.now
    (YieldsList-from_slice_split {s = c.split-fields.result} _ (λ b. eqb b 9) _ split.rest split.done split.closure (λ x r q k. search rules))
    c.in_ok-first.first c.next.new.self c.in_ok-first.ensures.steps
    _ c.in_err-second.ensures.steps

pub returns-in_default : goal.returns-in_default
unfolding fields_of
returns-in_default c =
    let split = c.split-fields.ensures in
    in_two c.args.line.now
    (YieldsList-from_slice_split {s = c.split-fields.result} _ (λ b. eqb b 9) _ split.rest split.done split.closure (λ x r q k. search rules))
    c.in_ok-first.first c.next.new.self c.in_ok-first.ensures.steps
    c.in_ok-second.second c.next-2.new.self c.in_ok-second.ensures.steps
    _ c.in_default.ensures.steps _ c.two_of.ensures

pub returns-in_err-fourth : goal.returns-in_err-fourth
unfolding fields_of
returns-in_err-fourth c =
    let split = c.split-fields.ensures in
    c.from_residual-in_err-fourth.ensures ∙ in_three c.args.line.now
    (YieldsList-from_slice_split {s = c.split-fields.result} _ (λ b. eqb b 9) _ split.rest split.done split.closure (λ x r q k. search rules))
    c.in_ok-first.first c.next.new.self c.in_ok-first.ensures.steps
    c.in_ok-second.second c.next-2.new.self c.in_ok-second.ensures.steps
    c.in-Some.third c.next-3.new.self c.in-Some.ensures.steps
    _ c.in_err-fourth.ensures.steps

pub returns-in-None : goal.returns-in-None
unfolding fields_of
returns-in-None c =
    let split = c.split-fields.ensures in
    in_four c.args.line.now
    (YieldsList-from_slice_split {s = c.split-fields.result} _ (λ b. eqb b 9) _ split.rest split.done split.closure (λ x r q k. search rules))
    c.in_ok-first.first c.next.new.self c.in_ok-first.ensures.steps
    c.in_ok-second.second c.next-2.new.self c.in_ok-second.ensures.steps
    c.in-Some.third c.next-3.new.self c.in-Some.ensures.steps
    c.in_ok-fourth.fourth c.next-4.new.self c.in_ok-fourth.ensures.steps
    _ c.in-None.ensures.steps _ c.four_of.ensures

pub returns-in-Some-next : goal.returns-in-Some-next
unfolding fields_of
returns-in-Some-next c =
    let split = c.split-fields.ensures in
    in_five c.args.line.now
    (YieldsList-from_slice_split {s = c.split-fields.result} _ (λ b. eqb b 9) _ split.rest split.done split.closure (λ x r q k. search rules))
    c.in_ok-first.first c.next.new.self c.in_ok-first.ensures.steps
    c.in_ok-second.second c.next-2.new.self c.in_ok-second.ensures.steps
    c.in-Some.third c.next-3.new.self c.in-Some.ensures.steps
    c.in_ok-fourth.fourth c.next-4.new.self c.in_ok-fourth.ensures.steps
    c.in-Some-next.field-0 c.next-5.new.self c.in-Some-next.ensures.steps
