-- `texts::read::number_of` meets its contract: at least one digit, and a 0 stands first only alone.
use Rattle.std.proofs.Common.{◌∙◌, arith, inl, inr}
use Rattle.texts.proofs.Reading.{number_none, number_zero, number_digits}
use Rattle.texts.proofs.read.number_of.Goals as goal

pub returns-in_err-first : goal.returns-in_err-first
returns-in_err-first c = c.from_residual.ensures ∙ number_none _ (omega (arith, c.in_err-first.ensures.item))

pub returns-then-field-gt1 : goal.returns-then-field-gt1
returns-then-field-gt1 c = number_zero _ c.if-field-gt1.true (omega (arith, c.in_ok-first.ensures.item.4 (omega arith) 0))

pub returns : goal.returns
returns c =
    let first = c.in_ok-first.ensures.item.4 (omega arith) 0 in
    c.digits_from.ensures
    ∙ number_digits _ (omega (arith, c.in_ok-first.ensures.item)) (λ long zero. elim c.else-first-eq48.either [ inl short ↦ omega arith | inr other ↦ other (first ∙ zero) ])
