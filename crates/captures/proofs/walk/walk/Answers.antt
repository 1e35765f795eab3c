-- `captures::walk::walk` meets its contract: line after line.
use Rattle.std.proofs.Common.{◌∙◌, sym, rules, arith}
use Rattle.std.proofs.lemmas.Result.{err_from_is_err_and}
use Rattle.std.proofs.lemmas.List.Sorted.{answers_always}
use Rattle.texts.proofs.Pieces.{piece_parted, piece_unended}
use Rattle.answers.proofs.Judging.{none_refused}
use Rattle.captures.proofs.Walking.{walking_end, walking_unended, walking_bad, walking_made, walking_next}
use Rattle.captures.proofs.walk.walk.Goals as goal

pub returns-in_err-text : goal.returns-in_err-text
returns-in_err-text c =
    let step = c.in-Some.ensures.steps in
    let none = c.in_err-text.ensures.ok_part in
    let p = err_from_is_err_and c.from_residual.result c.from_residual.ensures.1 in
    let e = none_refused p.1 p.2 c.in_err-text.ensures.value none in
    let unended = piece_unended _ _ _ step.0 (answers_always _ _ _ (λ f a r h k. search rules)) none c.strip_suffix.ensures.cases in
    walking_unended c.loop-i.invariant step.0.2 unended (omega (arith, step.1)) e

pub returns-in_err-next : goal.returns-in_err-next
returns-in_err-next c =
    let step = c.in-Some.ensures.steps in
    let some = c.in_ok-text.ensures.ok_part in
    let parted = piece_parted _ _ _ step.0 (answers_always _ _ _ (λ f a r h k. search rules)) some c.strip_suffix.ensures.cases in
    let none = c.in_err-next.ensures.ok_part in
    let p = err_from_is_err_and c.from_residual-in_err-next.result c.from_residual-in_err-next.ensures.1 in
    let e = none_refused p.1 p.2 c.in_err-next.ensures.value none in
    walking_bad c.loop-i.invariant parted (sym none ∙ rw c.numbers_in.ensures at c.tallied.ensures) (omega (arith, step.1)) e

pub expected-requires : goal.expected-requires
expected-requires c =
    let step = c.in-Some.ensures.steps in
    let some = c.in_ok-text.ensures.ok_part in
    let parted = piece_parted _ _ _ step.0 (answers_always _ _ _ (λ f a r h k. search rules)) some c.strip_suffix.ensures.cases in
    let made = walking_made c.loop-i.invariant parted (sym c.in_ok-next.ensures.ok_part ∙ rw c.numbers_in.ensures at c.tallied.ensures) in
    record { more = made.0; few = made.1; listed = c.loop-i.invariant.listed }

pub loop-i-preserved : goal.loop-i-preserved
loop-i-preserved c =
    let step = c.in-Some.ensures.steps in
    let some = c.in_ok-text.ensures.ok_part in
    let parted = piece_parted _ _ _ step.0 (answers_always _ _ _ (λ f a r h k. search rules)) some c.strip_suffix.ensures.cases in
    let next = sym c.in_ok-next.ensures.ok_part ∙ rw c.numbers_in.ensures at c.tallied.ensures in
    walking_next c.loop-i.invariant parted next (omega (arith, step.2)) c.expected.ensures

pub returns : goal.returns
returns c = walking_end c.loop-i.invariant c.in-None.ensures.steps.0.0 (rw c.len.ensures at c.ended.ensures)
