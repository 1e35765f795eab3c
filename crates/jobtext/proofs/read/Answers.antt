-- `jobtext::read` meets its contract: the first line, the side, and the lines after it.
use Rattle.std.proofs.Common.{◌∙◌, sym}
use Rattle.std.proofs.lemmas.Option.{MatchOption-at_some, MatchOption-at_none}
use Rattle.std.proofs.lemmas.Result.{err_from_is_err_and}
use Rattle.answers.proofs.Judging.{none_refused}
use Rattle.jobtext.proofs.Whole.{side_refused, side_passed, side_small, read_too_long, read_unended, read_no_side, read_bad_side, read_ready, read_refused}
use Rattle.jobtext.proofs.read.Goals as goal

pub returns-then-text-gt65536 : goal.returns-then-text-gt65536
returns-then-text-gt65536 c = search read_too_long

pub returns-in_err-first : goal.returns-in_err-first
returns-in_err-first c =
    let none = c.in_err-first.ensures.ok_part in
    let p = err_from_is_err_and c.from_residual.result c.from_residual.ensures.1 in
    read_unended _ _ _ c.if-text-gt65536.false (MatchOption-at_none _ _ none c.split_once.ensures) (none_refused p.1 p.2 c.in_err-first.ensures.value none)

pub returns-in_err-side : goal.returns-in_err-side
returns-in_err-side c =
    let parted = MatchOption-at_some _ _ _ c.in_ok-first.ensures.ok_part c.split_once.ensures in
    let none = c.in_err-side.ensures.ok_part in
    let p = err_from_is_err_and c.from_residual-in_err-side.result c.from_residual-in_err-side.ensures.1 in
    read_no_side _ _ _ c.if-text-gt65536.false parted (sym none ∙ c.read_side.ensures) (none_refused p.1 p.2 c.in_err-side.ensures.value none)

pub returns-in_err-check_side : goal.returns-in_err-check_side
returns-in_err-check_side c =
    let parted = MatchOption-at_some _ _ _ c.in_ok-first.ensures.ok_part c.split_once.ensures in
    let refused = side_refused c.in_ok-side.field-0 c.check_side.ensures c.in_err-check_side.was in
    let p = err_from_is_err_and c.from_residual-in_err-check_side.result c.from_residual-in_err-check_side.ensures.1 in
    read_bad_side _ _ _ c.if-text-gt65536.false parted _ (sym c.in_ok-side.ensures.ok_part ∙ c.read_side.ensures) refused.0 (rw (p.1, p.2, refused.1))

pub read_cells-requires : goal.read_cells-requires
read_cells-requires c = side_small (side_passed c.in_ok-side.field-0 c.check_side.ensures c.in_ok-check_side.was)

pub returns-in_err-job : goal.returns-in_err-job
returns-in_err-job c =
    let parted = MatchOption-at_some _ _ _ c.in_ok-first.ensures.ok_part c.split_once.ensures in
    let side = side_passed c.in_ok-side.field-0 c.check_side.ensures c.in_ok-check_side.was in
    let p = err_from_is_err_and c.from_residual-in_err-job.result c.from_residual-in_err-job.ensures.1 in
    read_refused _ _ _ c.if-text-gt65536.false parted _ (sym c.in_ok-side.ensures.ok_part ∙ c.read_side.ensures) side
    _ _ _ c.read_cells.ensures c.in_err-job.was (rw (p.1, p.2))

pub returns : goal.returns
returns c =
    let parted = MatchOption-at_some _ _ _ c.in_ok-first.ensures.ok_part c.split_once.ensures in
    let side = side_passed c.in_ok-side.field-0 c.check_side.ensures c.in_ok-check_side.was in
    read_ready _ _ _ c.if-text-gt65536.false parted _ (sym c.in_ok-side.ensures.ok_part ∙ c.read_side.ensures) side
    _ _ _ c.read_cells.ensures _ c.in_ok-job.was
