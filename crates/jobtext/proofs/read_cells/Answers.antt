-- `jobtext::read_cells` meets its contract: line after line, each a marked cell.
use Rattle.std.proofs.Common.{rules, of_calls, arith, ◌∙◌, sym}
use Rattle.std.proofs.lemmas.Fn.{always_returns_same}
use Rattle.std.proofs.lemmas.Option.{MatchOption-at_some}
use Rattle.std.proofs.lemmas.Result.{err_from_is_err_and}
use Rattle.laws.proofs.Numbers.{fourth_grows}
use Rattle.laws.proofs.Powers.{fourth_power}
use Rattle.answers.proofs.Judging.{none_refused}
use Rattle.texts.proofs.Pieces.{piece_parted, piece_unended}
use Rattle.jobtext.proofs.Cells.{cells_begin, cells_end, cells_unended, cells_malformed, cell_inside, cells_next}
use Rattle.jobtext.proofs.read_cells.Goals as goal

pub pow-cells-requires : goal.pow-cells-requires
pow-cells-requires c = omega (arith, fourth_power c.args.side, fourth_grows {a = c.args.side} c.requires)

pub loop-piece-init : goal.loop-piece-init
loop-piece-init c =
    let k = cells_begin c.args.text.now c.args.side c.args.words.now c.args.marks.now c.requires in
    (search (rules, of_calls), tt, search (rules, k))

pub overflow_add-refusal : goal.overflow_add-refusal
overflow_add-refusal c = let k = c.loop-piece.invariant.2 in record { fits = omega (arith, k.few, k.low) }

pub returns-in_err-line : goal.returns-in_err-line
returns-in_err-line c =
    let h = always_returns_same _ _ _ (λ a r f k. search rules) in
    let none = c.in_err-line.ensures.ok_part in
    let cut = MatchOption-at_some _ _ _ c.in-Some.is c.next.ensures.steps in
    let u = piece_unended _ _ _ cut h none c.strip_suffix.ensures.cases in
    let p = err_from_is_err_and c.from_residual.result c.from_residual.ensures.1 in
    cells_unended c.loop-piece.invariant.2 (λ k. omega (arith, cut.2)) u (none_refused p.1 p.2 c.in_err-line.ensures.value none)

pub returns-in_err-cell : goal.returns-in_err-cell
returns-in_err-cell c =
    let told = rw (c.pow-cells.ensures, fourth_power c.args.side) at c.read_mark.ensures in
    let h = always_returns_same _ _ _ (λ a r f k. search rules) in
    let cut = MatchOption-at_some _ _ _ c.in-Some.is c.next.ensures.steps in
    let q = piece_parted _ _ _ cut h c.in_ok-line.ensures.ok_part c.strip_suffix.ensures.cases in
    let none = c.in_err-cell.ensures.ok_part in
    let p = err_from_is_err_and c.from_residual-in_err-cell.result c.from_residual-in_err-cell.ensures.1 in
    cells_malformed c.loop-piece.invariant.2 q (sym none ∙ told) (none_refused p.1 p.2 c.in_err-cell.ensures.value none)

pub offset_bounds-words-cell : goal.offset_bounds-words-cell
offset_bounds-words-cell c =
    let told = rw (c.pow-cells.ensures, fourth_power c.args.side) at c.read_mark.ensures in
    omega (arith, cell_inside c.loop-piece.invariant.2 _ _ (sym c.in_ok-cell.ensures.ok_part ∙ told))

pub bounds-words-cell : goal.bounds-words-cell
bounds-words-cell c =
    let told = rw (c.pow-cells.ensures, fourth_power c.args.side) at c.read_mark.ensures in
    cell_inside c.loop-piece.invariant.2 _ _ (sym c.in_ok-cell.ensures.ok_part ∙ told)

pub bounds-marks-cell : goal.bounds-marks-cell
bounds-marks-cell c =
    let told = rw (c.pow-cells.ensures, fourth_power c.args.side) at c.read_mark.ensures in
    cell_inside c.loop-piece.invariant.2 _ _ (sym c.in_ok-cell.ensures.ok_part ∙ told)

pub overflow_add-next : goal.overflow_add-next
overflow_add-next c =
    let told = rw (c.pow-cells.ensures, fourth_power c.args.side) at c.read_mark.ensures in
    omega (arith, cell_inside c.loop-piece.invariant.2 _ _ (sym c.in_ok-cell.ensures.ok_part ∙ told))

pub loop-piece-preserved : goal.loop-piece-preserved
loop-piece-preserved c =
    let told = rw (c.pow-cells.ensures, fourth_power c.args.side) at c.read_mark.ensures in
    let h = always_returns_same _ _ _ (λ a r f k. search rules) in
    let cut = MatchOption-at_some _ _ _ c.in-Some.is c.next.ensures.steps in
    let q = piece_parted _ _ _ cut h c.in_ok-line.ensures.ok_part c.strip_suffix.ensures.cases in
    (search (rules, of_calls), tt, cells_next c.loop-piece.invariant.2 q _ (sym c.in_ok-cell.ensures.ok_part ∙ told))

pub returns : goal.returns
returns c = cells_end c.loop-piece.invariant.2 (search rules)
