-- `records::run` meets its contract: a refusal changes nothing; else the codes are written and the moves made.
use Rattle.std.proofs.Common.{◌≡◌, Err, refl, rules}
use native.Mathlib.Omega.{arith}
use lib.ListN.{length}
use Rattle.lists.specs.Lists.{runs_of}
use Rattle.lists.proofs.Counts.{total_on_board}
use Rattle.answers.proofs.Entering.{entry_refused, entry_accepted, logged}
use Rattle.answers.proofs.Judging.{refusal_numbered}
use Rattle.refusals.specs.Cases.{sizes_in}
use Rattle.refusals.proofs.Verdicting.{full_known, full_framed}
use Rattle.records.proofs.Performing.{fitting_sized, counts_written}
use Rattle.records.proofs.run.Goals as goal

pub returns-in_err-moves-clause-run : goal.returns-in_err-moves-clause-run
returns-in_err-moves-clause-run c =
    let a = c.args in
    let same : c.from_residual.result ≡ Err c.in_err-moves.field-0.0 = search rules in
    let e = rw c.in_err-moves.was at (full_framed c.new.ensures a.trip _ _ c.judge_full.ensures) in
    entry_refused (rw same e) (refusal_numbered same) (refl, (refl, refl))

pub perform-requires : goal.perform-requires
perform-requires c =
    let a = c.args in
    let l = a.lanes.now in
    let t = l.front.now in
    let e = rw c.in_ok-moves.was at (full_framed c.new.ensures a.trip _ _ c.judge_full.ensures) in
    let k = full_known a.trip a.side (sizes_in t l.spare.now) t.marks.now t.aims.now (length a.codes.now) (length a.moved.now) e refl in
    record { side_value = k.fits.side; long = fitting_sized k.fits; moves_bound = omega (arith, total_on_board a.side _ k.fits.side c.total_moves.ensures); good = k.good }

pub returns-clause-run : goal.returns-clause-run
returns-clause-run c =
    let a = c.args in
    let l = a.lanes.now in
    let t = l.front.now in
    let e = rw c.in_ok-moves.was at (full_framed c.new.ensures a.trip _ _ c.judge_full.ensures) in
    let k = full_known a.trip a.side (sizes_in t l.spare.now) t.marks.now t.aims.now (length a.codes.now) (length a.moved.now) e refl in
    let made = rw (total_on_board a.side _ k.fits.side c.total_moves.ensures) at c.perform.ensures.performed in
    let codes = logged (runs_of a.trip a.side) a.codes.now k.codes_room c.runs_of.ensures c.write_codes.ensures in
    entry_accepted e refl made.0 (codes, counts_written a.trip a.side t.marks.now t.aims.now a.moved.now k.moved_room made.1)
