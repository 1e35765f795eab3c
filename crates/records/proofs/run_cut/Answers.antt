-- `records::run_cut` meets its contract: a refusal changes nothing; else the moves are made, with no log.
use Rattle.std.proofs.Common.{◌≡◌, Err, refl, rules}
use Rattle.answers.proofs.Entering.{entry_refused, entry_accepted}
use Rattle.answers.proofs.Judging.{refusal_numbered}
use Rattle.refusals.specs.Cases.{sizes_in}
use Rattle.refusals.proofs.Verdicting.{cut_known, cut_framed}
use Rattle.records.proofs.Performing.{fitting_sized}
use Rattle.records.proofs.run_cut.Goals as goal

pub returns-in_err-moves-clause-run : goal.returns-in_err-moves-clause-run
returns-in_err-moves-clause-run c =
    let a = c.args in
    let same : c.from_residual.result ≡ Err c.in_err-moves.field-0.0 = search rules in
    let e = rw c.in_err-moves.was at (cut_framed c.new.ensures a.trip a.cut c.judge_cut.ensures) in
    entry_refused (rw same e) (refusal_numbered same) refl

pub perform-requires : goal.perform-requires
perform-requires c =
    let a = c.args in
    let l = a.lanes.now in
    let t = l.front.now in
    let e = rw c.in_ok-moves.was at (cut_framed c.new.ensures a.trip a.cut c.judge_cut.ensures) in
    let k = cut_known a.trip a.side a.cut (sizes_in t l.spare.now) t.marks.now t.aims.now e refl in
    record { side_value = k.fits.side; long = fitting_sized k.fits; moves_bound = k.inside; good = k.good }

pub returns-clause-run : goal.returns-clause-run
returns-clause-run c =
    let a = c.args in
    let e = rw c.in_ok-moves.was at (cut_framed c.new.ensures a.trip a.cut c.judge_cut.ensures) in
    entry_accepted e refl c.perform.ensures.performed.0 tt
