-- `plainrecords::run` meets its contract: a refusal changes nothing; else the spare lanes are emptied and the records arranged.
use Rattle.std.proofs.Common.{◌≡◌, Err, refl, sym, ◌∙◌, rules}
use Rattle.answers.proofs.Entering.{entry_refused, entry_accepted}
use Rattle.answers.proofs.Judging.{refusal_numbered}
use Rattle.refusals.specs.Cases.{sizes_in}
use Rattle.refusals.proofs.Verdicting.{unlogged_framed}
use Rattle.plainrecords.proofs.Answering.{trip_answer, trip_known}
use Rattle.plainrecords.proofs.Ending.{ended}
use Rattle.plainrecords.proofs.run.Goals as goal

pub returns-in_err-moves-clause-run : goal.returns-in_err-moves-clause-run
returns-in_err-moves-clause-run c =
    let a = c.args in
    let t = a.lanes.now.front.now in
    let same : c.from_residual.result ≡ Err c.in_err-moves.field-0.0 = search rules in
    let told = rw c.in_err-moves.was at (unlogged_framed c.new-frame.ensures a.trip _ c.judge_unlogged.ensures) in
    let e = trip_answer a.trip a.side (sizes_in t a.lanes.now.spare.now) t.marks.now t.aims.now c.moves_of.ensures told in
    entry_refused (rw same e) (refusal_numbered same) refl

pub arrange-requires : goal.arrange-requires
arrange-requires c =
    let a = c.args in
    let t = a.lanes.now.front.now in
    let sizes = sizes_in t a.lanes.now.spare.now in
    let told = rw c.in_ok-moves.was at (unlogged_framed c.new-frame.ensures a.trip _ c.judge_unlogged.ensures) in
    let e = trip_answer a.trip a.side sizes t.marks.now t.aims.now c.moves_of.ensures told in
    let k = trip_known a.trip a.side sizes t.marks.now t.aims.now e refl in
    record { lanes = k.lanes; words_long = k.fits.words ∙ sym k.fits.marks; aims_long = k.fits.aims ∙ sym k.fits.marks }

pub returns-clause-run : goal.returns-clause-run
returns-clause-run c =
    let a = c.args in
    let t = a.lanes.now.front.now in
    let u = a.lanes.now.spare.now in
    let told = rw c.in_ok-moves.was at (unlogged_framed c.new-frame.ensures a.trip _ c.judge_unlogged.ensures) in
    let e = trip_answer a.trip a.side (sizes_in t u) t.marks.now t.aims.now c.moves_of.ensures told in
    let k = trip_known a.trip a.side (sizes_in t u) t.marks.now t.aims.now e refl in
    let o = c.empty.ensures in
    entry_accepted e refl (ended a.side u.words.now u.marks.now u.aims.now k.fits.marks c.arrange.ensures.arranged o.words o.marks o.aims) tt
