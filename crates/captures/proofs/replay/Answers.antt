-- `captures::replay` meets its contract: the starting table judged, then the capture, and both compared on the way.
use Rattle.std.proofs.Common.{◌≡◌, Err, rules}
use Rattle.captures.proofs.Judged.{start-refused, start_known, too_long, side_above, walked}
use Rattle.captures.proofs.replay.Goals as goal
use Rattle.captures.proofs.replay.Goals.{then-capture-gt65536-via-then-capture-gt65536, then-capture-gt65536-via-else-capture-gt65536+then-side-gt3}

pub returns-in_err-judge_unlogged : goal.returns-in_err-judge_unlogged
returns-in_err-judge_unlogged c =
    let a = c.args in
    let x = c.in_err-judge_unlogged.field-0.0 in
    let same : c.from_residual.result ≡ Err x = search rules in
    let e = rw c.in_err-judge_unlogged.was at c.judge_unlogged.ensures in
    rw same (start-refused a.side a.words.now a.marks.now a.aims.now x e a.capture.now)

pub returns-then-capture-gt65536 : goal.returns-then-capture-gt65536
returns-then-capture-gt65536 c =
    let a = c.args in
    let e = rw c.in_ok-judge_unlogged.was at c.judge_unlogged.ensures in
    elim c.then-capture-gt65536.branch [
      | then-capture-gt65536-via-then-capture-gt65536 w ↦ too_long a.side a.words.now a.marks.now a.aims.now e a.capture.now w.if-capture-gt65536.true
      | then-capture-gt65536-via-else-capture-gt65536+then-side-gt3 w ↦
          side_above a.side a.words.now a.marks.now a.aims.now e a.capture.now w.if-capture-gt65536.false w.if-side-gt3.true
    ]

pub load-requires : goal.load-requires
load-requires c =
    let a = c.args in
    let e = rw c.in_ok-judge_unlogged.was at c.judge_unlogged.ensures in
    start_known a.side a.words.now a.marks.now a.aims.now e c.if-side-gt3.false

pub returns : goal.returns
returns c =
    let a = c.args in
    let e = rw c.in_ok-judge_unlogged.was at c.judge_unlogged.ensures in
    walked a.side a.words.now a.marks.now a.aims.now e a.capture.now c.if-capture-gt65536.false c.if-side-gt3.false c.load.ensures c.walk.ensures
