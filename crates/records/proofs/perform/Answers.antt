-- `records::perform` meets its contract: five lanes are cleared, and the mover takes the records along their course (Performing).
use Rattle.records.proofs.Performing.{performing}
use Rattle.records.proofs.perform.Goals as goal

pub returns-clause-performed : goal.returns-clause-performed
returns-clause-performed c =
    let kept = c.keep_marked.ensures in
    let o = c.empty.ensures in
    let ran = rw kept.marks at c.run.ensures.ran in
    performing c.args.trip c.args.side c.args.moves c.requires.side_value c.requires.long c.requires.moves_bound c.requires.good
    kept.words kept.aims o.words o.marks o.aims c.runs_of.ensures ran
