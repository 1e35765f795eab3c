-- `replays::answer` meets its contract: the line of each of the three.
use Rattle.std.proofs.Common.{rules}
use Rattle.printing.specs.Printers.{Put}
use Rattle.replays.specs.Outputs.{replayed_line}
use Rattle.replays.proofs.Lines.{agrees_put, differs_put, early_put}
use Rattle.replays.proofs.answer.Goals as goal
use Rattle.replays.proofs.answer.Goals.{in-Agrees, in-Differs, in-Early}

pub returns : goal.returns
returns c =
    let p : Put (replayed_line c.args.replayed) c.new-printer.result c.match-replayed.printer = elim c.match-replayed.branch [
      | in-Agrees w ↦ rw w.printer-is (search agrees_put)
      | in-Differs w ↦ rw w.printer-is (search differs_put)
      | in-Early w ↦ rw w.printer-is (search early_put)
    ] in
    search rules
