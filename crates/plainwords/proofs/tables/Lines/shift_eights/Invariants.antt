use Rattle.std.proofs.Common.{◌*◌}
use Rattle.plainwords.specs.Inside.{ShiftedBy}
use Rattle.plainwords.proofs.tables.Lines.shift_eights.Given as goal

abbrev pub invariant-loop-e : goal.invariant-loop-e
invariant-loop-e l = ShiftedBy l.self l.start 0 (l.e * 8) l.initial.words l.words
