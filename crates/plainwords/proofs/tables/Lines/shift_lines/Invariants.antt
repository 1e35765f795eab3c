use Rattle.std.proofs.Common.{◌*◌, ◌/◌}
use Rattle.plainwords.specs.Inside.{ShiftedBy}
use Rattle.plainwords.proofs.tables.Lines.shift_lines.Given as goal

abbrev pub invariant-loop-o : goal.invariant-loop-o
invariant-loop-o l = ShiftedBy l.self l.start (l.self.stride / 8 * 8) l.o l.initial.words l.words
