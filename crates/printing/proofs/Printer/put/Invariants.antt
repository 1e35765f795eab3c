-- `printing::Printer::put`: byte after byte.
use Rattle.std.proofs.Common.{take}
use Rattle.printing.specs.Printers.{Put}
use Rattle.printing.proofs.Printer.put.Given as goal

abbrev pub invariant-loop-byte : goal.invariant-loop-byte
invariant-loop-byte l = Put (take l.byte-index l.text) l.initial.self l.self
