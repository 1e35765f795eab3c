use Rattle.std.proofs.Common.{ℕ, get_or}
use Rattle.lanes.specs.Inside.{PlacesLaid}
use Rattle.plainwords.proofs.tables.Lines.lay_line.Given as goal

abbrev pub invariant-loop-p : goal.invariant-loop-p
invariant-loop-p l = PlacesLaid l.first l.self.stride l.p (λ (k : ℕ). get_or l.line (get_or l.self.from.now k 0) 0) l.initial.words l.words
