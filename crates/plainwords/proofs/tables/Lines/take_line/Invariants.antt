use Rattle.std.proofs.Common.{ℕ, ◌+◌, ◌*◌, get_or}
use Rattle.laws.proofs.Rewriting.{Rewriting}
use Rattle.plainwords.proofs.tables.Lines.take_line.Given as goal

abbrev pub invariant-loop-p : goal.invariant-loop-p
invariant-loop-p l = Rewriting (λ (k : ℕ). get_or l.words (l.first + k * l.self.stride) 0) 0 l.initial.word-items l.word-items l.p
