use Rattle.std.proofs.Common.{ℕ, ◌+◌, ◌*◌, get_or}
use Rattle.plainwords.specs.Inside.{RowsLaid}
use Rattle.plainwords.proofs.tables.Lines.lay_rows.Given as goal

abbrev pub invariant-loop-p : goal.invariant-loop-p
invariant-loop-p l = RowsLaid l.first l.self.stride l.p (λ (k j : ℕ). get_or l.rows (get_or l.self.from.now k 0 * 8 + j) 0) l.initial.words l.words
