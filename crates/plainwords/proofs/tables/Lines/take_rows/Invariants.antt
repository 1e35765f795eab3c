use Rattle.std.proofs.Common.{ℕ, ◌+◌, ◌*◌, get_or}
use Rattle.plainwords.specs.Inside.{RowsLaid}
use Rattle.plainwords.proofs.tables.Lines.take_rows.Given as goal

abbrev pub invariant-loop-p : goal.invariant-loop-p
invariant-loop-p l = RowsLaid 0 8 l.p (λ (k j : ℕ). get_or l.words (l.first + k * l.self.stride + j) 0) l.initial.rows l.rows
