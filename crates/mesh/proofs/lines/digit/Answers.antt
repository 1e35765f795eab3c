-- `mesh::lines::digit` meets its contract: by the share, and so by no division.
use native.Mathlib.Omega.{arith}
use Rattle.mesh.proofs.Ruling.{digit_by}
use Rattle.mesh.proofs.lines.digit.Goals as goal

pub returns-clause-digit : goal.returns-clause-digit
returns-clause-digit c = rw c.from.ensures (digit_by c.args.by c.args.aim (omega arith))
