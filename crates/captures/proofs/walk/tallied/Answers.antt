-- `captures::walk::tallied` meets its contract: by the numbers of the line.
use Rattle.std.proofs.Common.{◌≡◌, None, rules}
use Rattle.captures.specs.Inside.{next_of}
use Rattle.captures.proofs.walk.tallied.Goals as goal

pub returns-in_err-number : goal.returns-in_err-number
unfolding next_of
returns-in_err-number c =
    let none : c.from_residual.result ≡ None = search rules in
    rw c.in_err-number.was none

pub returns-in-Two : goal.returns-in-Two
unfolding next_of
returns-in-Two c = rw (c.in_ok-number.was, c.in-Two.is) (rw c.len.ensures at c.at_move.ensures)

pub returns-in-Four : goal.returns-in-Four
unfolding next_of
returns-in-Four c = rw (c.in_ok-number.was, c.in-Four.is) c.at_record.ensures
