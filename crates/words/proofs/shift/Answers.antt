-- `words::shift` meets its contract: refused, all is as it was; accepted, the lane holds the result.
use mathlib.Core.Path.{refl}
use mir.Syntax.{w32}
use mir.ValLaws.{to_z-of_z}
use Rattle.words.proofs.Entering.{on_words}
use mathlib.Core.List.{[], ◌∷◌}
use borrow.Author.Tests.{not-false}
use Rattle.shiftlists.specs.Cases.{distance_case}
use Rattle.shiftlists.specs.Shifts.{distance_of, within, shift_runs}
use Rattle.shifts.specs.Results.{shift_words}
use Rattle.words.proofs.shift.Goals as goal

pub returns : goal.returns
returns c =
    let a = c.args in
    let words = a.words.now in
    let read = to_z-of_z w32 a.k c.ranges.k in
    let list = shift_runs a.side a.axis a.edge a.k in
    on_words a.side list (distance_case a.side a.k ∷ []) words a.codes.now (shift_words a.side a.axis a.edge a.k words)
    refl (rw read at c.in_ok-moves.ensures) refl
    (λ b n. rw (b, not-false (within a.side (distance_of a.k)) n.0) at (rw read at c.shift_words.ensures))
    (rw read at c.shift_runs.ensures) c.write_codes.ensures
