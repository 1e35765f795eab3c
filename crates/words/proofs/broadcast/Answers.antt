-- `words::broadcast` meets its contract: refused, all is as it was; accepted, the lane holds the result.
use mathlib.Core.Path.{refl}
use Rattle.words.proofs.Entering.{on_words}
use mathlib.Core.List.{[], ◌∷◌}
use borrow.Author.Tests.{not-false}
use Rattle.array.specs.Cells.{is_cell}
use Rattle.lists.specs.Lists.{broadcast_runs}
use Rattle.spreads.specs.Results.{broadcast_words}
use Rattle.answers.specs.Answers.{cell_case}
use Rattle.words.proofs.broadcast.Goals as goal

pub returns : goal.returns
returns c =
    let a = c.args in
    let words = a.words.now in
    on_words a.side (broadcast_runs a.side a.cell) (cell_case a.side a.cell ∷ []) words a.codes.now (broadcast_words a.side a.cell words)
    refl c.in_ok-moves.ensures refl (λ b n. rw (b, not-false (is_cell a.side a.cell) n.0) at c.broadcast_words.ensures)
    c.broadcast_runs.ensures c.write_codes.ensures
