-- `words::prefix_sum` meets its contract: refused, all is as it was; accepted, the lane holds the result.
use mathlib.Core.Path.{refl}
use Rattle.words.proofs.Entering.{on_words}
use mathlib.Core.List.{[]}
use Rattle.lists.specs.Lists.{prefix_sum_runs}
use Rattle.prefix.specs.Results.{prefix_sum_words}
use Rattle.words.proofs.prefix_sum.Goals as goal

pub returns : goal.returns
returns c =
    let a = c.args in
    let words = a.words.now in
    on_words a.side (prefix_sum_runs a.side) [] words a.codes.now (prefix_sum_words a.side words)
    refl (rw c.prefix_sum_runs.ensures at c.in_ok-moves.ensures) refl (λ b n. rw b at c.prefix_words.ensures)
    c.prefix_sum_runs-2.ensures c.write_codes.ensures
