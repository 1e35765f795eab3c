-- `plainrecords::packing::pack` meets its contract: the lanes, one after the other.
use Rattle.std.proofs.Common.{◌≤◌, length, ◌∙◌, arith}
use Rattle.plainrecords.proofs.Arranging.{packed}
use Rattle.plainrecords.proofs.Landing.{board_marks}
use Rattle.plainrecords.proofs.Parts.{zeroed_behind}
use Rattle.plainrecords.proofs.packing.pack.Goals as goal

pub gather-count-requires-clause-board_marks : goal.gather-count-requires-clause-board_marks
gather-count-requires-clause-board_marks c = board_marks c.requires.lanes

pub number_first-requires-clause-aims_len_bound : goal.number_first-requires-clause-aims_len_bound
number_first-requires-clause-aims_len_bound c = omega (arith, c.requires.aims_long, (board_marks c.requires.lanes).few)

pub returns-clause-arranged : goal.returns-clause-arranged
returns-clause-arranged c =
    let inside : c.gather-count.result ≤ length c.gather-count.new.words = omega (arith, c.gather-count.ensures, c.gather-count.auto.words) in
    packed (board_marks c.requires.lanes) (c.gather-count.auto.words ∙ c.requires.words_long) c.requires.aims_long c.gather-count.ensures
    (zeroed_behind c.gather-count.result c.gather-count.new.words inside (c.fill.ensures.after (λ y e. e))) c.mark_first.ensures c.number_first.ensures
