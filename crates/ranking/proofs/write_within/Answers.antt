-- `ranking::write_within` meets its contract: the marks are loaded, summed and turned into aims.
use Rattle.ranking.proofs.Aims.{summed_within}
use Rattle.ranking.proofs.write_within.Goals as goal

pub set_aims-requires-clause-summed : goal.set_aims-requires-clause-summed
set_aims-requires-clause-summed g c =
    summed_within c.requires.good_marks c.requires.marks_len_bound c.requires.few c.load_marks.ensures c.prefix_within.ensures
