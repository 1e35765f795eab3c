-- `plainrecords::spreading::spread` meets its contract: what is lent to `scatter` is ready for it.
use native.Mathlib.Omega.{arith}
use Rattle.plainrecords.proofs.Parts.{zeroed_behind}
use Rattle.plainrecords.proofs.Landing.{all_counted, count_few, ready, landed}
use Rattle.plainrecords.proofs.spreading.spread.Goals as goal

pub slice_bounds-fill-count : goal.slice_bounds-fill-count
slice_bounds-fill-count c = let t = c.requires.lanes in omega (arith, count_few t (all_counted t c.count_marks-count.ensures))

pub slice_bounds-fill-start : goal.slice_bounds-fill-start
slice_bounds-fill-start c = let t = c.requires.lanes in omega (arith, count_few t (all_counted t c.count_marks-count.ensures))

pub slice_bounds-fill-count-2 : goal.slice_bounds-fill-count-2
slice_bounds-fill-count-2 c = let t = c.requires.lanes in omega (arith, count_few t (all_counted t c.count_marks-count.ensures))

pub slice_bounds-fill-start-2 : goal.slice_bounds-fill-start-2
slice_bounds-fill-start-2 c = let t = c.requires.lanes in omega (arith, count_few t (all_counted t c.count_marks-count.ensures))

pub scatter-requires : goal.scatter-requires
scatter-requires c =
    let t = c.requires.lanes in
    let count = all_counted t c.count_marks-count.ensures in
    let few = count_few t count in
    let words = zeroed_behind c.count_marks-count.result c.args.slots.now.words.now (omega (arith, few)) (c.fill.ensures.after (λ y e. e)) in
    let aims = zeroed_behind c.count_marks-count.result c.args.slots.now.aims.now (omega (arith, few)) (c.fill-2.ensures.after (λ y e. e)) in
    ready t c.args.slots.now.words.now count c.requires.words_long c.requires.aims_long words aims

pub returns-clause-arranged : goal.returns-clause-arranged
returns-clause-arranged c =
    let t = c.requires.lanes in
    let count = all_counted t c.count_marks-count.ensures in
    let few = count_few t count in
    let words = zeroed_behind c.count_marks-count.result c.args.slots.now.words.now (omega (arith, few)) (c.fill.ensures.after (λ y e. e)) in
    let aims = zeroed_behind c.count_marks-count.result c.args.slots.now.aims.now (omega (arith, few)) (c.fill-2.ensures.after (λ y e. e)) in
    let z = c.scatter.ensures in
    landed t c.args.slots.now.words.now count c.requires.words_long c.requires.aims_long words aims z.words z.marks z.aims
