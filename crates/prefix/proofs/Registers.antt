-- The registers of prefix sum: five words, after every single move, and a word is handed on in each.
use Prim.Native.Nat.{ℕ, ◌-◌}
use mathlib.Core.List.{List}
use native.Mathlib.Omega.{arith}
use lib.ListN.{get_or}
use Rattle.array.specs.declared.moves.Way.TheVariants.{Right, Left, Up, Down}
use Rattle.sums.specs.Sums.{plus}
use Rattle.lanes.specs.Machine.{at, load}
use Rattle.lanes.specs.Registers.{IsWord, Registers}
use Rattle.lanes.proofs.Registers.{KeepAll, no_more, ◌and◌, Joins, from_keeping, light_keeping, plus-word, minus-word, registers_kept}
use Rattle.prefix.specs.Programs.{FiveWords, load_sums, add_row, add_column, take_group, add_groups, add_group_rows, rows_above, take_above, groups_before, take_before, row_before, take_row, prefix_sum}

-- what each step hands on and joins, in the order of the steps
rows_added : Joins FiveWords IsWord (λ o. o.r) add_row
rows_added = record {
  sends = λ o g. g.r;
  joins = λ o x g h. record { r = plus-word o.r x; c = plus-word o.r x; a = g.a; y = g.y; z = g.z };
}

columns_added : Joins FiveWords IsWord (λ o. o.c) add_column
columns_added = record { sends = λ o g. g.c; joins = λ o x g h. record { r = g.r; c = plus-word o.c x; a = g.a; y = g.y; z = g.z } }

group_taken : Joins FiveWords IsWord (λ o. o.c) take_group
group_taken = record { sends = λ o g. g.c; joins = λ o x g h. record { r = g.r; c = g.c; a = h; y = h; z = h } }

groups_added : Joins FiveWords IsWord (λ o. o.y) add_groups
groups_added = record {
  sends = λ o g. g.y;
  joins = λ o x g h. record { r = g.r; c = g.c; a = g.a; y = plus-word o.y x; z = plus-word o.y x };
}

group-rows_added : Joins FiveWords IsWord (λ o. o.z) add_group_rows
group-rows_added = record { sends = λ o g. g.z; joins = λ o x g h. record { r = g.r; c = g.c; a = g.a; y = g.y; z = plus-word o.z x } }

above_taken : Joins FiveWords IsWord rows_above take_above
above_taken = record {
  sends = λ o g. minus-word o.z o.y;
  joins = λ o x g h. record { r = g.r; c = g.c; a = g.a; y = g.y; z = plus-word x o.y };
}

before_sent : Joins FiveWords IsWord groups_before take_before
before_sent = record { sends = λ o g. minus-word o.z o.a; joins = λ o x g h. record { r = g.r; c = g.c; a = g.a; y = g.y; z = h } }

before_taken : Joins FiveWords IsWord (λ o. o.z) take_before
before_taken = record { sends = λ o g. g.z; joins = before_sent.joins }

row_taken : Joins FiveWords IsWord row_before take_row
row_taken = record {
  sends = λ o g. minus-word (plus o.z o.c) o.r;
  joins = λ o x g h. record { r = g.r; c = g.r; a = g.a; y = g.y; z = h };
}

pub prefix_sum_keeping : (s : ℕ) → KeepAll FiveWords IsWord (prefix_sum s)
prefix_sum_keeping s =
    from_keeping rows_added Right 0 (s - 1) and from_keeping columns_added Down 0 (s - 1)
    and light_keeping group_taken 1
    and from_keeping groups_added Right 0 (s - 1) and from_keeping group-rows_added Down 0 (s - 1) and from_keeping above_taken Left (s - 1) (s - 1)
    and light_keeping before_sent 1
    and from_keeping before_taken Up (s - 1) (s - 1) and from_keeping row_taken Left (s - 1) (s - 1) and no_more

pub words_loaded : (w : ℕ) → IsWord w → FiveWords (load_sums w)
words_loaded w h = let none : IsWord 0 = omega arith in record { r = h; c = h; a = none; y = none; z = none }

pub prefix_sum_registers : (s : ℕ) (l : List ℕ) → ((j : ℕ) → IsWord (get_or l j 0))
    → Registers FiveWords IsWord s (prefix_sum s) (λ c d a b. load_sums (load s l c d a b))
prefix_sum_registers s l small = registers_kept s (prefix_sum s) (prefix_sum_keeping s) (λ c d a b. words_loaded _ (small (at s c d a b)))
