-- The registers of broadcast and of data sum: one word, after every single move, and a word is handed on in each.
use Prim.Native.Nat.{ℕ, ◌-◌}
use mathlib.Core.List.{List}
use lib.ListN.{get_or}
use Rattle.array.specs.declared.moves.Way.TheVariants.{Right, Left, Up, Down}
use Rattle.array.specs.Cells.{group, place, row, column}
use Rattle.lanes.specs.Machine.{at, load}
use Rattle.lanes.specs.Registers.{IsWord, Registers}
use Rattle.lanes.proofs.Registers.{KeepAll, no_more, ◌and◌, both_keep, from_keeping, light_keeping, word_copied, word_added, registers_kept}
use Rattle.spreads.specs.Programs.{spread, broadcast, group_sum, data_sum}

spread_keeping : (s a b : ℕ) → KeepAll IsWord IsWord (spread s a b)
spread_keeping s a b =
    from_keeping word_copied Left b b and from_keeping word_copied Right b (s - 1 - b)
    and from_keeping word_copied Up a a and from_keeping word_copied Down a (s - 1 - a) and no_more

group_sum_keeping : (s : ℕ) → KeepAll IsWord IsWord (group_sum s)
group_sum_keeping s =
    from_keeping word_added Right 0 (s - 1) and from_keeping word_copied Left (s - 1) (s - 1)
    and from_keeping word_added Down 0 (s - 1) and from_keeping word_copied Up (s - 1) (s - 1) and no_more

pub broadcast_registers : (s i : ℕ) (l : List ℕ) → ((j : ℕ) → IsWord (get_or l j 0)) → Registers IsWord IsWord s (broadcast s i) (load s l)
broadcast_registers s i l small =
    registers_kept s (broadcast s i)
    (both_keep (spread_keeping s (row s (place s i)) (column s (place s i)))
    (light_keeping word_copied 1 and spread_keeping s (row s (group s i)) (column s (group s i))))
    (λ c d a b. small (at s c d a b))

pub data_sum_registers : (s : ℕ) (l : List ℕ) → ((j : ℕ) → IsWord (get_or l j 0)) → Registers IsWord IsWord s (data_sum s) (load s l)
data_sum_registers s l small =
    registers_kept s (data_sum s) (both_keep (group_sum_keeping s) (light_keeping word_copied 1 and group_sum_keeping s))
    (λ c d a b. small (at s c d a b))
