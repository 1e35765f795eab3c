-- The registers of rank: five words and a mark, after every single move, and a word is handed on in each.
use Prim.Native.Nat.{ℕ, ◌<◌}
use mathlib.Core.List.{List, [], ◌∷◌, map}
use native.Mathlib.Omega.{arith}
use lib.ListN.{get_or}
use Rattle.lanes.specs.Machine.{Stage, at, load}
use Rattle.lanes.specs.Registers.{IsWord, Registers}
use Rattle.lanes.proofs.Registers.{Keeps, KeepAll, no_more, ◌and◌, first_keeps, rest_keep, registers_kept}
use Rattle.prefix.specs.Programs.{Sums, FiveWords, prefix_sum}
use Rattle.prefix.proofs.Registers.{prefix_sum_keeping, words_loaded}
use Rattle.ranking.specs.Programs.{WordsAndMark, load_mark, with_mark, rank}

-- a stage that keeps the sums keeps them and the mark
mark_keeping : (t : Stage Sums ℕ) → Keeps FiveWords IsWord t → Keeps WordsAndMark IsWord (with_mark t)
mark_keeping t z = record {
  sends = λ o g. z.sends o.sums g.sums;
  turns = λ k c d a b o got g h. record { sums = z.turns k c d a b o.sums got g.sums h; mark = g.mark };
}

marks_keeping : (ts : List (Stage Sums ℕ)) → KeepAll FiveWords IsWord ts → KeepAll WordsAndMark IsWord (map with_mark ts)
marks_keeping [] z = no_more
marks_keeping (t ∷ ts) z = mark_keeping t (first_keeps z) and marks_keeping ts (rest_keep z)

pub rank_registers : (s : ℕ) (marks : List ℕ) → ((i : ℕ) → get_or marks i 0 < 2)
    → Registers WordsAndMark IsWord s (rank s) (λ c d a b. load_mark (load s marks c d a b))
rank_registers s marks good = registers_kept s (rank s) (marks_keeping (prefix_sum s) (prefix_sum_keeping s)) (λ c d a b.
    let h = good (at s c d a b) in
    record { sums = words_loaded (load s marks c d a b) (omega arith); mark = h })
