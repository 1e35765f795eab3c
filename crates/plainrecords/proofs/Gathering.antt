-- Words gathered at the front, cell after cell, and what stands there at the end.
use Prim.Native.Nat.{ℕ, ◌+◌, ◌≤◌, ◌<◌}
use mathlib.Core.Path.{◌≡◌, ◌∙◌}
use mathlib.Core.Logic.{⊎_elim}
use mathlib.Core.List.{List}
use native.Mathlib.Omega.{arith}
use lib.ListN.{length, get_or, set, length-set}
use lib.Seq.{get_or-set_same, get_or-set_other}
use Rattle.laws.proofs.Deciding.{same?}
use Rattle.marks.specs.Marks.{rank_in}
use Rattle.records.proofs.Marked.{rank_past}
use Rattle.plainrecords.specs.Inside.{BoardMarks}
use Rattle.plainrecords.proofs.Counted.{Counted, counted_next}

-- the words of the marked cells below i stand at their ranks, and those from i on where they were
pub record Gathering (marks old words : List ℕ) (rank i : ℕ) : Type 0 where
  pub count : Counted marks rank i
  pub long : length words ≡ length old
  pub word : (k : ℕ) → k < i → get_or marks k 0 ≡ 1 → get_or words (rank_in marks k) 0 ≡ get_or old k 0
  pub ahead : (k : ℕ) → i ≤ k → get_or words k 0 ≡ get_or old k 0

module _ {marks old : List ℕ} where
  pub gathering_next : {words : List ℕ} {rank i : ℕ} (v : ℕ) → BoardMarks marks → length old ≡ length marks → i < length marks → v ≡ get_or marks i 0
      → Gathering marks old words rank i → Gathering marks old (set words rank (get_or words i 0)) (rank + v) (i + 1)
  gathering_next {words} {rank} {i} v good n h e z = record {
    count = counted_next v good h e z.count;
    long = length-set words rank (get_or words i 0) ∙ z.long;
    word = λ k l m. ⊎_elim (here k) (λ d. there k m (omega (arith, d))) (same? k i);
    ahead = λ k l. get_or-set_other words rank k (get_or words i 0) 0 (λ d. omega (arith, d, z.count.few)) ∙ z.ahead k (omega arith);
  }
    where
      here : (k : ℕ) → k ≡ i → get_or (set words rank (get_or words i 0)) (rank_in marks k) 0 ≡ get_or old k 0
      here k d =
          rw (d, ← z.count.rank_is)
          (get_or-set_same words rank (get_or words i 0) 0 (omega (arith, z.long, z.count.few)) ∙ z.ahead i (omega arith))

      there : (k : ℕ) → get_or marks k 0 ≡ 1 → k < i → get_or (set words rank (get_or words i 0)) (rank_in marks k) 0 ≡ get_or old k 0
      there k m l =
          get_or-set_other words rank (rank_in marks k) (get_or words i 0) 0 (λ d. omega (arith, d, rank_past marks k i l m, z.count.rank_is))
          ∙ z.word k l m
