-- Rank as a program of the machine: the prefix sum of the marks, and beside it each cell keeps its mark.
use Rattle.std.specs.Prelude.{ℕ, ◌<◌, List, map}
use Rattle.lanes.specs.Machine.{State, Stage, made}
use Rattle.prefix.specs.Programs.{Sums, FiveWords, load_sums, unload_sums, prefix_sum}
use Rattle.ranking.specs.Ranks.{aim_of}

-- a cell's registers: those of the prefix sum, and its mark
pub record Ranking : Type 0 where
  pub sums : Sums
  pub mark : ℕ

-- they are five words, and a mark that is 0 or 1
pub record WordsAndMark (o : Ranking) : Type 0 where
  pub sums : FiveWords o.sums
  pub mark : o.mark < 2

-- before the first move: the sums start from the mark
abbrev pub load_mark : ℕ → Ranking
load_mark m = record { sums = load_sums m; mark = m }

-- a stage of the prefix sum, in which the mark stays
abbrev pub with_mark : Stage Sums ℕ → Stage Ranking ℕ
with_mark t =
    record {
      run = t.run;
      send = λ o. t.send o.sums;
      rule = λ k c d a b o got. record { sums = t.rule k c d a b o.sums got; mark = o.mark };
    }

-- Rank, in the steps of the prefix sum.
abbrev pub rank : ℕ → List (Stage Ranking ℕ)
rank s = map with_mark (prefix_sum s)

-- the aim that a cell makes of its registers at the end
abbrev pub unload_aim : Ranking → ℕ
unload_aim o = aim_of o.mark (unload_sums o.sums)

-- what it makes of a state of marks
abbrev pub ranked_marks : ℕ → State ℕ → State ℕ
ranked_marks s σ c d a b = unload_aim (made s (rank s) (λ c d a b. load_mark (σ c d a b)) c d a b)
