-- Runs counted one after the other, modulo what a count holds.
use Rattle.std.proofs.Common.{◌≡◌, ℕ, ◌+◌, ◌%◌, ◌<◌, List, drop}
use Rattle.runs.specs.declared.Run.{Run}

-- counting run after run, modulo m: what is counted before run q, with what is to come, is the count of the whole
pub record Counting (whole : List Run → ℕ) (m : ℕ) (rs : List Run) (q sum : ℕ) : Type 0 where
  pub few : sum < m
  pub so_far : (sum + whole (drop q rs)) % m ≡ whole rs % m
