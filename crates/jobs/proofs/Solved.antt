-- The moved counts of records that start in a job's cells are those of the job.
use Prim.Native.Nat.{ℕ, suc, ◌<◌}
use mathlib.Core.Path.{◌≡◌, sym, ap, ◌∙◌}
use mathlib.Core.Bool.{cond}
use mathlib.Core.List.{List}
use lib.ListN.{length, get_or}
use lib.Dec.{eqb}
use Rattle.laws.specs.Sums.{sum}
use Rattle.laws.specs.Tables.{entries}
use Rattle.laws.proofs.Sums.{sum_cong}
use Rattle.laws.proofs.Tables.{length-entries, entry_at, entries-all}
use Rattle.lists.specs.Lists.{total_moves}
use Rattle.lists.proofs.Counts.{concentrate_length}
use Rattle.travel.specs.Travel.{stands}
use Rattle.jobtext.specs.declared.CellWord.{CellWord}
use Rattle.jobs.specs.Outputs.{home_of, moved_in, job_counts}

-- how many of b records change cell in move k of concentrate, where record r started in cell home r
abbrev pub changing : ℕ → ℕ → (ℕ → ℕ) → ℕ → ℕ
changing s b home k = sum b (λ r. cond (eqb (stands s k r (home r)) (stands s (suc k) r (home r))) 0 1)

pub counts_same : (s : ℕ) (es : List CellWord) (home : ℕ → ℕ) → ((r : ℕ) → r < length es → home r ≡ home_of es r)
    → entries (changing s (length es) home) 0 (total_moves s) ≡ job_counts s es
counts_same s es home homes =
    entries-all (moved_in s es) (total_moves s) 0 (entries (changing s (length es) home) 0 (total_moves s)) (length-entries _ 0 (total_moves s)) each
    ∙ ap (entries (moved_in s es) 0) (sym (concentrate_length s))
  where
    one : (k r : ℕ) → r < length es
        → ◌≡◌ {A = ℕ} (cond (eqb (stands s k r (home r)) (stands s (suc k) r (home r))) 0 1) (cond (eqb (stands s k r (home_of es r)) (stands s (suc k) r (home_of es r))) 0 1)
    one k r l = ap (λ (i : ℕ). cond (eqb (stands s k r i) (stands s (suc k) r i)) 0 1) (homes r l)

    each : (k : ℕ) → k < total_moves s → get_or (entries (changing s (length es) home) 0 (total_moves s)) k 0 ≡ moved_in s es k
    each k h = entry_at (changing s (length es) home) (total_moves s) k 0 h ∙ sum_cong (length es) (λ r l. one k r l)
