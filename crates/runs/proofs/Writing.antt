-- The codes of a list as they are written, run after run.
use Prim.Native.Nat.{ℕ, suc, ◌+◌, ◌-◌, ◌≤◌, ◌<◌, min}
use mathlib.Core.Path.{◌≡◌, sym, ap, ap₂, ◌∙◌}
use mathlib.Core.Logic.{⊎_elim}
use mathlib.Core.List.{List, ◌++◌, append_assoc, map-append}
use native.Mathlib.Omega.{arith}
use native.Mathlib.Numerals.{add-one}
use borrow.Rule.Slice.PartMut.{put_mid, Post-is}
use lib.ListN.{length, get_or, drop, take, replicate, length-drop, length-replicate}
use Rattle.std.proofs.lemmas.List.{replicate-append-replicate}
use lib.Seq.{sets, sets-eq, drop-cons, length-sets, length-take-le}
use Rattle.laws.proofs.Deciding.{apart}
use Rattle.laws.proofs.Reversed.{map-replicate}
use Rattle.laws.proofs.Stores.{sets-append, sets_past}
use Rattle.runs.specs.declared.Run.{Run}
use Rattle.array.specs.Moves.{code_of}
use Rattle.runs.specs.Runs.{moves, codes}

-- the codes of the runs before run q are in the log, up to a place; those of the others come behind them
pub record Writing (runs : List Run) (old : List ℕ) (from q at : ℕ) (now : List ℕ) : Type 0 where
  pub inside : at ≤ length now
  pub left : sets now at (codes (drop q runs)) ≡ sets old from (codes runs)

pub writing_start : (runs : List Run) (log : List ℕ) {from at : ℕ} → at ≡ min from (length log) → Writing runs log from 0 at log
writing_start runs log {from} {at} e = record { inside = omega arith; left = ⊎_elim inside past (apart from (length log)) }
  where
    inside : from < length log → sets log at (codes runs) ≡ sets log from (codes runs)
    inside h = ap (λ (k : ℕ). sets log k (codes runs)) (omega arith)

    past : length log ≤ from → sets log at (codes runs) ≡ sets log from (codes runs)
    past h = sets_past log at (codes runs) (omega arith) ∙ sym (sets_past log from (codes runs) h)

-- a run of codes, as far as the log goes, and what comes behind it
module _ (log : List ℕ) (at end m c : ℕ) (rest : List ℕ) (in_log : at ≤ length log) (e : end ≡ min (at + m) (length log)) where
  abbrev here : List ℕ
  here = sets log at (replicate (end - at) c)

  whole_run : at + m ≤ length log → sets log at (replicate m c ++ rest) ≡ sets here end rest
  whole_run h =
      let n : end - at ≡ m = omega arith in
      let k : at + length (replicate m c) ≡ end = omega (arith, length-replicate m c) in
      sets-append log at (replicate m c) rest ∙ ap (λ (i : ℕ). sets (sets log at (replicate m c)) i rest) k
      ∙ ap (λ (i : ℕ). sets (sets log at (replicate i c)) end rest) (sym n)

  part_run : length log ≤ at + m → sets log at (replicate m c ++ rest) ≡ sets here end rest
  part_run h =
      let n : end - at + (m - (end - at)) ≡ m = omega arith in
      let tail = replicate (m - (end - at)) c ++ rest in
      let parted : replicate m c ++ rest ≡ replicate (end - at) c ++ tail =
      ap (λ (i : ℕ). replicate i c ++ rest) (sym n) ∙ ap (λ (l : List ℕ). l ++ rest) (sym (replicate-append-replicate (end - at) (m - (end - at)) c))
      ∙ append_assoc (replicate (end - at) c) (replicate (m - (end - at)) c) rest in
      ap (sets log at) parted ∙ sets-append log at (replicate (end - at) c) tail
      ∙ sets_past here (at + length (replicate (end - at) c)) tail (omega (arith, length-sets {A = ℕ}, length-replicate (end - at) c))
      ∙ sym (sets_past here end rest (omega (arith, length-sets {A = ℕ})))

  run_written : sets log at (replicate m c ++ rest) ≡ sets here end rest
  run_written = ⊎_elim (λ h. whole_run (omega arith)) part_run (apart (at + m) (length log))

codes_from : (runs : List Run) (q : ℕ) (d : Run) → q < length runs
    → codes (drop q runs) ≡ replicate (get_or runs q d).times (code_of (get_or runs q d).step) ++ codes (drop (suc q) runs)
codes_from runs q d h =
    let r = get_or runs q d in
    ap codes (drop-cons runs q d h) ∙ map-append code_of (replicate r.times r.step) (moves (drop (suc q) runs))
    ∙ ap (λ (l : List ℕ). l ++ codes (drop (suc q) runs)) (map-replicate code_of r.times r.step)

pub writing_next : {runs : List Run} {old now part : List ℕ} {from q at end : ℕ} (d : Run) → q < length runs
    → end ≡ min (at + (get_or runs q d).times) (length now)
    → {x : ℕ} → part ≡ replicate (length (take (end - at) (drop at now))) x → x ≡ code_of (get_or runs q d).step → Writing runs old from q at now
    → Writing runs old from (q + 1) end (put_mid at (end - at) now part)
writing_next {runs} {old} {now} {part} {from} {q} {at} {end} d h e {x} f g z =
    let r = get_or runs q d in
    let c = code_of r.step in
    let n : length (take (end - at) (drop at now)) ≡ end - at = length-take-le (end - at) (drop at now) (omega (arith, length-drop at now)) in
    let filled : part ≡ replicate (end - at) c = f ∙ ap₂ (λ (k y : ℕ). replicate k y) n g in
    let k : at + length (replicate (end - at) c) ≡ end = omega (arith, length-replicate (end - at) c, z.inside) in
    let put : put_mid at (end - at) now part ≡ sets now at (replicate (end - at) c) =
    ap₂ (λ (xs ys : List ℕ). take at now ++ (xs ++ ys)) filled (Post-is at end now (omega (arith, z.inside)) ∙ ap (λ (i : ℕ). drop i now) (sym k))
    ∙ sym (append_assoc (take at now) (replicate (end - at) c) (drop (at + length (replicate (end - at) c)) now))
    ∙ sym (sets-eq (replicate (end - at) c) now at (omega arith)) in
    rw (put, add-one)
    (record {
      inside = omega (arith, length-sets {A = ℕ});
      left = sym (run_written now at end r.times c (codes (drop (suc q) runs)) z.inside e) ∙ ap (sets now at) (sym (codes_from runs q d h)) ∙ z.left;
    })
