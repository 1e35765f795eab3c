-- For all that distribute takes there is a concentrate that it runs back: one mark in each cell that an aim names, with the ranks of these marks.
-- So `state_by_state` (Backwards.antt) speaks of every run of distribute.
use Prim.Native.Nat.{ℕ, zero, suc, ◌+◌, ◌-◌, ◌≤◌, ◌<◌}
use mathlib.Core.Path.{◌≡◌, refl, sym, ap, ◌∙◌}
use mathlib.Core.Bool.{Bool, true, false, cond}
use mathlib.Core.Logic.{⊎_elim}
use mathlib.Core.List.{List, []}
use native.Mathlib.Omega.{arith}
use borrow.Author.Tests.{eq-eqb, ne_eqb, lt-ltb, le-ltb}
use lib.Dec.{eqb, ltb}
use lib.ListN.{length, get_or}
use Rattle.laws.specs.Sums.{sum}
use Rattle.laws.specs.Tables.{entries}
use Rattle.laws.proofs.Deciding.{same?}
use Rattle.laws.proofs.Sums.{sum_cong, one_more}
use Rattle.laws.proofs.Totals.{sum_zero}
use Rattle.laws.proofs.Tables.{length-entries, entry_at}
use Rattle.array.specs.Cells.{cells}
use Rattle.lists.specs.declared.Trip.TheVariants.{Concentrate, Distribute}
use Rattle.lists.specs.Lists.{total_moves}
use Rattle.slots.specs.declared.Cell.{Cell}
use Rattle.marks.specs.Marks.{rank_in}
use Rattle.refusals.specs.Cases.{Good}
use Rattle.refusals.proofs.Aims.{Aimed, good_aimed}
use Rattle.refusals.proofs.Accepting.{ranked_good}
use Rattle.records.specs.Records.{marked_cell, count_in, record_of}
use Rattle.records.specs.Entries.{Stood}
use Rattle.records.proofs.Marked.{aims_rise, marked_cell-rank_in}
use Rattle.records.proofs.Demand3.{Slot, slot}
use Rattle.records.proofs.Backwards.{Alike, state_by_state}

-- the mark of cell i: 1 where one of the first b aims names it
abbrev pub named_mark : List ℕ → ℕ → ℕ → ℕ
named_mark aims zero i = 0
named_mark aims (suc b) i = cond (eqb i (get_or aims b 0)) 1 (named_mark aims b i)

-- the marks of a board, and their ranks
abbrev pub named_marks : ℕ → ℕ → List ℕ → List ℕ
named_marks s b aims = entries (named_mark aims b) 0 (cells s)

abbrev pub named_ranks : ℕ → ℕ → List ℕ → List ℕ
named_ranks s b aims = entries (rank_in (named_marks s b aims)) 0 (cells s)

module _ (aims : List ℕ) where
  small : (b i : ℕ) → named_mark aims b i ≤ 1
  small zero i = omega arith
  small (suc b) i = go (eqb i (get_or aims b 0)) (small b i)
    where
      go : (t : Bool) {x : ℕ} → x ≤ 1 → cond t 1 x ≤ 1
      go true h = omega arith
      go false h = h

  unnamed : (b i : ℕ) → ((r : ℕ) → r < b → get_or aims r 0 ≡ i → ⊥) → named_mark aims b i ≡ 0
  unnamed zero i n = refl
  unnamed (suc b) i n = rw (ne_eqb i (get_or aims b 0) (λ e. n b (omega arith) (sym e))) (unnamed b i (λ r h. n r (omega arith)))

  is_named : (b r : ℕ) → r < b → named_mark aims b (get_or aims r 0) ≡ 1
  is_named zero r h = absurd (omega arith)
  is_named (suc b) r h =
      ⊎_elim
      (λ e. rw (eq-eqb (get_or aims r 0) (get_or aims b 0) (ap (λ (k : ℕ). get_or aims k 0) e)))
      (λ d. either (eqb (get_or aims r 0) (get_or aims b 0)) (is_named b r (omega (arith, d))))
      (same? r b)
    where
      either : (t : Bool) {x : ℕ} → x ≡ 1 → cond t 1 x ≡ 1
      either true e = refl
      either false e = e

  -- the first b aims rise
  record Rise (b : ℕ) : Type 0 where
    pub up : (i j : ℕ) → i < j → j < b → get_or aims i 0 < get_or aims j 0

  fewer : {b : ℕ} → Rise (suc b) → Rise b
  fewer u = record { up = λ i j g h. u.up i j g (omega arith) }

  next : (b n : ℕ) → Rise (suc b) → sum n (named_mark aims (suc b)) ≡ cond (ltb (get_or aims b 0) n) 1 0 + sum n (named_mark aims b)
  next b n u = one_more n (get_or aims b 0) (named_mark aims b) (unnamed b (get_or aims b 0) (λ r h e. omega (arith, u.up r b h (omega arith), e)))

  -- so many are marked before cell n: all, where every aim is before it; r, where it is the cell of aim r
  all_named : (b n : ℕ) → Rise b → ((r : ℕ) → r < b → get_or aims r 0 < n) → sum n (named_mark aims b) ≡ b
  all_named zero n u l = sum_zero (named_mark aims 0) n (λ k h. refl)
  all_named (suc b) n u l =
      let before = all_named b n (fewer u) (λ r h. l r (omega arith)) in
      next b n u ∙ rw (lt-ltb (get_or aims b 0) n (l b (omega arith))) (omega (arith, before))

  rank-named : (b r : ℕ) → r < b → Rise b → sum (get_or aims r 0) (named_mark aims b) ≡ r
  rank-named zero r h u = absurd (omega arith)
  rank-named (suc b) r h u =
      next b (get_or aims r 0) u
      ∙ ⊎_elim
      (λ e. none (omega (arith, ap (λ (k : ℕ). get_or aims k 0) e)) (all_named b (get_or aims r 0) (fewer u) (λ k l. u.up k r (omega (arith, e)) h) ∙ sym e))
      (λ d. none (omega (arith, u.up r b (omega (arith, d)) (omega arith))) (rank-named b r (omega (arith, d)) (fewer u)))
      (same? r b)
    where
      none : {x : ℕ} → get_or aims r 0 ≤ get_or aims b 0 → x ≡ r → cond (ltb (get_or aims b 0) (get_or aims r 0)) 1 0 + x ≡ r
      none h e = rw (le-ltb (get_or aims b 0) (get_or aims r 0) h) (omega arith)

-- a concentrate of as many records, from the cells that the aims of distribute name
pub record Source (s : ℕ) (marks₂ aims₂ marks aims : List ℕ) : Type 0 where
  pub long : length marks ≡ cells s
  pub long_aims : length aims ≡ cells s
  pub good : Good Concentrate s marks aims
  pub as_many : count_in s marks₂ ≡ count_in s marks
  pub back : (r : ℕ) → r < count_in s marks → get_or aims₂ r 0 ≡ marked_cell marks (cells s) r

module _ (s : ℕ) (marks₂ aims₂ : List ℕ) (long₂ : length marks₂ ≡ cells s) (good₂ : Good Distribute s marks₂ aims₂) where
  abbrev b : ℕ
  b = count_in s marks₂

  abbrev marks : List ℕ
  marks = named_marks s b aims₂

  aimed : Aimed s b marks₂ aims₂
  aimed = good_aimed s marks₂ aims₂ long₂ good₂

  rise : Rise aims₂ b
  rise = record { up = aims_rise s [] marks₂ aims₂ aimed }

  long : length marks ≡ cells s
  long = length-entries (named_mark aims₂ b) 0 (cells s)

  at : (i : ℕ) → i < cells s → get_or marks i 0 ≡ named_mark aims₂ b i
  at i h = entry_at (named_mark aims₂ b) (cells s) i 0 h

  before : (n : ℕ) → n ≤ cells s → rank_in marks n ≡ sum n (named_mark aims₂ b)
  before n h = sum_cong n (λ i l. at i (omega arith))

  as_many : b ≡ count_in s marks
  as_many = sym (before (cells s) (omega arith) ∙ all_named aims₂ b (cells s) rise aimed.below)

  back : (r : ℕ) → r < b → get_or aims₂ r 0 ≡ marked_cell marks (cells s) r
  back r h =
      let i = get_or aims₂ r 0 in
      let l : i < cells s = aimed.below r h in
      let rank : rank_in marks i ≡ r = before i (omega arith) ∙ rank-named aims₂ b r h rise in
      sym (ap (marked_cell marks (cells s)) (sym rank) ∙ marked_cell-rank_in marks (cells s) i l (at i l ∙ is_named aims₂ b r h))

  pub source : Source s marks₂ aims₂ marks (named_ranks s b aims₂)
  source = record {
    long = long;
    long_aims = length-entries (rank_in marks) 0 (cells s);
    good = ranked_good s marks (named_ranks s b aims₂) long (record {
      mark = λ i h. omega (arith, at i h, small aims₂ b i);
      rank = λ i h e. entry_at (rank_in marks) (cells s) i 0 h;
    });
    as_many = as_many;
    back = λ r h. back r (omega (arith, as_many));
  }

  -- distribute is that concentrate run backwards
  pub runs_back : 0 < s → (words words₂ : List ℕ) (k : ℕ) {T U : ℕ → Cell} → Stood Distribute s k words₂ marks₂ aims₂ T
      → Stood Concentrate s (total_moves s - k) words marks (named_ranks s b aims₂) U → (j : ℕ) → j < cells s → (f : Slot)
      → Alike (count_in s marks) (record_of Distribute s words₂ marks₂ aims₂) (record_of Concentrate s words marks (named_ranks s b aims₂))
      (slot f (T j)) (slot f (U j))
  runs_back pos words words₂ = state_by_state pos source.long long₂ source.good good₂ source.as_many source.back words words₂
