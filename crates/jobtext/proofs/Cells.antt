-- The lines after the first, one at a time: what `read_cells` keeps from turn to turn.
use Rattle.std.proofs.Common.{◌≡◌, ℕ, suc, ◌+◌, ◌*◌, ◌≤◌, ◌<◌, List, [], ◌∷◌, Some, None, Result, Ok, Err, length, set, refl, sym, ap, ◌∙◌, add-one, arith, Fits, w64}
use Rattle.std.proofs.lemmas.List.{nil_from_length}
use Rattle.laws.proofs.Numbers.{square_grows, fourth_grows}
use Rattle.texts.specs.Bytes.{lf}
use Rattle.texts.specs.Lines.{bytes_before, Parted, TextLine, ended, lines_of}
use Rattle.texts.proofs.Ended.{lines_parted, lines_unended}
use Rattle.array.specs.Cells.{cells}
use Rattle.answers.specs.declared.Refusal.{Refusal}
use Rattle.answers.specs.declared.Refusal.TheVariants as refusal
use Rattle.jobtext.specs.declared.Job.{Job}
use Rattle.jobtext.specs.declared.CellWord.{CellWord}
use Rattle.jobtext.specs.Verdicts.{mark_line, TextVerdict, also, cells_from}
use Rattle.jobtext.specs.Lanes.{job_of, with_cells, WithCells, CellsRead}
use Rattle.jobtext.proofs.Entries.{mark_in_order}

pub square : (s : ℕ) → s ≤ 8 → s * s ≤ 64
square s h = square_grows h

pub cells_few : (s : ℕ) → s ≤ 8 → cells s ≤ 4096
cells_few s h = fourth_grows h

pub cells_fit : (s : ℕ) → s ≤ 8 → Fits w64 (s * s * (s * s))
cells_fit s h = record { fits = omega (arith, cells_few s h) }

-- the verdict on lines from line k on, by the first
module _ (s next k : ℕ) (line : List ℕ) (ls : List TextLine) where
  by_malformed : mark_line next (cells s) line ≡ None → cells_from s next k (ended line ∷ ls) ≡ Err (refusal.Job k)
  unfolding cells_from
  by_malformed e = rw (e, cells_from)

  by_cell : (c : CellWord) → mark_line next (cells s) line ≡ Some c → cells_from s next k (ended line ∷ ls) ≡ also c (cells_from s (suc c.index) (suc k) ls)
  unfolding cells_from
  by_cell c e = rw (e, cells_from)

-- a verdict on the rest of a job of which m cells were read
abbrev job_with : ℕ → TextVerdict → Result Job Refusal
job_with m (Ok t) = Ok (record { side = t.side; marked = m + length t.marked })
job_with m (Err e) = Err e

job_also : (m : ℕ) (c : CellWord) (v : TextVerdict) → job_with m (also c v) ≡ job_with (m + 1) v
unfolding also
job_also m c (Ok t) = ap (λ (n : ℕ). Ok (record { side = t.side; marked = n })) (omega arith)
job_also m c (Err e) = refl

with_cells-also : (value : CellWord → ℕ) (c : CellWord) (v : TextVerdict) (lane exit : List ℕ) → WithCells value v (set lane c.index (value c)) exit
    → WithCells value (also c v) lane exit
unfolding also with_cells
with_cells-also value c (Ok t) lane exit h = h
with_cells-also value c (Err e) lane exit h = tt

abbrev whole : ℕ → List ℕ → TextVerdict
whole side text = cells_from side 0 2 (lines_of text)

-- the verdict on what is left of the text behind so many marked cells
abbrev unread : ℕ → List ℕ → ℕ → ℕ → TextVerdict
unread side rest next marked = cells_from side next (marked + 2) (lines_of rest)

-- the state of `read_cells` before a line: what is not read yet gives the whole answer
pub record Cells (text : List ℕ) (side : ℕ) (words₀ marks₀ words marks rest : List ℕ) (next marked : ℕ) : Type 0 where
  pub room : cells side ≤ 4096
  pub low : next ≤ 4096
  pub few : marked ≤ next
  pub job : job_with marked (unread side rest next marked) ≡ job_of (whole side text)
  pub words_laid : (exit : List ℕ) → WithCells (λ e. e.word) (unread side rest next marked) words exit → WithCells (λ e. e.word) (whole side text) words₀ exit
  pub marks_laid : (exit : List ℕ) → WithCells (λ e. 1) (unread side rest next marked) marks exit → WithCells (λ e. 1) (whole side text) marks₀ exit

-- what `read_cells` ensures
abbrev Done : List ℕ → ℕ → List ℕ → List ℕ → List ℕ → List ℕ → Result Job Refusal → Type 0
Done text side words₀ marks₀ words marks r = CellsRead (whole side text) words₀ words marks₀ marks r

pub cells_begin : (text : List ℕ) (side : ℕ) (words marks : List ℕ) → side ≤ 8 → Cells text side words marks words marks text 0 0
unfolding job_of
cells_begin text side words marks h = record {
  room = cells_few side h;
  low = omega arith;
  few = omega arith;
  job = same_job (whole side text);
  words_laid = λ exit h. h;
  marks_laid = λ exit h. h;
}
  where
    same_job : (v : TextVerdict) → job_with 0 v ≡ job_of v
    same_job (Ok t) = ap (λ (n : ℕ). Ok (record { side = t.side; marked = n })) (omega arith)
    same_job (Err e) = refl

module _ {text : List ℕ} {side : ℕ} {words₀ marks₀ words marks rest : List ℕ} {next marked : ℕ}
    (k : Cells text side words₀ marks₀ words marks rest next marked) where
  pub cells_end : length rest ≡ 0 → Done text side words₀ marks₀ words marks (Ok (record { side = side; marked = marked }))
  unfolding cells_from lines_of with_cells
  cells_end h =
      let n : rest ≡ [] = nil_from_length rest h in
      record {
        job = ap (λ (m : ℕ). Ok (record { side = side; marked = m })) (omega arith) ∙ rw n at k.job;
        words_laid = k.words_laid words (rw n refl);
        marks_laid = k.marks_laid marks (rw n refl);
      }

  refuse : {r : Result Job Refusal} → unread side rest next marked ≡ Err (refusal.Job (marked + 2)) → r ≡ Err (refusal.Job (marked + 2))
      → Done text side words₀ marks₀ words marks r
  refuse e f = record { job = f ∙ rw e at k.job; words_laid = k.words_laid words (rw e tt); marks_laid = k.marks_laid marks (rw e tt) }

  pub cells_unended : {r : Result Job Refusal} → (length rest ≡ 0 → ⊥) → bytes_before lf rest ≡ length rest → r ≡ Err (refusal.Job (marked + 2))
      → Done text side words₀ marks₀ words marks r
  unfolding cells_from
  cells_unended h u f = refuse (rw (lines_unended rest u (omega arith))) f

  module _ (line : List ℕ) (c : CellWord) (m : Some c ≡ mark_line next (cells side) line) where
    in_turn : (next ≤ c.index) × (c.index < cells side)
    in_turn = mark_in_order next (cells side) line c (sym m)

    pub cell_inside : c.index < 4096
    cell_inside = omega (arith, in_turn)

  module _ {line behind : List ℕ} (p : Parted lf rest line behind) where
    pub cells_malformed : {r : Result Job Refusal} → None ≡ mark_line next (cells side) line → r ≡ Err (refusal.Job (marked + 2))
        → Done text side words₀ marks₀ words marks r
    cells_malformed m f = refuse (rw (lines_parted rest line behind p) (by_malformed side next (marked + 2) line (lines_of behind) (sym m))) f

    module _ (c : CellWord) (m : Some c ≡ mark_line next (cells side) line) where
      pub cells_next : Cells text side words₀ marks₀ (set words c.index c.word) (set marks c.index 1) behind (c.index + 1) (marked + 1)
      cells_next = record {
        room = k.room;
        low = omega (arith, in_turn line c m);
        few = omega (arith, in_turn line c m);
        job = sym (job_also marked c (unread side behind (c.index + 1) (marked + 1))) ∙ rw step at k.job;
        words_laid = λ exit w. k.words_laid exit (rw step (with_cells-also (λ e. e.word) c (unread side behind (c.index + 1) (marked + 1)) words exit w));
        marks_laid = λ exit w. k.marks_laid exit (rw step (with_cells-also (λ e. 1) c (unread side behind (c.index + 1) (marked + 1)) marks exit w));
      }
        where
          on : suc (marked + 2) ≡ marked + 1 + 2
          on = omega arith

          step : unread side rest next marked ≡ also c (unread side behind (c.index + 1) (marked + 1))
          step = rw (lines_parted rest line behind p, add-one, ← on) (by_cell side next (marked + 2) line (lines_of behind) c (sym m))
