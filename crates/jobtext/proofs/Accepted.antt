-- What an accepted job is: its cells rise strictly and are below s⁴, and the lanes hold them.
use Rattle.std.proofs.Common.{◌≡◌, ℕ, suc, ◌+◌, ◌≤◌, ◌<◌, Bool, true, false, cond, List, [], ◌∷◌, Option, Some, None, Ok, Err, length, get_or, set, take, refl, ap, ◌∙◌, leb, ltb, eqb, arith, length-set, take_all, length-take-le, get_or-set_same, get_or-set_other}
use borrow.Author.Tests.{lt-ltb, ne_eqb, eqb-true, eqb-false, leb-true, leb-false}
use Rattle.texts.specs.Lines.{TextLine, ended, unended, lines_of}
use Rattle.array.specs.Cells.{is_side, cells}
use Rattle.answers.specs.declared.Refusal.TheVariants as refusal
use Rattle.jobtext.specs.declared.CellWord.{CellWord}
use Rattle.jobtext.specs.Verdicts.{mark_line, TextVerdict, also, cells_from, text_verdict, side_of, job_from}
use Rattle.jobtext.specs.Lanes.{with_cells}
use Rattle.jobtext.proofs.Entries.{mark_in_order}

-- The cells of an accepted job rise strictly and are below s⁴.
unfoldable pub Rising : ℕ → ℕ → List CellWord → Type 0
Rising next end [] = Unit {0}
Rising next end (e ∷ es) = (next ≤ e.index) × (e.index < end) × Rising (suc e.index) end es

unfoldable pub Sound : ℕ → ℕ → TextVerdict → Type 0
Sound s next (Ok t) = (t.side ≡ s) × Rising next (cells s) t.marked
Sound s next (Err e) = Unit {0}

sound_also : (s next : ℕ) (c : CellWord) (v : TextVerdict) → (next ≤ c.index) × (c.index < cells s) → Sound s (suc c.index) v → Sound s next (also c v)
unfolding Sound Rising also
sound_also s next c (Ok t) o h = (h.0, (o.0, o.1, h.1))
sound_also s next c (Err e) o h = tt

pub sound : (s next k : ℕ) (ls : List TextLine) → Sound s next (cells_from s next k ls)
unfolding Sound Rising cells_from
sound s next k [] = (refl, tt)
sound s next k (unended ∷ ls) = tt
sound s next k (ended line ∷ ls) = go (mark_line next (cells s) line) refl (λ i. sound s (suc i) (suc k) ls)
  where
    go : (o : Option CellWord) → mark_line next (cells s) line ≡ o → ((i : ℕ) → Sound s (suc i) (cells_from s (suc i) (suc k) ls))
        → Sound s next (cells_from s next k (ended line ∷ ls))
    go (Some c) q ih = rw (q, cells_from) (sound_also s next c _ (mark_in_order next (cells s) line c q) (ih c.index))
    go None q ih = rw (q, cells_from) tt

-- The table of an accepted job: the value of each marked cell at its index, and what was there elsewhere.
unfoldable pub cell_value : (CellWord → ℕ) → List CellWord → ℕ → ℕ → ℕ
cell_value value [] i other = other
cell_value value (e ∷ es) i other = cond (eqb i e.index) (value e) (cell_value value es i other)

pub absent : (value : CellWord → ℕ) (es : List CellWord) (next end i other : ℕ) → i < next → Rising next end es → cell_value value es i other ≡ other
unfolding cell_value Rising
absent value [] next end i other h r = refl
absent value (e ∷ es) next end i other h r =
    rw (ne_eqb i e.index (λ q. omega (arith, r.0))) (absent value es (suc e.index) end i other (omega (arith, r.0)) r.2)

pub table : (value : CellWord → ℕ) (es : List CellWord) (next end : ℕ) (lane : List ℕ) (i : ℕ) → Rising next end es → end ≤ length lane
    → get_or (with_cells value es lane) i 0 ≡ cell_value value es i (get_or lane i 0)
unfolding cell_value Rising with_cells
table value [] next end lane i r h = refl
table value (e ∷ es) next end lane i r h =
    table value es (suc e.index) end (set lane e.index (value e)) i r.2 (rw length-set h) ∙ go (eqb i e.index) refl
  where
    go : (t : Bool) → eqb i e.index ≡ t
        → cell_value value es i (get_or (set lane e.index (value e)) i 0) ≡ cond (eqb i e.index) (value e) (cell_value value es i (get_or lane i 0))
    go true q =
        let f : i ≡ e.index = eqb-true i e.index q in
        rw q (absent value es (suc e.index) end i _ (omega arith) r.2 ∙ rw f (get_or-set_same lane e.index (value e) 0 (omega (arith, r.1))))
    go false q = rw (q, get_or-set_other lane e.index i (value e) 0 (eqb-false i e.index q))

-- there are no more marked cells than cells
pub few : (es : List CellWord) (next end : ℕ) → next ≤ end → Rising next end es → next + length es ≤ end
unfolding Rising
few [] next end h r = omega arith
few (e ∷ es) next end h r = omega (arith, few es (suc e.index) end r.1 r.2, r.0)

-- what every job is known by: its side is one that is built, and its cells rise and are the board's
abbrev pub Known : TextVerdict → Type 0
Known (Ok t) = (is_side t.side ≡ true) × Rising 0 (cells t.side) t.marked
Known (Err e) = Unit {0}

cells_known : (s : ℕ) (v : TextVerdict) → is_side s ≡ true → Sound s 0 v → Known v
unfolding Sound
cells_known s (Ok t) e d = (rw d.0 e, rw d.0 d.1)
cells_known s (Err e') e d = tt

lines_known : (ls : List TextLine) → Known (job_from ls)
unfolding job_from
lines_known [] = tt
lines_known (unended ∷ ls) = tt
lines_known (ended line ∷ ls) = go (side_of line) refl
  where
    by : (s : ℕ) (t : Bool) → is_side s ≡ t → Known (cond t (cells_from s 0 2 ls) (Err refusal.Side))
    by s true e = cells_known s (cells_from s 0 2 ls) e (sound s 0 2 ls)
    by s false e = tt

    go : (n : Option ℕ) → side_of line ≡ n → Known (job_from (ended line ∷ ls))
    go (Some s) q = rw (q, job_from) (by s (is_side s) refl)
    go None q = rw (q, job_from) tt

pub known : (text : List ℕ) → Known (text_verdict text)
unfolding text_verdict
known text = go (ltb 65536 (length text))
  where
    go : (t : Bool) → Known (cond t (Err (refusal.Job 0)) (job_from (lines_of text)))
    go true = tt
    go false = lines_known (lines_of text)

-- A program that reads 65,537 bytes has read enough.
pub enough : (text : List ℕ) → text_verdict (take 65537 text) ≡ text_verdict text
unfolding text_verdict
enough text = go (leb (length text) 65537) refl
  where
    go : (t : Bool) → leb (length text) 65537 ≡ t → text_verdict (take 65537 text) ≡ text_verdict text
    go true e = ap text_verdict (take_all 65537 text (leb-true _ _ e))
    go false e =
        let l : 65537 < length text = leb-false _ _ e in
        let f : length (take 65537 text) ≡ 65537 = length-take-le 65537 text (omega arith) in
        rw (f, lt-ltb 65536 (length text) (omega arith))
