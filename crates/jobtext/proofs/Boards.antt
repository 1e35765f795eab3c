-- The lanes of a job that was read: what they hold, and the part of them that is its board's.
use Rattle.std.proofs.Common.{◌≡◌, ℕ, zero, suc, ◌*◌, ◌≤◌, ◌<◌, Bool, true, false, cond, List, [], ◌∷◌, Result, Ok, Err, length, get_or, set, take, replicate, refl, sym, ap, ◌∙◌, eqb, arith, length-set, length-take-le, Fits, w64}
use lib.ListN.{length-replicate}
use lib.Seq.{get_or-take, take-set-lt}
use Rattle.array.specs.Cells.{is_side, cells}
use Rattle.array.proofs.Board.{side_known}
use Rattle.answers.specs.declared.Refusal.{Refusal}
use Rattle.jobtext.specs.declared.Job.{Job}
use Rattle.jobtext.specs.declared.CellWord.{CellWord}
use Rattle.jobtext.specs.Verdicts.{TextVerdict, text_verdict}
use Rattle.jobtext.specs.Lanes.{with_cells, lane_of, job_of, JobRead}
use Rattle.jobtext.proofs.Cells.{cells_fit}
use Rattle.jobtext.proofs.Accepted.{Rising, Known, known, cell_value, table}

-- a whole lane of a job
abbrev pub lane_in : (CellWord → ℕ) → List CellWord → List ℕ
lane_in value es = with_cells value es (replicate 4096 0)

-- the mark that a list of marked cells gives cell k: 0 or 1
abbrev pub mark_at : List CellWord → ℕ → ℕ
mark_at es k = cell_value (λ e. 1) es k 0

mark_small : (es : List CellWord) (k : ℕ) → mark_at es k < 2
unfolding cell_value
mark_small [] k = omega arith
mark_small (e ∷ es) k = go (eqb k e.index) (mark_small es k)
  where
    go : (t : Bool) → mark_at es k < 2 → cond t 1 (mark_at es k) < 2
    go true h = omega arith
    go false h = h

with_cells_long : (value : CellWord → ℕ) (es : List CellWord) (lane : List ℕ) → length (with_cells value es lane) ≡ length lane
unfolding with_cells
with_cells_long value [] lane = refl
with_cells_long value (e ∷ es) lane = with_cells_long value es (set lane e.index (value e)) ∙ length-set lane e.index (value e)

-- cells that are in a part of a lane are laid over that part
with_cells-part : (value : CellWord → ℕ) (es : List CellWord) (next n : ℕ) (lane : List ℕ) → Rising next n es
    → take n (with_cells value es lane) ≡ with_cells value es (take n lane)
unfolding with_cells Rising
with_cells-part value [] next n lane d = refl
with_cells-part value (e ∷ es) next n lane d =
    with_cells-part value es (suc e.index) n (set lane e.index (value e)) d.2
    ∙ ap (with_cells value es) (take-set-lt n lane e.index (value e) d.1)

zeros : (n k : ℕ) → ◌≡◌ {A = ℕ} (get_or (replicate n 0) k 0) 0
zeros zero k = refl
zeros (suc n) zero = refl
zeros (suc n) (suc k) = zeros n k

zeros-part : (n m : ℕ) → n ≤ m → ◌≡◌ {A = List ℕ} (take n (replicate m 0)) (replicate n 0)
zeros-part zero m h = refl
zeros-part (suc n) zero h = absurd (omega arith)
zeros-part (suc n) (suc m) h = ap (λ (l : List ℕ). 0 ∷ l) (zeros-part n m (omega arith))

-- an entry of a lane
pub lane-at : (es : List CellWord) (end : ℕ) → end ≤ 4096 → Rising 0 end es → (value : CellWord → ℕ) (k : ℕ)
    → get_or (lane_in value es) k 0 ≡ cell_value value es k 0
lane-at es end room d value k = table value es 0 end (replicate 4096 0) k d (rw length-replicate room) ∙ ap (cell_value value es k) (zeros 4096 k)

lane_long : (value : CellWord → ℕ) (es : List CellWord) → length (lane_in value es) ≡ 4096
lane_long value es = with_cells_long value es (replicate 4096 0) ∙ length-replicate {A = ℕ} 4096 0

-- the part of a lane that is the board's
module _ (s : ℕ) (es : List CellWord) (side : is_side s ≡ true) (d : Rising 0 (cells s) es) where
  few : cells s ≤ 4096
  few = (side_known s side).cells_few

  pub part_long : (value : CellWord → ℕ) → length (take (cells s) (lane_in value es)) ≡ cells s
  part_long value = length-take-le (cells s) (lane_in value es) (omega (arith, few, lane_long value es))

  pub part_at : (value : CellWord → ℕ) (k : ℕ) → k < cells s → get_or (take (cells s) (lane_in value es)) k 0 ≡ get_or (lane_in value es) k 0
  part_at value k h = get_or-take (cells s) (lane_in value es) k 0 h

  -- it is a lane of the board's own
  pub part_is : (value : CellWord → ℕ) → take (cells s) (lane_in value es) ≡ with_cells value es (replicate (cells s) 0)
  part_is value = with_cells-part value es 0 (cells s) (replicate 4096 0) d ∙ ap (with_cells value es) (zeros-part (cells s) 4096 few)

  -- its marks are 0 or 1
  pub part-marks : (k : ℕ) → k < length (take (cells s) (lane_in (λ e. 1) es)) → get_or (take (cells s) (lane_in (λ e. 1) es)) k 0 < 2
  part-marks k h = rw (part_at (λ e. 1) k (omega (arith, part_long (λ e. 1))), lane-at es (cells s) few d (λ e. 1) k) (mark_small es k)

-- a job of side s with k marked cells es that was read into lanes
pub record Taken (v : TextVerdict) (s k : ℕ) (es : List CellWord) (w m : List ℕ) : Type 0 where
  pub is : v ≡ Ok (record { side = s; marked = es })
  pub count : k ≡ length es
  pub words_are : w ≡ lane_in (λ e. e.word) es
  pub marks_are : m ≡ lane_in (λ e. 1) es
  pub side : is_side s ≡ true
  pub rising : Rising 0 (cells s) es

module _ {w₀ w m₀ m : List ℕ} {r : Result Job Refusal} where
  taken_of : (v : TextVerdict) → Known v → JobRead v w₀ w m₀ m r → (j : Job) → r ≡ Ok j → (es : List CellWord) × Taken v j.side j.marked es w m
  unfolding job_of lane_of
  taken_of (Ok t) n z j e =
      let q : j ≡ record { side = t.side; marked = length t.marked } = cc (z.answer, e) in
      (t.marked, rw q (record { is = refl; count = refl; words_are = z.words_are; marks_are = z.marks_are; side = n.0; rising = n.1 }))
  taken_of (Err f) n z j e = cc (z.answer, e)

  refused_of : (v : TextVerdict) → JobRead v w₀ w m₀ m r → (e : Refusal) → r ≡ Err e → v ≡ Err e
  unfolding job_of
  refused_of (Ok t) z e q = cc (z.answer, q)
  refused_of (Err f) z e q = let x : f ≡ e = cc (z.answer, q) in rw x

  module _ (text : List ℕ) (z : JobRead (text_verdict text) w₀ w m₀ m r) where
    pub refused_is : (e : Refusal) → r ≡ Err e → text_verdict text ≡ Err e
    refused_is e q = refused_of (text_verdict text) z e q

    module _ (j : Job) (e : r ≡ Ok j) where
      pub taken : (es : List CellWord) × Taken (text_verdict text) j.side j.marked es w m
      taken = taken_of (text_verdict text) (known text) z j e

      side : is_side j.side ≡ true
      side = taken.1.side

      small : j.side ≤ 8
      small = (side_known j.side side).most

      pub ready_cells : Fits w64 (j.side * j.side * (j.side * j.side))
      ready_cells = cells_fit j.side small

      -- the lanes have room for the board
      pub words_room : j.side * j.side * (j.side * j.side) ≤ length w
      words_room = omega (arith, (side_known j.side side).cells_few, ap length taken.1.words_are, lane_long (λ e. e.word) taken.0)

      pub marks_room : j.side * j.side * (j.side * j.side) ≤ length m
      marks_room = omega (arith, (side_known j.side side).cells_few, ap length taken.1.marks_are, lane_long (λ e. 1) taken.0)

      pub words-part : j.side * j.side * (j.side * j.side) ≡ length (take (j.side * j.side * (j.side * j.side)) w)
      words-part = sym (length-take-le _ w words_room)

      pub marks-part : j.side * j.side * (j.side * j.side) ≡ length (take (j.side * j.side * (j.side * j.side)) m)
      marks-part = sym (length-take-le _ m marks_room)
