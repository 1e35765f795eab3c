-- What the text of a capture is: moves, each with its code and the records after it, or the first line that is refused.
use Rattle.std.specs.Prelude.{Some, None, ℕ, suc, ◌+◌, ◌*◌, List, [], ◌∷◌, Bool, cond, ◌&&◌, ◌||◌, length, eqb, leb, ltb}
use Rattle.texts.specs.Lines.{TextLine, ended, unended, lines_of}
use Rattle.texts.specs.Numbers.{numbers_in}
use Rattle.texts.specs.declared.read.Numbers.TheVariants.{Two, Four}
use Rattle.array.specs.Cells.{cells}
use Rattle.lists.specs.Lists.{total_moves}
use Rattle.captures.specs.declared.Held.{Held}

-- a record as a line has it
abbrev pub held_of : ℕ → ℕ → ℕ → ℕ → Held
held_of cell slot word aim = record { cell = cell; slot = slot; word = word; aim = aim }

-- the order of the records after a move: by cell, and the front slot before the spare one
abbrev pub order_of : Held → ℕ
order_of h = h.cell * 2 + h.slot

-- a captured move: its code, and the records after it
pub record Captured : Type 0 where
  pub code : ℕ
  pub records : List Held

-- what lines are: the records that still belong to the move before them, and the moves; or the number of the first bad line
pub data CaptureVerdict : Type 0 where
  is_capture : List Held → List Captured → CaptureVerdict
  no_capture : ℕ → CaptureVerdict

-- with the line of a move, or of a record, in front
unfoldable pub with_move : ℕ → CaptureVerdict → CaptureVerdict
with_move code (is_capture hs ms) = is_capture [] (record { code = code; records = hs } ∷ ms)
with_move code (no_capture k) = no_capture k

unfoldable pub with_record : Held → CaptureVerdict → CaptureVerdict
with_record h (is_capture hs ms) = is_capture (h ∷ hs) ms
with_record h (no_capture k) = no_capture k

-- after so many moves: the number of a move is the next one, and not past the list
abbrev pub in_turn : ℕ → ℕ → ℕ → Bool
in_turn s made number = eqb number (suc made) && leb number (total_moves s)

-- and a record stands behind a move, in a cell and a slot that there are, not before `next` in the order
abbrev pub in_place : ℕ → ℕ → ℕ → Held → Bool
in_place s made next h = ltb 0 made && (ltb h.cell (cells s) && (leb h.slot 1 && leb next (order_of h)))

-- the lines from line k on, after so many moves and the records before `next`; the first bad line is named
unfoldable pub capture_from : ℕ → ℕ → ℕ → ℕ → List TextLine → CaptureVerdict
capture_from s made next k [] = is_capture [] []
capture_from s made next k (unended ∷ ls) = no_capture k
capture_from s made next k (ended line ∷ ls) =
    elim (numbers_in line) [
      | Some (Two number code) ↦ cond (in_turn s made number) (with_move code (capture_from s number 0 (suc k) ls)) (no_capture k)
      | Some (Four cell slot word aim) ↦
          cond (in_place s made next (held_of cell slot word aim))
          (with_record (held_of cell slot word aim) (capture_from s made (suc (order_of (held_of cell slot word aim))) (suc k) ls))
          (no_capture k)
      | None ↦ no_capture k
    ]

-- a capture of more than 65,536 bytes, or of a side above 3, is refused before anything in it is judged
unfoldable pub capture_verdict : ℕ → List ℕ → CaptureVerdict
capture_verdict s text = cond (ltb 65536 (length text) || ltb 3 s) (no_capture 0) (capture_from s 0 0 1 (lines_of text))
