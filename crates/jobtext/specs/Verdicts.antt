-- What a job text is: every sequence of bytes is a job, or is refused with one number and one place.
use Rattle.std.specs.Prelude.{ℕ, suc, List, [], ◌∷◌, Option, Some, None, Result, Ok, Err, Bool, cond, ◌&&◌, length, leb, ltb}
use Rattle.std.specs.Str.{bytes_eq}
use Rattle.texts.specs.Bytes.{bytes}
use Rattle.array.specs.Cells.{is_side, cells}
use Rattle.answers.specs.declared.Refusal.{Refusal}
use Rattle.answers.specs.declared.Refusal.TheVariants.{Side, Job}
use Rattle.texts.specs.Numbers.{number_of}
use Rattle.texts.specs.Lines.{first_field, second_field, TextLine, ended, unended, lines_of}
use Rattle.jobtext.specs.declared.CellWord.{CellWord}

abbrev pub side_if : Bool → Option ℕ → Option ℕ
side_if named n = cond named n None

-- the side that the first line gives: `side`, side
unfoldable pub side_of : List ℕ → Option ℕ
side_of line = side_if (bytes_eq (first_field line) (bytes "side")) (number_of (second_field line))

-- a later line is two numbers: index, word
abbrev pub pair : Option ℕ → Option ℕ → Option CellWord
pair (Some i) (Some w) = Some (record { index = i; word = w })
pair (Some i) None = None
pair None m = None

abbrev pub in_order : ℕ → ℕ → Option CellWord → Option CellWord
in_order next end (Some c) = cond (leb next c.index && ltb c.index end) (Some c) None
in_order next end None = None

-- the marked cell that a later line gives, where its index is at least next and below end
unfoldable pub mark_line : ℕ → ℕ → List ℕ → Option CellWord
mark_line next end line = in_order next end (pair (number_of (first_field line)) (number_of (second_field line)))

-- what a text that is a job says: the side, and the marked cells in order
pub record JobText : Type 0 where
  pub side : ℕ
  pub marked : List CellWord

abbrev pub TextVerdict : Type 0
TextVerdict = Result JobText Refusal

-- a verdict on the later lines, with one marked cell before them
unfoldable pub also : CellWord → TextVerdict → TextVerdict
also c (Ok t) = Ok (record { side = t.side; marked = c ∷ t.marked })
also c (Err e) = Err e

-- the lines from line k on, where the next index is at least next; the first bad one is named
unfoldable pub cells_from : ℕ → ℕ → ℕ → List TextLine → TextVerdict
cells_from s next k [] = Ok (record { side = s; marked = [] })
cells_from s next k (unended ∷ ls) = Err (Job k)
cells_from s next k (ended line ∷ ls) =
    elim (mark_line next (cells s) line) [
      | Some c ↦ also c (cells_from s (suc c.index) (suc k) ls)
      | None ↦ Err (Job k)
    ]

-- all the lines: a side outside 1 to 8 is refusal 1, and no later line is judged
unfoldable pub job_from : List TextLine → TextVerdict
job_from [] = Err (Job 1)
job_from (unended ∷ ls) = Err (Job 1)
job_from (ended line ∷ ls) =
    elim (side_of line) [
      | Some s ↦ cond (is_side s) (cells_from s 0 2 ls) (Err Side)
      | None ↦ Err (Job 1)
    ]

-- a text of more than 65,536 bytes is refused before anything in it is judged
unfoldable pub text_verdict : List ℕ → TextVerdict
text_verdict text = cond (ltb 65536 (length text)) (Err (Job 0)) (job_from (lines_of text))
