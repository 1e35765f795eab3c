-- What a cell holds: a record in front, and a second one in the spare slot. A slot without a record holds 0 in every lane.
use Rattle.std.specs.Prelude.{ℕ, ◌+◌, cond, ◌≡◌, List, length, get_or, ltb, eqb}
use Rattle.slots.specs.declared.Rec.{Rec}
use Rattle.slots.specs.declared.Cell.{Cell}

abbrev pub nothing : Rec
nothing = record { word = 0; mark = 0; aim = 0 }

abbrev pub empty : Cell
empty = record { front = nothing; spare = nothing }

-- a cell with one record
abbrev pub alone : Rec → Cell
alone x = record { front = x; spare = nothing }

-- a cell with a record put in: of two the one with the smaller aim is in front
unfoldable pub joined : Cell → Rec → Cell
joined c x =
    cond (eqb x.mark 0)
    c
    (cond (eqb c.front.mark 0)
    (alone x)
    (cond (ltb x.aim c.front.aim) (record { front = x; spare = c.front }) (record { front = c.front; spare = x })))

-- the record in cell i of three lanes, and what cell i of six lanes holds
abbrev pub record_in : List ℕ → List ℕ → List ℕ → ℕ → Rec
record_in words marks aims i = record { word = get_or words i 0; mark = get_or marks i 0; aim = get_or aims i 0 }

abbrev pub cell_at : List ℕ → List ℕ → List ℕ → List ℕ → List ℕ → List ℕ → ℕ → Cell
cell_at words marks aims words₂ marks₂ aims₂ i = record { front = record_in words marks aims i; spare = record_in words₂ marks₂ aims₂ i }

-- six lanes of n cells
pub record Sized (n : ℕ) (w m a w₂ m₂ a₂ : List ℕ) : Type 0 where
  pub words : length w ≡ n
  pub marks : length m ≡ n
  pub aims : length a ≡ n
  pub words2 : length w₂ ≡ n
  pub marks2 : length m₂ ≡ n
  pub aims2 : length a₂ ≡ n

-- how many records a slot and a cell hold
abbrev pub count_of : Rec → ℕ
count_of x = cond (eqb x.mark 0) 0 1

abbrev pub marks_in : Cell → ℕ
marks_in c = count_of c.front + count_of c.spare
