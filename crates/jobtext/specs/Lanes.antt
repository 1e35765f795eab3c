-- What reading a job answers, and what it leaves in the lanes.
use Rattle.std.specs.Prelude.{ℕ, ◌≡◌, List, [], ◌∷◌, Result, Ok, Err, length, set, replicate}
use Rattle.answers.specs.declared.Refusal.{Refusal}
use Rattle.jobtext.specs.declared.Job.{Job}
use Rattle.jobtext.specs.declared.CellWord.{CellWord}
use Rattle.jobtext.specs.Verdicts.{TextVerdict}

-- the side and how many cells are marked, or the refusal
unfoldable pub job_of : TextVerdict → Result Job Refusal
job_of (Ok t) = Ok (record { side = t.side; marked = length t.marked })
job_of (Err e) = Err e

-- a lane with the value of each marked cell at its index
unfoldable pub with_cells : (CellWord → ℕ) → List CellWord → List ℕ → List ℕ
with_cells value [] lane = lane
with_cells value (e ∷ es) lane = with_cells value es (set lane e.index (value e))

-- a lane of 4,096 entries: the values of the marked cells, and 0 elsewhere; as it was where the job is refused
unfoldable pub lane_of : (CellWord → ℕ) → TextVerdict → List ℕ → List ℕ
lane_of value (Ok t) lane = with_cells value t.marked (replicate 4096 0)
lane_of value (Err e) lane = lane

abbrev pub words_of : TextVerdict → List ℕ → List ℕ
words_of = lane_of (λ e. e.word)

abbrev pub marks_of : TextVerdict → List ℕ → List ℕ
marks_of = lane_of (λ e. 1)

-- reading a job: the answer is the verdict's, and so are the lanes
pub record JobRead (v : TextVerdict) (words₀ words marks₀ marks : List ℕ) (r : Result Job Refusal) : Type 0 where
  pub answer : r ≡ job_of v
  pub words_are : words ≡ words_of v words₀
  pub marks_are : marks ≡ marks_of v marks₀

-- reading the later lines: where the job is accepted its cells are laid over what the lanes held
-- nothing is said of the lanes of a refused job: these are lanes that the reader keeps to itself
abbrev pub WithCells : (CellWord → ℕ) → TextVerdict → List ℕ → List ℕ → Type 0
WithCells value (Ok t) entry exit = exit ≡ with_cells value t.marked entry
WithCells value (Err e) entry exit = Unit {0}

pub record CellsRead (v : TextVerdict) (words₀ words marks₀ marks : List ℕ) (r : Result Job Refusal) : Type 0 where
  pub job : r ≡ job_of v
  pub words_laid : WithCells (λ e. e.word) v words₀ words
  pub marks_laid : WithCells (λ e. 1) v marks₀ marks
