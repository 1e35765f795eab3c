-- Lanes as they are before the first move: an unmarked cell holds 0, and so does every cell of a spare lane.
use Rattle.std.specs.Prelude.{ℕ, cond, List, eqb, length, get_or}
use Rattle.laws.specs.Tables.{entries}

-- cell i keeps what it holds where it is marked, and is empty elsewhere
abbrev pub kept_or_at : {A : Type 0} → A → List ℕ → List A → ℕ → A
kept_or_at empty marks lane i = cond (eqb (get_or marks i 0) 1) (get_or lane i empty) empty

-- a lane with as many marks does so, and any other stays as it is
abbrev pub kept_or : {A : Type 0} → A → List ℕ → List A → List A
kept_or empty marks lane = cond (eqb (length marks) (length lane)) (entries (kept_or_at empty marks lane) 0 (length lane)) lane

-- the same of numbers, of which 0 is the empty one
abbrev pub kept_at : List ℕ → List ℕ → ℕ → ℕ
kept_at = kept_or_at 0

abbrev pub kept : List ℕ → List ℕ → List ℕ
kept = kept_or 0

-- every cell of a lane is empty
abbrev pub emptied : {A : Type 0} → A → List A → List A
emptied empty lane = entries (λ i. empty) 0 (length lane)

abbrev pub zeros : List ℕ → List ℕ
zeros = emptied 0
