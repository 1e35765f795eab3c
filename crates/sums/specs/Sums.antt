-- Words added and taken off modulo 2 ^ 32, and what combining makes of a lane of words.
use Rattle.std.specs.Prelude.{ℕ, ◌+◌, ◌-◌, ◌%◌, ◌^◌, cond, List, length, ◌==◌, slice_index}
use Rattle.laws.specs.Tables.{entries}

abbrev pub plus : ℕ → ℕ → ℕ
plus own x = (own + x) % (2 ^ 32)

abbrev pub minus : ℕ → ℕ → ℕ
minus own x = (own + (2 ^ 32 - x % (2 ^ 32))) % (2 ^ 32)

-- a lane whose words became, cell by cell, what f makes of the cell and its word
abbrev pub cellwise : (ℕ → ℕ → ℕ) → List ℕ → List ℕ
cellwise f l = entries (λ i. f i (slice_index l i)) 0 (length l)

-- l with the words of m combined into its own, as plus or minus says; where m is longer or shorter, l stays
abbrev pub combined_words : (ℕ → ℕ → ℕ) → List ℕ → List ℕ → List ℕ
combined_words op l m = cond (length l == length m) (cellwise (λ i own. op own (slice_index m i)) l) l
