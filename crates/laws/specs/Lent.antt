-- A slice of numbers that a function is lent: what it held, and what it holds.
use Rattle.std.specs.Prelude.{ℕ, ◌≡◌, List}
use denote.Triple.Both.{Both}
use Rattle.std.specs.Borrow.{MutBor}

-- in a requires
abbrev pub Slice : Type 0
Slice = MutBor (List ℕ)

-- in an ensures
abbrev pub Lent : Type 0
Lent = Both (MutBor (List ℕ)) (MutBor (List ℕ))

abbrev pub old : Lent → List ℕ
old l = l.entry.now

abbrev pub new : Lent → List ℕ
new l = l.exit.now

-- it holds what it held
abbrev pub Kept : Lent → Type 0
Kept l = new l ≡ old l
