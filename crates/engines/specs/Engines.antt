-- When the stepping engine and the plain one agree: they answered the same input.
use Rattle.std.specs.Prelude.{ℕ, ◌≡◌, Bool, true, false, not, ◌&&◌, ◌||◌, List, ltb, eqb, length}
use Rattle.runs.specs.declared.Run.{Run}
use Rattle.runs.specs.Runs.{moves}
use Rattle.answers.specs.declared.Answer.{Answer}

-- the numbers that come behind 3, and 0
abbrev pub comes_later : ℕ → Bool
comes_later n = eqb n 0 || (eqb n 5 || eqb n 6)

-- a log of so many entries has room for a list
abbrev pub has_room : List Run → ℕ → Bool
has_room list n = not (ltb n (length (moves list)))

-- and so have two logs
abbrev pub have_room : List Run → ℕ → ℕ → Bool
have_room list codes moved = has_room list codes && has_room list moved

-- stepping answered r and plain p; room: whether the logs have room for the list; Same: both leave the same in the lanes
pub record EnginesAgree (room : Bool) (r p : Answer) (Same : Type 0) : Type 0 where
  pub with_room : room ≡ true → (r ≡ p) × Same
  -- without room stepping answers 3 exactly where plain answers 0, 5 or 6
  pub three : room ≡ false → eqb r.number 3 ≡ comes_later p.number
  -- and elsewhere both do the same
  pub others : room ≡ false → comes_later p.number ≡ false → (r ≡ p) × Same
