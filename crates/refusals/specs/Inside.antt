-- What private functions' contracts cite; the public contracts are read without it.
use Rattle.std.specs.Prelude.{ℕ, ◌-◌, ◌<◌, ◌≤◌, ◌≡◌, Bool, true, false, cond, ltb, Option, Some, None, List, length, get_or}
use Rattle.array.specs.Cells.{is_cell}
use Rattle.lists.specs.declared.Trip.{Trip}
use Rattle.refusals.specs.declared.Frame.{Frame}
use Rattle.refusals.specs.Cases.{bad_aim, first_aim}

-- the first cell whose aim is wrong, if there is one
abbrev pub found_aim : Trip → Frame → Option ℕ
found_aim trip t =
    let i = first_aim trip t.side t.marks.now t.aims.now in
    cond (ltb i (length t.marks.now)) (Some i) None

-- as many marks as aims, and no more than a board has
pub record OneBoard (marks aims : List ℕ) : Type 0 where
  pub long : length marks ≡ length aims
  pub few : length marks ≤ 4096

-- marks that are 0 or 1, no more than a board has, and as many aims
pub record GoodMarks (marks aims : List ℕ) : Type 0 where
  pub long : length marks ≡ length aims
  pub few : length marks ≤ 4096
  pub good : (i : ℕ) → i < length marks → get_or marks i 0 < 2

-- where a test passed: the first cells, so many, are marked; their aims rise; the last of them is a cell, if there is one
pub record AllMarked (count : ℕ) (marks : List ℕ) (passed : Bool) : Type 0 where
  pub each : passed ≡ true → (i : ℕ) → i < count → get_or marks i 0 ≡ 1

pub record AllRising (count : ℕ) (aims : List ℕ) (passed : Bool) : Type 0 where
  pub each : passed ≡ true → (i : ℕ) → 0 < i → i < count → get_or aims (i - 1) 0 < get_or aims i 0

pub record LastInside (s count : ℕ) (aims : List ℕ) (passed : Bool) : Type 0 where
  pub cell : passed ≡ true → 0 < count → is_cell s (get_or aims (count - 1) 0) ≡ true

-- and no aim is wrong
pub record NoneBad (trip : Trip) (s : ℕ) (marks aims : List ℕ) (passed : Bool) : Type 0 where
  pub none : passed ≡ true → (i : ℕ) → i < length marks → bad_aim trip s marks aims i ≡ false
