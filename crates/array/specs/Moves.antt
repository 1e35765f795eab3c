-- The moves, their codes in a log, and runs of moves.
use Rattle.std.specs.Prelude.{ℕ, ◌≡◌, Bool, true, false, cond, [], ◌∷◌, Option, Result, slice_get, option_map, ok_or}
use Rattle.array.specs.declared.moves.Way.{Way}
use Rattle.array.specs.declared.moves.Way.TheVariants.{Right, Left, Up, Down}
use Rattle.array.specs.declared.moves.Move.{Move}
use Rattle.array.specs.declared.moves.Move.TheVariants.{Swap, Electronic}
use Rattle.array.specs.declared.moves.LogLine.{LogLine}
use Rattle.array.specs.declared.moves.UnknownCode.{UnknownCode}

-- whether a way goes along the rows of a group, and not its columns
abbrev pub is_along_rows : Way → Bool
is_along_rows Right = true
is_along_rows Left = true
is_along_rows Up = false
is_along_rows Down = false

-- whether it goes forth, to greater columns or rows
abbrev pub is_forth : Way → Bool
is_forth Right = true
is_forth Left = false
is_forth Up = false
is_forth Down = true

-- from one place of its line to the next in a group of side s, and from one line to the next
abbrev pub stride_of : ℕ → Way → ℕ
stride_of s w = cond (is_along_rows w) 1 s

abbrev pub line_gap : ℕ → Way → ℕ
line_gap s w = cond (is_along_rows w) s 1

-- the code of a move in a log
abbrev pub code_of : Move → ℕ
code_of Swap = 0
code_of (Electronic Right) = 1
code_of (Electronic Left) = 2
code_of (Electronic Up) = 3
code_of (Electronic Down) = 4

-- the way that undoes a way, and the move that undoes a move
abbrev pub opposite : Way → Way
opposite Right = Left
opposite Left = Right
opposite Up = Down
opposite Down = Up

abbrev pub turned : Move → Move
turned Swap = Swap
turned (Electronic w) = Electronic (opposite w)

-- the moves by their names
abbrev pub swap : Move
swap = Swap

abbrev pub right : Move
right = Electronic Right

abbrev pub left : Move
left = Electronic Left

abbrev pub up : Move
up = Electronic Up

abbrev pub down : Move
down = Electronic Down

-- the move that a code says: there are five
abbrev pub move_of : ℕ → Option Move
move_of code = slice_get (swap ∷ right ∷ left ∷ up ∷ down ∷ []) code

-- a code is read as its move, or else it is handed back
abbrev pub Decoded : ℕ → Result Move UnknownCode → Type 0
Decoded code r = r ≡ ok_or (move_of code) (record { 0 = code })

-- what a code and a moved count say, as a log line
abbrev pub logged_of : ℕ → ℕ → Option LogLine
logged_of code moved = option_map (λ m. record { step = m; moved = moved }) (move_of code)
