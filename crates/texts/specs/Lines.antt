-- The lines of a text, and the fields of a line.
use Rattle.std.specs.Prelude.{◌≡◌, ◌<◌, ℕ, suc, List, [], ◌∷◌, cond, length, take, drop, eqb}
use Rattle.std.specs.List.{position_or_len, slice_split}
use Rattle.texts.specs.Bytes.{tab, lf}

-- how many bytes stand before the first b: all of them where there is none
unfoldable pub bytes_before : ℕ → List ℕ → ℕ
bytes_before b s = position_or_len (λ x. eqb x b) s

-- a text parted at its first b
pub record Parted (b : ℕ) (s front back : List ℕ) : Type 0 where
  pub found : bytes_before b s < length s
  pub front_is : front ≡ take (bytes_before b s) s
  pub back_is : back ≡ drop (suc (bytes_before b s)) s

-- a line of two fields, parted by one tab; where there is no tab the second is empty, and a second tab stands in the second field
unfoldable pub first_field : List ℕ → List ℕ
first_field line = take (bytes_before tab line) line

unfoldable pub second_field : List ℕ → List ℕ
second_field line = drop (suc (bytes_before tab line)) line

-- all the fields of a line: each tab ends one, and the last goes up to the end of the line
unfoldable pub fields_of : List ℕ → List (List ℕ)
fields_of s = slice_split (λ b. eqb b tab) s

-- a line ends in LF; what stands behind the last LF, where that is anything, is a line that does not
pub data TextLine : Type 0 where
  ended : List ℕ → TextLine
  unended : TextLine

-- lines with one byte more in front
unfoldable pub with_byte : ℕ → List TextLine → List TextLine
with_byte b [] = unended ∷ []
with_byte b (unended ∷ ls) = unended ∷ ls
with_byte b (ended line ∷ ls) = ended (b ∷ line) ∷ ls

unfoldable pub lines_of : List ℕ → List TextLine
lines_of [] = []
lines_of (b ∷ s) = cond (eqb b lf) (ended [] ∷ lines_of s) (with_byte b (lines_of s))
