-- Numbers in a job text: decimal, up to 4,294,967,295, with no leading zero.
use Rattle.std.specs.Prelude.{ℕ, ◌+◌, ◌-◌, ◌*◌, List, [], ◌∷◌, Option, Some, None, cond, ◌&&◌, length, leb, ltb, eqb}
use Rattle.texts.specs.Lines.{fields_of}
use Rattle.texts.specs.declared.read.Numbers.{Numbers}
use Rattle.texts.specs.declared.read.Numbers.TheVariants.{Two, Four}

-- n with the digit b behind it
abbrev pub with_digit : ℕ → ℕ → Option ℕ
with_digit n b =
    cond (leb 48 b && leb b 57 && leb (n * 10 + (b - 48)) 4294967295) (Some (n * 10 + (b - 48))) None

-- the number that digits write, where n is what those before them write
unfoldable pub digits_from : ℕ → List ℕ → Option ℕ
digits_from n [] = cond (leb n 4294967295) (Some n) None
digits_from n (b ∷ s) = cond (leb 48 b && leb b 57) (digits_from (n * 10 + (b - 48)) s) None

-- the number that a field writes: at least one digit, and a 0 stands first only alone
unfoldable pub number_of : List ℕ → Option ℕ
number_of [] = None
number_of (b ∷ s) = cond (eqb b 48 && ltb 0 (length s)) None (digits_from 0 (b ∷ s))

-- what two fields write: each has to write a number
abbrev pub two : Option ℕ → Option ℕ → Option Numbers
two (Some a) (Some b) = Some (Two a b)
two (Some a) None = None
two None b = None

-- what four fields write, likewise
abbrev pub four : Option ℕ → Option ℕ → Option ℕ → Option ℕ → Option Numbers
four (Some a) (Some b) (Some c) (Some d) = Some (Four a b c d)
four (Some a) (Some b) (Some c) None = None
four (Some a) (Some b) None d = None
four (Some a) None c d = None
four None b c d = None

-- what the fields of a line write: there have to be two of them, or four
abbrev pub numbers_of : List (List ℕ) → Option Numbers
numbers_of [] = None
numbers_of (a ∷ []) = None
numbers_of (a ∷ b ∷ []) = two (number_of a) (number_of b)
numbers_of (a ∷ b ∷ c ∷ []) = None
numbers_of (a ∷ b ∷ c ∷ d ∷ []) = four (number_of a) (number_of b) (number_of c) (number_of d)
numbers_of (a ∷ b ∷ c ∷ d ∷ e ∷ fs) = None

-- the numbers of a line
unfoldable pub numbers_in : List ℕ → Option Numbers
numbers_in line = numbers_of (fields_of line)
