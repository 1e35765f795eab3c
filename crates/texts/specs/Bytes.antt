-- Texts as lists of bytes.
use Rattle.std.specs.Prelude.{ℕ, List, [], ◌∷◌}
use Prim.Native.Char.{code}
use Prim.Native.String.{String}

-- the bytes of a text of ASCII
abbrev pub bytes : String → List ℕ
bytes String.[] = []
bytes (String.◌∷◌ c s) = code c ∷ bytes s

-- what parts the fields of a line, and what ends a line
abbrev pub tab : ℕ
tab = 9

abbrev pub lf : ℕ
lf = 10
