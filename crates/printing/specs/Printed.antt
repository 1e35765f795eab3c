-- Numbers and lines as they are printed.
use Rattle.std.specs.Prelude.{ℕ, zero, suc, ◌+◌, ◌/◌, ◌%◌, cond, List, [], ◌∷◌, ◌++◌, ltb}
use Rattle.texts.specs.Bytes.{tab, lf}

-- the last k digits of n, with no leading zero
unfoldable pub digits : ℕ → ℕ → List ℕ
digits zero n = []
digits (suc k) n = cond (ltb n 10) ((48 + n) ∷ []) (digits k (n / 10) ++ ((48 + n % 10) ∷ []))

-- n in decimal: no number of 64 bits has more than twenty digits
abbrev pub decimal : ℕ → List ℕ
decimal n = digits 20 n

-- fields parted by one tab, and LF
unfoldable pub line : List (List ℕ) → List ℕ
line [] = lf ∷ []
line (f ∷ []) = f ++ (lf ∷ [])
line (f ∷ g ∷ fs) = f ++ (tab ∷ line (g ∷ fs))

-- the rows f 0, f 1, .. of n rows
unfoldable pub rows : (ℕ → List ℕ) → ℕ → List ℕ
rows f zero = []
rows f (suc n) = rows f n ++ f n

-- a number and the byte after it
unfoldable pub field : ℕ → ℕ → List ℕ
field n after = decimal n ++ (after ∷ [])
