-- The first line of a text, and the lines of what follows.
use mathlib.Core.Path.{◌≡◌, refl}
use mathlib.Core.List.{List, [], ◌∷◌}
use mathlib.Core.Bool.{Bool, true, false}
use Prim.Native.Nat.{ℕ, suc, ◌+◌, ◌<◌}
use native.Mathlib.Omega.{arith}
use lib.ListN.{length, take, drop}
use lib.Dec.{eqb}
use Rattle.texts.specs.Lines.{bytes_before, Parted, ended, unended, with_byte, lines_of}
use Rattle.texts.specs.Bytes.{lf}

-- a text that has an LF: its first line, and the lines of what follows
abbrev Ended : List ℕ → Type 0
Ended s = bytes_before lf s < length s → lines_of s ≡ ended (take (bytes_before lf s) s) ∷ lines_of (drop (suc (bytes_before lf s)) s)

ended_cons : (b : ℕ) (s : List ℕ) (t : Bool) → eqb b lf ≡ t → Ended s → Ended (b ∷ s)
unfolding lines_of bytes_before with_byte
ended_cons b s true e ih h = rw e
ended_cons b s false e ih h =
    let one : 1 + bytes_before lf s ≡ suc (bytes_before lf s) = omega arith in
    let h' : 1 + bytes_before lf s < suc (length s) = rw e at h in
    rw (e, one, ih (omega arith))

pub lines_ended : (s : List ℕ) → Ended s
lines_ended [] h = absurd (omega arith)
lines_ended (b ∷ s) h = ended_cons b s (eqb b lf) refl (lines_ended s) h

pub lines_parted : (s front back : List ℕ) → Parted lf s front back → lines_of s ≡ ended front ∷ lines_of back
lines_parted s front back p = rw (p.front_is, p.back_is) (lines_ended s p.found)

-- a text that has bytes and no LF
abbrev Unended : List ℕ → Type 0
Unended s = bytes_before lf s ≡ length s → 0 < length s → lines_of s ≡ unended ∷ []

unended_cons : (b : ℕ) (s : List ℕ) (t : Bool) → eqb b lf ≡ t → Unended s → Unended (b ∷ s)
unfolding lines_of bytes_before with_byte
unended_cons b s true e ih h p = absurd (omega (arith, rw e at h))
unended_cons b [] false e ih h p = rw e
unended_cons b (x ∷ s) false e ih h p =
    let h' : 1 + bytes_before lf (x ∷ s) ≡ suc (suc (length s)) = rw e at h in
    rw (e, ih (omega arith) (omega arith))

pub lines_unended : (s : List ℕ) → Unended s
lines_unended [] h p = absurd (omega arith)
lines_unended (b ∷ s) h p = unended_cons b s (eqb b lf) refl (lines_unended s) h p
