-- What the definitions come to: a number that is written in decimal is read back as itself.
use mathlib.Core.Path.{◌≡◌, refl, ap, ◌∙◌}
use mathlib.Core.List.{List, [], ◌∷◌, ◌++◌, append_assoc, append-nil}
use mathlib.Core.Bool.{Bool, true, false, cond}
use Prim.Native.Nat.{ℕ, zero, suc, ◌+◌, ◌-◌, ◌*◌, ◌/◌, ◌%◌, ◌^◌, ◌≤◌, ◌<◌}
use native.Mathlib.Omega.{arith}
use native.Mathlib.Nat.{pow-suc}
use lib.Dec.{ltb}
use borrow.Author.Tests.{le-leb, ne_eqb, ltb-true, ltb-false}
use Rattle.texts.specs.Numbers.{digits_from, number_of}
use Rattle.printing.specs.Printed.{digits, decimal}
use Rattle.std.specs.Prelude.{Option, Some}

-- one digit d
read-digit : (m d : ℕ) (rest : List ℕ) → d < 10 → digits_from m ((48 + d) ∷ rest) ≡ digits_from (m * 10 + d) rest
unfolding digits_from
read-digit m d rest h =
    let e : 48 + d - 48 ≡ d = omega arith in
    rw (le-leb 48 (48 + d) (omega arith), le-leb (48 + d) 57 (omega arith), e)

Reads : ℕ → ℕ → Type 0
Reads k n = (rest : List ℕ) → digits_from 0 (digits k n ++ rest) ≡ digits_from n rest

read_back : (k n : ℕ) → n < 10 ^ k → Reads k n
unfolding Reads digits
read_back zero n h rest = let e : n ≡ 0 = omega arith in rw e
read_back (suc k) n h rest = go (ltb n 10) refl (read_back k (n / 10) (omega (arith, rw pow-suc at h)))
  where
    go : (t : Bool) → ltb n 10 ≡ t → Reads k (n / 10)
        → digits_from 0 ((cond t ((48 + n) ∷ []) (digits k (n / 10) ++ ((48 + n % 10) ∷ []))) ++ rest) ≡ digits_from n rest
    go true e ih = read-digit 0 n rest (ltb-true n 10 e) ∙ ap (λ (x : ℕ). digits_from x rest) (omega arith)
    go false e ih =
        rw append_assoc
        (ih ((48 + n % 10) ∷ rest) ∙ read-digit (n / 10) (n % 10) rest (omega arith) ∙ ap (λ (x : ℕ). digits_from x rest) (omega arith))

-- a number above 0 is written with a first digit above 0
Leads : List ℕ → Type 0
Leads s = (b : ℕ) × (t : List ℕ) × (s ≡ b ∷ t) × (b ≡ 48 → ⊥)

leads : (k n : ℕ) → 0 < n → n < 10 ^ k → Leads (digits k n)
unfolding Leads digits
leads zero n p h = absurd (omega arith)
leads (suc k) n p h = go (ltb n 10) refl (λ q. leads k (n / 10) q (omega (arith, rw pow-suc at h)))
  where
    go : (t : Bool) → ltb n 10 ≡ t → (0 < n / 10 → Leads (digits k (n / 10))) → Leads (cond t ((48 + n) ∷ []) (digits k (n / 10) ++ ((48 + n % 10) ∷ [])))
    go true e ih = (48 + n, [], refl, λ x. omega arith)
    go false e ih =
        let l : 10 ≤ n = ltb-false n 10 e in
        let i = ih (omega arith) in
        (i.0, i.1 ++ ((48 + n % 10) ∷ []), ap (λ (x : List ℕ). x ++ ((48 + n % 10) ∷ [])) i.2, i.3)

read_whole : (n : ℕ) → n ≤ 4294967295 → digits_from 0 (decimal n) ≡ Some n
unfolding digits_from Reads
read_whole n h =
    let e : digits_from 0 (decimal n ++ []) ≡ Some n = read_back 20 n (omega arith) [] ∙ rw (le-leb n 4294967295 h) in
    rw append-nil at e

-- a field whose first byte is no 0 is what its digits write
first : (s : List ℕ) (b : ℕ) (t : List ℕ) → s ≡ b ∷ t → (b ≡ 48 → ⊥) → {v : Option ℕ} → digits_from 0 s ≡ v → number_of s ≡ v
unfolding number_of
first s b t e z {v} p = rw e (rw (ne_eqb b 48 z) (rw e at p))

zero_back : number_of (decimal 0) ≡ Some 0
unfolding number_of digits_from digits
zero_back = refl

pub round_trip : (n : ℕ) → n ≤ 4294967295 → number_of (decimal n) ≡ Some n
unfolding Leads
round_trip zero h = zero_back
round_trip (suc n) h =
    let l = leads 20 (suc n) (omega arith) (omega arith) in
    first (decimal (suc n)) l.0 l.1 l.2 l.3 (read_whole (suc n) h)
