-- The digits of a number: how many there are, and that they are put one after the other.
use Rattle.std.proofs.Common.{◌≡◌, ℕ, zero, suc, ◌+◌, ◌/◌, ◌%◌, List, rules, ◌^◌, ◌≤◌, ◌<◌, Bool, true, false, cond, [], ◌∷◌, ◌++◌, length, ltb, arith, length-append}
use Rattle.std.specs.Fmt as fmt
use Rattle.std.proofs.lemmas.Fmt.{decimal_from_appends, length-decimal-le}
use Rattle.printing.specs.Printed.{digits, decimal, field}
use Rattle.printing.specs.declared.Printer.{Printer}
use Rattle.printing.specs.Printers.{Put}
use Rattle.printing.proofs.Putting.{put_then}

few_digits : (k n : ℕ) → length (digits k n) ≤ k
unfolding digits
few_digits zero n = omega arith
few_digits (suc k) n = go (ltb n 10) (few_digits k (n / 10))
  where
    go : (t : Bool) → length (digits k (n / 10)) ≤ k → length (cond t ((48 + n) ∷ []) (digits k (n / 10) ++ ((48 + n % 10) ∷ []))) ≤ suc k
    go true h = omega arith
    go false h = rw length-append (omega arith)

-- a number takes twenty bytes at most
pub decimal_short : (n : ℕ) → length (decimal n) ≤ 20
decimal_short n = few_digits 20 n

-- it is what the library writes
pub library_decimal : (n : ℕ) → n < 2 ^ 64 → decimal n ≡ fmt.decimal n
unfolding digits
library_decimal n h = decimal_from_appends digits (search rules) 20 n h (length-decimal-le 20 n (omega arith) (omega arith) h)

pub field_put : (n after : ℕ) → n < 2 ^ 64 → {text : List ℕ} → text ≡ fmt.decimal n → {a b c : Printer} → Put text a b → Put (after ∷ []) b c
    → Put (field n after) a c
unfolding field
field_put n after h e p q = rw (library_decimal n h, ← e) (put_then p q)
