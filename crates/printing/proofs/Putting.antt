-- Texts that a printer puts one after the other.
use Rattle.std.proofs.Common.{◌≡◌, ℕ, ◌+◌, ◌≤◌, ◌<◌, min, max, Bool, true, false, List, [], ◌∷◌, ◌++◌, length, get_or, take, refl, sym, ap, ◌∙◌, leb, add-one, arith, length-append}
use Rattle.std.proofs.Math.Seq.{sets, length-sets, take-suc}
use borrow.Author.Tests.{leb-true, leb-false}
use Rattle.laws.proofs.Stores.{sets-append, sets_past}
use Rattle.printing.specs.Printed.{rows}
use Rattle.printing.specs.declared.Printer.{Printer}
use Rattle.printing.specs.Buffers.{Written}
use Rattle.printing.specs.Printers.{Put}

-- nothing
nothing : (out : List ℕ) (at : ℕ) → Written out at [] at out
nothing out at = record { end = omega arith; is = refl }

-- a buffer keeps its length
same_long : {a b : List ℕ} {at r : ℕ} {s : List ℕ} → Written a at s r b → length b ≡ length a
same_long {a} {b} {at} {r} {s} p = ap length p.is ∙ length-sets a at s

-- where one text ends and then another
ends : (at s t l m r : ℕ) → m ≡ max at (min (at + s) l) → r ≡ max m (min (m + t) l) → r ≡ max at (min (at + (s + t)) l)
ends at s t l m r p q = omega arith

-- a text behind one that is not past the end stands right behind it, and else there is no room for it
behind : (a : List ℕ) (at m : ℕ) (s t : List ℕ) → m ≡ max at (min (at + length s) (length a)) → sets (sets a at s) m t ≡ sets (sets a at s) (at + length s) t
behind a at m s t e = go (leb (at + length s) (length a)) refl
  where
    go : (u : Bool) → leb (at + length s) (length a) ≡ u → sets (sets a at s) m t ≡ sets (sets a at s) (at + length s) t
    go true u =
        let l : at + length s ≤ length a = leb-true (at + length s) (length a) u in
        let f : m ≡ at + length s = omega arith in
        rw f
    go false u =
        let l : length a < at + length s = leb-false (at + length s) (length a) u in
        let f : length a ≤ m = omega arith in
        sets_past (sets a at s) m t (rw length-sets f) ∙ sym (sets_past (sets a at s) (at + length s) t (rw length-sets (omega arith)))

-- one text, and then another
one_then : {a b c : List ℕ} {at m r : ℕ} {s t : List ℕ} → Written a at s m b → Written b m t r c → Written a at (s ++ t) r c
one_then {a} {b} {c} {at} {m} {r} {s} {t} p q = record {
  end = rw length-append (ends at (length s) (length t) (length a) m r p.end (q.end ∙ rw (same_long p)));
  is = q.is ∙ rw p.is (behind a at m s t p.end ∙ sym (sets-append a at s t));
}

pub put_nothing : (a : Printer) → Put [] a a
put_nothing a = record { same_buffer = refl; written = nothing a.out.now a.at }

pub put_then : {s t : List ℕ} {a b c : Printer} → Put s a b → Put t b c → Put (s ++ t) a c
put_then p q = record { same_buffer = q.same_buffer ∙ p.same_buffer; written = one_then p.written q.written }

-- one element more
pub put_next : (text : List ℕ) (i : ℕ) {a b c : Printer} → i < length text → Put (take i text) a b → Put (get_or text i 0 ∷ []) b c
    → Put (take (i + 1) text) a c
put_next text i h p q = rw add-one (rw (take-suc text i 0 h) (put_then p q))

-- rows, one after the other
module _ (f : ℕ → List ℕ) where
  pub no_rows : (a : Printer) → Put (rows f 0) a a
  unfolding rows
  no_rows a = put_nothing a

  pub rows_next : {i : ℕ} {a b c : Printer} → Put (rows f i) a b → Put (f i) b c → Put (rows f (i + 1)) a c
  unfolding rows
  rows_next p q = rw add-one (put_then p q)
