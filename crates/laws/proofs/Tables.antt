-- Laws of lists that are given by a rule for their entries: entry k of those from i on is f (i + k).
use Prim.Native.Nat.{ℕ, zero, suc, ◌+◌, ◌<◌}
use mathlib.Core.Path.{◌≡◌, refl, sym, ap, ap₂, ◌∙◌}
use mathlib.Core.List.{List, ◌∷◌, ◌++◌}
use native.Mathlib.Nat.{add-zero, zero-add, add-suc, suc-add}
use native.Mathlib.Omega.{arith}
use lib.ListN.{length, get_or, replicate}
use lib.Seq.{ext_get_or}
use Rattle.laws.specs.Tables.{entries}

module _ {A : Type 0} (f : ℕ → A) where
  pub length-entries : (i n : ℕ) → length (entries f i n) ≡ n
  length-entries i zero = refl
  length-entries i (suc n) = ap suc (length-entries (suc i) n)

  pub entry : (i n k : ℕ) (d : A) → k < n → get_or (entries f i n) k d ≡ f (i + k)
  entry i zero k d h = absurd (omega arith)
  entry i (suc n) zero d h = ap f (sym (add-zero i))
  entry i (suc n) (suc k) d h = entry (suc i) n k d (omega arith) ∙ ap f (suc-add i k ∙ sym (add-suc i k))

  pub entry_at : (n k : ℕ) (d : A) → k < n → get_or (entries f 0 n) k d ≡ f k
  entry_at n k d h = entry 0 n k d h ∙ ap f (zero-add k)

  -- a list with these entries is this list
  pub entries-all : (n : ℕ) (d : A) (l : List A) → length l ≡ n → ((k : ℕ) → k < n → get_or l k d ≡ f k) → l ≡ entries f 0 n
  entries-all n d l e h =
      ext_get_or d l (entries f 0 n) (e ∙ sym (length-entries 0 n))
      (λ k u. h k (omega arith) ∙ sym (entry_at n k d (omega arith)))

-- rules that agree have the same entries
agree : {A : Type 0} (f g : ℕ → A) (i j n : ℕ) → ((k : ℕ) → k < n → f (i + k) ≡ g (j + k)) → entries f i n ≡ entries g j n
agree f g i j zero h = refl
agree {A} f g i j (suc n) h =
    ap₂ {C = List A} (λ x l. x ∷ l)
    (ap f (sym (add-zero i)) ∙ h 0 (omega arith) ∙ ap g (add-zero j))
    (agree f g (suc i) (suc j) n (λ k u. ap f (omega arith) ∙ h (suc k) (omega arith) ∙ ap g (omega arith)))

pub entries_cong : {A : Type 0} {f g : ℕ → A} (n : ℕ) → ((k : ℕ) → k < n → f k ≡ g k) → entries f 0 n ≡ entries g 0 n
entries_cong {f = f} {g = g} n h = agree f g 0 0 n (λ k u. h (0 + k) (omega arith))

-- entries in two parts
pub entries_parts : {A : Type 0} (f g : ℕ → A) (i m n : ℕ) → ((k : ℕ) → k < n → g k ≡ f (i + m + k)) → entries f i m ++ entries g 0 n ≡ entries f i (m + n)
entries_parts {A} f g i zero n h = agree g f 0 i n (λ k u. ap g (zero-add k) ∙ h k u ∙ ap f (omega arith)) ∙ ap {B = List A} (entries f i) (sym (zero-add n))
entries_parts {A} f g i (suc m) n h =
    ap {B = List A} (λ l. f i ∷ l) (entries_parts f g (suc i) m n (λ k u. h k u ∙ ap f (omega arith))) ∙ ap {B = List A} (entries f i) (sym (suc-add m n))

-- a rule with one value
same_from : {A : Type 0} (i n : ℕ) (x : A) → entries (λ k. x) i n ≡ replicate n x
same_from i zero x = refl
same_from {A} i (suc n) x = ap {B = List A} (λ l. x ∷ l) (same_from (suc i) n x)

pub entries-same : {A : Type 0} {f : ℕ → A} (n : ℕ) (x : A) → ((k : ℕ) → k < n → f k ≡ x) → entries f 0 n ≡ replicate n x
entries-same n x h = entries_cong n h ∙ same_from 0 n x
