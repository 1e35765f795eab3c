-- A lane added and another taken off in one pass: what the two after each other make.
use Rattle.std.proofs.Common.{◌≡◌, ℕ, List, length, get_or, sym, ap, ◌∙◌, eq-eqb, ne_eqb}
use Rattle.laws.specs.Tables.{entries}
use Rattle.laws.proofs.Tables.{entry_at, entries_cong, length-entries}
use Rattle.sums.specs.Sums.{plus, minus, cellwise, combined_words}

module _ (op : ℕ → ℕ → ℕ) (l m : List ℕ) where
  -- a lane combined with one of another length, and of its own
  pub stays : (length l ≡ length m → ⊥) → combined_words op l m ≡ l
  stays d = rw (ne_eqb (length l) (length m) d)

  pub made : length l ≡ length m → combined_words op l m ≡ cellwise (λ i own. op own (get_or m i 0)) l
  made e = rw (eq-eqb (length l) (length m) e)

-- what becomes of cell i
abbrev pub balanced : List ℕ → List ℕ → List ℕ → ℕ → ℕ
balanced l m k i = minus (plus (get_or l i 0) (get_or m i 0)) (get_or k i 0)

module _ (l m k : List ℕ) (e : length l ≡ length m) where
  -- as long as it was
  long : length (combined_words plus l m) ≡ length l
  long = ap length (made plus l m e) ∙ length-entries _ 0 (length l)

  pub balanced_both : length l ≡ length k → entries (balanced l m k) 0 (length l) ≡ combined_words minus (combined_words plus l m) k
  balanced_both f =
      entries_cong (length l) (λ i h. ap (λ x. minus x (get_or k i 0)) (sym (ap (λ a. get_or a i 0) (made plus l m e) ∙ entry_at _ (length l) i 0 h)))
      ∙ ap (entries _ 0) (sym long)
      ∙ sym (made minus (combined_words plus l m) k (long ∙ f))
