-- Words added one after the other, modulo 2 ^ 32, and lanes of one word.
use Rattle.std.proofs.Common.{◌≡◌, ℕ, suc, ◌+◌, ◌%◌, ◌^◌, ◌<◌, List, length, get_or, set, sym, refl, ap, ◌∙◌, add-one}
use native.Mathlib.Nat.{mod-add-mod}
use Rattle.laws.specs.Sums.{sum_of}
use Rattle.laws.proofs.Rewriting.{Rewriting, rewriting_start, rewriting_store, rewriting_next}
use Rattle.sums.specs.Sums.{plus}

-- one word more
pub sum_next : (words : List ℕ) (i : ℕ) {sum sum' : ℕ} → sum ≡ sum_of i words % 2 ^ 32 → sum' ≡ plus sum (get_or words i 0)
    → sum' ≡ sum_of (suc i) words % 2 ^ 32
sum_next words i e f = f ∙ ap (λ (n : ℕ). plus n (get_or words i 0)) e ∙ mod-add-mod (sum_of i words) (2 ^ 32) (get_or words i 0)

-- the sum of the words up to word i
abbrev pub sum_up_to : List ℕ → ℕ → ℕ
sum_up_to words i = sum_of (suc i) words % 2 ^ 32

-- the words below i were added up, and the sum is theirs
pub record AddingUp (old l : List ℕ) (sum i : ℕ) : Type 0 where
  pub lane : Rewriting (sum_up_to old) 0 old l i
  pub so_far : sum ≡ sum_of i old % 2 ^ 32

module _ (old : List ℕ) where
  pub adding_start : AddingUp old old 0 0
  adding_start = record { lane = rewriting_start (sum_up_to old) 0 old; so_far = refl }

  pub adding_next : {l : List ℕ} {sum sum' i : ℕ} → i < length l → sum' ≡ plus sum (get_or l i 0) → AddingUp old l sum i → AddingUp old (set l i sum') sum' (i + 1)
  adding_next {l} {sum} {sum'} {i} h e z =
      let own = rewriting_next (sum_up_to old) 0 old z.lane in
      let more = sum_next old i z.so_far (e ∙ ap (plus sum) own) in
      record { lane = rewriting_store (sum_up_to old) 0 old sum' h more z.lane; so_far = more ∙ ap (λ (n : ℕ). sum_of n old % 2 ^ 32) (sym (add-one i)) }
