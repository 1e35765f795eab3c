-- A lane that takes another's words is that one, where both are as long.
use Rattle.std.proofs.Common.{◌≡◌, ℕ, List, length, get_or, refl, sym, ◌∙◌}
use Rattle.laws.proofs.Tables.{entries-all}
use Rattle.sums.specs.Sums.{combined_words}
use Rattle.sums.proofs.Balancing.{made}

pub taken : (l m : List ℕ) → length l ≡ length m → combined_words (λ own x. x) l m ≡ m
taken l m e = made (λ own x. x) l m e ∙ sym (entries-all (λ i. get_or m i 0) (length l) 0 m (sym e) (λ i h. refl))
