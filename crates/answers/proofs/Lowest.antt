-- The lowest number that applies is given: where the numbers of a table do not fall from case to case, the first case that applies has the lowest.
use Rattle.std.proofs.Common.{◌≡◌, ℕ, ◌≤◌, Bool, true, false, ◌&&◌, leb, ◌⊎◌, List, [], ◌∷◌, sym, refl, ap, ◌∙◌, inl, inr, ⊎_elim, arith, leb-true}
use Rattle.laws.proofs.Bools.{both_left, both_right, never}
use Rattle.answers.specs.declared.Answer.{Answer}
use Rattle.answers.specs.Answers.{Case}
use Rattle.answers.specs.Answers.{refused, verdict}

-- none of these cases has a number below n
abbrev pub none_below : ℕ → List Case → Bool
none_below n [] = true
none_below n (c ∷ cs) = leb n c.number && none_below n cs

-- the numbers of a table do not fall
abbrev pub ascending : List Case → Bool
ascending [] = true
ascending (c ∷ cs) = none_below c.number cs && ascending cs

-- c is one of these cases, and applies
abbrev pub Applies : Case → List Case → Type 0
Applies c [] = ⊥
Applies c (d ∷ ds) = ((c ≡ d) × (c.applies ≡ true)) ⊎ Applies c ds

-- an answer is the refusal of a case that applies, and no case that applies has a lower number
pub record Lowest (cs : List Case) (r : Answer) : Type 0 where
  pub given : Case
  pub answer : r ≡ refused given.number given.place
  pub applies : Applies given cs
  pub lowest : (d : Case) → Applies d cs → given.number ≤ d.number

above : (n : ℕ) (cs : List Case) → none_below n cs ≡ true → (d : Case) → Applies d cs → n ≤ d.number
above n [] h d p = absurd p
above n (c ∷ cs) h d (inl p) = rw p.0 (leb-true n c.number (both_left (leb n c.number) (none_below n cs) h))
above n (c ∷ cs) h d (inr p) = above n cs (both_right (leb n c.number) (none_below n cs) h) d p

-- where a case applies, the verdict has the lowest number of all that apply
pub lowest_given : (cs : List Case) (a : Answer) {r : Answer} → r ≡ verdict cs a → ascending cs ≡ true → (d : Case) → Applies d cs → Lowest cs r
lowest_given [] a e h d p = absurd p
lowest_given (c ∷ cs) a {r} e h d p = go c.applies refl p (λ e. lowest_given cs a e (both_right (none_below c.number cs) (ascending cs) h) d)
  where
    not_first : (d : Case) → c.applies ≡ false → (d ≡ c) × (d.applies ≡ true) → ⊥
    not_first d x q = never (ap (λ (k : Case). k.applies) (sym q.0) ∙ q.1) x

    go : (t : Bool) → c.applies ≡ t → Applies d (c ∷ cs) → (r ≡ verdict cs a → Applies d cs → Lowest cs r) → Lowest (c ∷ cs) r
    go true x q deeper =
        let later = above c.number cs (both_left (none_below c.number cs) (ascending cs) h) in
        record { given = c; answer = e ∙ rw x; applies = inl (refl, x); lowest = λ k. ⊎_elim (λ q. rw q.0 (omega arith)) (later k) }
    go false x (inl q) deeper = absurd (not_first d x q)
    go false x (inr q) deeper =
        let g = deeper (e ∙ rw x) q in
        record { given = g.given; answer = g.answer; applies = inr g.applies; lowest = λ k. ⊎_elim (λ q. absurd (not_first k x q)) (g.lowest k) }
