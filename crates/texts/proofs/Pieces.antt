-- The first piece of a text that is split behind each LF: its first line where it ends in LF, and else all that is left.
use Prim.Native.Nat.{ℕ, suc, ◌+◌, ◌-◌, ◌≤◌, ◌<◌}
use mathlib.Core.Path.{◌≡◌, refl, sym, ap, ◌∙◌}
use mathlib.Core.Bool.{Bool, true, false, cond, ◌&&◌}
use mathlib.Core.List.{List, [], ◌∷◌, ◌++◌}
use mathlib.Core.Logic.{⊎_elim}
use native.Mathlib.Omega.{arith}
use lib.Dec.{eqb}
use lib.ListN.{length, get_or, take, drop}
use Rattle.std.specs.Prelude.{Option, Some, None, MatchOption, min}
use Rattle.std.specs.Borrow.{Bor}
use Rattle.std.proofs.lemmas.Option.{MatchOption-at_some, MatchOption-at_none}
use Rattle.std.specs.List.{IsFirstMatchOrLen}
use Rattle.std.specs.Cmp.Lexicographic.{pointwise}
use Rattle.std.proofs.Common.{drop-cons, drop_of_length-le}
use Rattle.std.proofs.Math.ListN.{get_or-append}
use Rattle.std.proofs.Math.Seq.{drop-append_seam}
use Rattle.std.proofs.lemmas.List.{take-append-le}
use Rattle.std.proofs.lemmas.List.Sums.{position_or_len_is, fails_before_first, passes_at_first}
use Rattle.laws.proofs.Deciding.{apart}
use Rattle.texts.specs.Bytes.{lf}
use Rattle.texts.specs.Lines.{bytes_before, Parted}

not_both : {t : Bool} → t ≡ true → t ≡ false → ⊥
not_both {t} e f = let z : ◌≡◌ {A = ℕ} 1 0 = ap (λ (x : Bool). cond x 1 0) (sym e ∙ f) in omega (arith, z)

-- where the first LF stands
place : (rest : List ℕ) (i : ℕ) → IsFirstMatchOrLen (λ b. eqb b lf) rest i → bytes_before lf rest ≡ min i (length rest)
unfolding bytes_before
place rest i first =
    position_or_len_is (λ b. eqb b lf) rest (min i (length rest)) 0 (omega arith) (λ k h. first.0 k 0 (omega arith) (omega (arith, h)))
    (λ h. let e : min i (length rest) ≡ i = omega (arith, h) in rw e (first.1 (omega (arith, h)) 0))

no_lf_before : (rest : List ℕ) (k : ℕ) → k < bytes_before lf rest → eqb (get_or rest k 0) lf ≡ false
unfolding bytes_before
no_lf_before rest k h = fails_before_first (λ b. eqb b lf) rest k 0 h

lf_there : (rest : List ℕ) → bytes_before lf rest < length rest → eqb (get_or rest (bytes_before lf rest) 0) lf ≡ true
unfolding bytes_before
lf_there rest h = passes_at_first (λ b. eqb b lf) rest 0 h

-- the last byte of a piece
last_is : (x : List ℕ) → 0 < length x → pointwise eqb (drop (length x - 1) x) (10 ∷ []) ≡ eqb (get_or x (length x - 1) 0) lf
last_is x some =
    let k = length x - 1 in
    let inside : k < length x = omega (arith, some) in
    let over : length x ≤ suc k = omega (arith, some) in
    let none : drop (suc k) x ≡ [] = drop_of_length-le x over in
    rw (drop-cons x k 0 inside, none) (and_true (eqb (get_or x k 0) 10))
  where
    and_true : (t : Bool) → (t && true) ≡ t
    and_true true = refl
    and_true false = refl

-- is one of the text
looked : (rest x behind : List ℕ) → rest ≡ x ++ behind → 0 < length x → (t : Bool) → pointwise eqb (drop (length x - 1) x) (10 ∷ []) ≡ t
    → eqb (get_or rest (length x - 1) 0) lf ≡ t
looked rest x behind joined some t e =
    let k = length x - 1 in
    let same : get_or rest k 0 ≡ get_or x k 0 = ap (λ (l : List ℕ). get_or l k 0) joined ∙ get_or-append x behind 0 k (omega (arith, some)) in
    rw same (sym (last_is x some) ∙ e)

-- what the library says of a step: the piece, where its last byte stands by any test that the closure computes, and that there was one
abbrev pub Cut : (K K' : (ℕ → Bool) → Type 0) (rest x behind : List ℕ) → Type 0
Cut K K' rest x behind =
    (rest ≡ x ++ behind)
    × ((i : ℕ) × (length x ≡ min (i + 1) (length rest)) × ((p : ℕ → Bool) → K p → K' p × IsFirstMatchOrLen p rest i))
    × (0 < length rest)

module _ {K K' : (ℕ → Bool) → Type 0} (rest x behind : List ℕ) (cut : Cut K K' rest x behind) (key : K (λ b. eqb b lf)) where
  parted : {text : List ℕ} → pointwise eqb (drop (length x - 1) x) (10 ∷ []) ≡ true → text ≡ take (length x - 1) x → Parted lf rest text behind
  parted {text} e f =
      let i = cut.1.0 in
      let long : length x ≡ min (i + 1) (length rest) = cut.1.1 in
      let at = place rest i (cut.1.2 (λ b. eqb b lf) key).1 in
      let last = looked rest x behind cut.0 (omega (arith, long, cut.2)) true e in
      ⊎_elim
      (λ h.
      let n = bytes_before lf rest in
      let one : length x ≡ suc n = omega (arith, at, long, h) in
      let less : length x - 1 ≡ n = omega (arith, one) in
      record {
        found = h;
        front_is = f ∙ ap (λ (m : ℕ). take m x) less ∙ sym (ap (take n) cut.0 ∙ take-append-le n x behind (omega (arith, one)));
        back_is = sym (ap (λ (m : ℕ). drop m rest) (sym one) ∙ ap (drop (length x)) cut.0 ∙ drop-append_seam x behind);
      })
      (λ h. absurd (not_both last (no_lf_before rest (length x - 1) (omega (arith, at, long, h, cut.2)))))
      (apart (bytes_before lf rest) (length rest))

  unended : pointwise eqb (drop (length x - 1) x) (10 ∷ []) ≡ false → bytes_before lf rest ≡ length rest
  unended e =
      let i = cut.1.0 in
      let long : length x ≡ min (i + 1) (length rest) = cut.1.1 in
      let at = place rest i (cut.1.2 (λ b. eqb b lf) key).1 in
      let last = looked rest x behind cut.0 (omega (arith, long, cut.2)) false e in
      ⊎_elim
      (λ h.
      let less : length x - 1 ≡ bytes_before lf rest = omega (arith, at, long, h) in
      absurd (not_both (lf_there rest h) (ap (λ (m : ℕ). eqb (get_or rest m 0) lf) (sym less) ∙ last)))
      (λ h. omega (arith, at, h))
      (apart (bytes_before lf rest) (length rest))

  -- what is left of the piece without its LF, where it ends in one
  abbrev Stripped : Option (Bor (List ℕ)) → Type 0
  Stripped o =
      MatchOption o (pointwise eqb (drop (length x - 1) x) (10 ∷ []) ≡ false)
      (λ t. (pointwise eqb (drop (length x - 1) x) (10 ∷ []) ≡ true) × (t.now ≡ take (length x - 1) x) × (length t.now + 1 ≡ length x))

  pub piece_parted : {o : Option (Bor (List ℕ))} {text : Bor (List ℕ)} → o ≡ Some text → Stripped o → Parted lf rest text.now behind
  piece_parted e z = let y = MatchOption-at_some _ _ _ e z in parted y.0 y.1

  pub piece_unended : {o : Option (Bor (List ℕ))} → o ≡ None → Stripped o → bytes_before lf rest ≡ length rest
  piece_unended e z = unended (MatchOption-at_none _ _ e z)
