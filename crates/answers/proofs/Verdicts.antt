-- Laws of verdicts: an answer with the number 0 says that no case applies, and any other is that of the first case that does.
use Rattle.std.proofs.Common.{◌≡◌, ℕ, ◌^◌, ◌<◌, ◌≤◌, Bool, true, false, ◌&&◌, ltb, List, [], ◌∷◌, ◌++◌, length, sym, refl, ap, ◌∙◌, ap₂, mod-eq_of_lt, arith, ltb-true, le-ltb, eq-eqb, eqb-true}
use borrow.Author.Tests.{not-false}
use Rattle.laws.proofs.Bools.{both_left, both_right}
use Rattle.answers.specs.declared.Answer.{Answer}
use Rattle.answers.specs.Answers.{Case}
use Rattle.runs.specs.declared.Run.{Run}
use Rattle.array.specs.Cells.{is_side, cells}
use Rattle.runs.specs.Runs.{moves, electronic, swaps}
use Rattle.answers.specs.Answers.{accepted, accepted_by, verdict, side_case, lane_case, log_case}

-- no case of a table applies, and every case is a refusal
abbrev pub NoneApplies : List Case → Type 0
NoneApplies [] = Unit {0}
NoneApplies (c ∷ cs) = (c.applies ≡ false) × NoneApplies cs

abbrev pub all_refuse : List Case → Bool
all_refuse [] = true
all_refuse (c ∷ cs) = ltb 0 c.number && all_refuse cs

-- number 0: no case applies
pub none_applies : (cs : List Case) (a : Answer) → all_refuse cs ≡ true → (verdict cs a).number ≡ 0 → NoneApplies cs
none_applies [] a n h = tt
none_applies (c ∷ cs) a n h = go c.applies refl (none_applies cs a (both_right (ltb 0 c.number) (all_refuse cs) n))
  where
    go : (t : Bool) → c.applies ≡ t → ((verdict cs a).number ≡ 0 → NoneApplies cs) → NoneApplies (c ∷ cs)
    go true e rest = absurd (omega (arith, ltb-true 0 c.number (both_left (ltb 0 c.number) (all_refuse cs) n), rw e at h))
    go false e rest = (e, rest (rw e at h))

pub none_refuses : (cs : List Case) (a : Answer) {r : Answer} → all_refuse cs ≡ true → r ≡ verdict cs a → r.number ≡ 0 → NoneApplies cs
none_refuses cs a n e h = none_applies cs a n (sym (ap (λ (x : Answer). x.number) e) ∙ h)

-- and then the answer is the accepted one
pub accepted_is : (cs : List Case) (a : Answer) → NoneApplies cs → verdict cs a ≡ a
accepted_is [] a n = refl
accepted_is (c ∷ cs) a n = rw n.0 (accepted_is cs a n.1)

-- a table in two steps: the cases up to some point, and the rest where none of those applies
module _ (cs rest : List Case) (a b : Answer) {early : Answer} (e : early ≡ verdict cs a) where
  pub at_once : a.number ≡ 0 → (early.number ≡ 0 → ⊥) → early ≡ verdict (cs ++ rest) b
  at_once accepts h = e ∙ sym (refuses cs (λ n. h (ap (λ (x : Answer). x.number) e ∙ n)))
    where
      refuses : (cs : List Case) → ((verdict cs a).number ≡ 0 → ⊥) → verdict (cs ++ rest) b ≡ verdict cs a
      refuses [] h = absurd (h accepts)
      refuses (c ∷ cs) h = go c.applies refl (refuses cs)
        where
          go : (t : Bool) → c.applies ≡ t → (((verdict cs a).number ≡ 0 → ⊥) → verdict (cs ++ rest) b ≡ verdict cs a)
              → verdict (c ∷ (cs ++ rest)) b ≡ verdict (c ∷ cs) a
          go true x deeper = rw x
          go false x deeper = rw x (deeper (λ n. h (rw x n)))

  module _ (all : all_refuse cs ≡ true) (h : early.number ≡ 0) where
    pub none_yet : NoneApplies cs
    none_yet = none_refuses cs a all e h

    pub later : {r : Answer} → r ≡ verdict rest b → r ≡ verdict (cs ++ rest) b
    later f = f ∙ sym (passes cs none_yet)
      where
        passes : (cs : List Case) → NoneApplies cs → verdict (cs ++ rest) b ≡ verdict rest b
        passes [] n = refl
        passes (c ∷ cs) n = rw n.0 (passes cs n.1)

-- the counts of a list that is not absurdly long are its counts
pub counted : (rs : List Run) (e w : ℕ) → electronic rs ≡ e → swaps rs ≡ w → e < 2 ^ 64 → w < 2 ^ 64 → accepted_by rs ≡ accepted e w
counted rs e w he hw le lw =
    let few : electronic rs < 2 ^ 64 = rw he le in
    let rare : swaps rs < 2 ^ 64 = rw hw lw in
    ap₂ accepted (mod-eq_of_lt few ∙ he) (mod-eq_of_lt rare ∙ hw)

-- a side that is built, a lane of its length and a log with room are not refused, and nothing else is taken
pub side_passes : (s : ℕ) → is_side s ≡ true → (side_case s).applies ≡ false
side_passes s h = rw h

pub lane_passes : (s n : ℕ) → n ≡ cells s → (lane_case s n).applies ≡ false
lane_passes s n e = rw (eq-eqb n (cells s) e)

pub log_passes : (rs : List Run) (n : ℕ) → length (moves rs) ≤ n → (log_case rs n).applies ≡ false
log_passes rs n h = le-ltb n (length (moves rs)) h

pub side_built : (s : ℕ) → (side_case s).applies ≡ false → is_side s ≡ true
side_built s h = not-false (is_side s) h

pub lane_whole : (s n : ℕ) → (lane_case s n).applies ≡ false → n ≡ cells s
lane_whole s n h = eqb-true n (cells s) (not-false _ h)
