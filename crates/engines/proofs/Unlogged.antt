-- Laws of tables of cases with and without their logs' cases, number 3: the verdicts are the same where no such case applies, and where one applies also if
-- another with a lower number does.
use Prim.Native.Nat.{ℕ, ◌≤◌}
use mathlib.Core.Path.{◌≡◌, refl, sym, ◌∙◌}
use mathlib.Core.Bool.{Bool, true, false, cond, not, ◌&&◌, ◌||◌}
use mathlib.Core.List.{List, [], ◌∷◌}
use native.Mathlib.Omega.{arith}
use lib.Dec.{ltb, leb, eqb}
use borrow.Author.Tests.{eqb-true, eqb-false, ne_eqb, lt-ltb, le-ltb, ltb-true, leb-true}
use Rattle.laws.proofs.Bools.{both_left, both_right, never}
use Rattle.answers.specs.declared.Answer.{Answer}
use Rattle.answers.specs.Answers.{Case}
use Rattle.answers.specs.Answers.{verdict, without_logs}
use Rattle.answers.proofs.Lowest.{none_below, ascending}
use Rattle.answers.proofs.Verdicts.{all_refuse}

-- no case of number 3 applies
abbrev pub logs_pass : List Case → Bool
logs_pass [] = true
logs_pass (c ∷ cs) = cond (eqb c.number 3) (not c.applies && logs_pass cs) (logs_pass cs)

-- the numbers that come behind those of the logs: above 3, and 0
abbrev pub behind_logs : ℕ → Bool
behind_logs n = eqb n 0 || ltb 3 n

-- what is left of a table without its logs' cases gives the same verdict where those do not apply
pub without_logs_lem : (cs : List Case) (a : Answer) → logs_pass cs ≡ true → verdict cs a ≡ verdict (without_logs cs) a
without_logs_lem [] a h = refl
without_logs_lem (c ∷ cs) a h = go (eqb c.number 3) refl c.applies refl (without_logs_lem cs a)
  where
    go : (l : Bool) → eqb c.number 3 ≡ l → (t : Bool) → c.applies ≡ t → (logs_pass cs ≡ true → verdict cs a ≡ verdict (without_logs cs) a)
        → verdict (c ∷ cs) a ≡ verdict (without_logs (c ∷ cs)) a
    go true e true f deeper = absurd (never (rw (e, f) at h) refl)
    go true e false f deeper = rw (e, f) (deeper (rw (e, f) at h))
    go false e true f deeper = rw (e, f)
    go false e false f deeper = rw (e, f) (deeper (rw e at h))

-- where a case of number 3 applies, the cases before it have no number above
reaches_three : (n : ℕ) (cs : List Case) → none_below n cs ≡ true → logs_pass cs ≡ false → n ≤ 3
reaches_three n [] h p = absurd (never refl p)
reaches_three n (c ∷ cs) h p = go (eqb c.number 3) refl (reaches_three n cs (both_right (leb n c.number) (none_below n cs) h))
  where
    go : (l : Bool) → eqb c.number 3 ≡ l → (logs_pass cs ≡ false → n ≤ 3) → n ≤ 3
    go true e deeper = omega (arith, eqb-true c.number 3 e, leb-true n c.number (both_left (leb n c.number) (none_below n cs) h))
    go false e deeper = deeper (rw e at p)

-- and behind it without the logs' cases are numbers above 3 alone
behind_three : (cs : List Case) (a : Answer) → a.number ≡ 0 → none_below 3 cs ≡ true → behind_logs (verdict (without_logs cs) a).number ≡ true
behind_three [] a z h = rw z
behind_three (c ∷ cs) a z h = go (eqb c.number 3) refl c.applies refl (behind_three cs a z (both_right (leb 3 c.number) (none_below 3 cs) h))
  where
    go : (l : Bool) → eqb c.number 3 ≡ l → (t : Bool) → c.applies ≡ t → behind_logs (verdict (without_logs cs) a).number ≡ true
        → behind_logs (verdict (without_logs (c ∷ cs)) a).number ≡ true
    go true e t f deeper = rw e deeper
    go false e false f deeper = rw (e, f) deeper
    go false e true f deeper =
        let l = leb-true 3 c.number (both_left (leb 3 c.number) (none_below 3 cs) h) in
        rw (e, f) (rw (ne_eqb c.number 0 (λ k. omega arith), lt-ltb 3 c.number (omega (arith, eqb-false c.number 3 e))))

-- the verdict u of a table of which a case of number 3 applies, and v without such cases: u is 3 where v is behind, and elsewhere both are the same
pub record Overtaken (u v : Answer) : Type 0 where
  pub three : eqb u.number 3 ≡ behind_logs v.number
  pub others : behind_logs v.number ≡ false → u ≡ v

pub logs_short : (cs : List Case) (a : Answer) → a.number ≡ 0 → ascending cs ≡ true → all_refuse cs ≡ true → logs_pass cs ≡ false
    → Overtaken (verdict cs a) (verdict (without_logs cs) a)
logs_short [] a z up all p = absurd (never refl p)
logs_short (c ∷ cs) a z up all p =
    go (eqb c.number 3) refl c.applies refl
    (logs_short cs a z (both_right (none_below c.number cs) (ascending cs) up) (both_right (ltb 0 c.number) (all_refuse cs) all))
  where
    later : none_below c.number cs ≡ true
    later = both_left (none_below c.number cs) (ascending cs) up

    go : (l : Bool) → eqb c.number 3 ≡ l → (t : Bool) → c.applies ≡ t → (logs_pass cs ≡ false → Overtaken (verdict cs a) (verdict (without_logs cs) a))
        → Overtaken (verdict (c ∷ cs) a) (verdict (without_logs (c ∷ cs)) a)
    go true e true f deeper =
        let b = behind_three cs a z (rw (eqb-true c.number 3 e) at later) in
        record { three = rw (e, f) (e ∙ sym b); others = λ h. absurd (never b (rw e at h)) }
    go true e false f deeper = rw (e, f) (deeper (rw (e, f) at p))
    go false e false f deeper = rw (e, f) (deeper (rw e at p))
    go false e true f deeper =
        let m = reaches_three c.number cs later (rw e at p) in
        let d = eqb-false c.number 3 e in
        let k = ltb-true 0 c.number (both_left (ltb 0 c.number) (all_refuse cs) all) in
        let b : behind_logs c.number ≡ false = rw (ne_eqb c.number 0 (λ h. omega arith), le-ltb 3 c.number m) in
        record { three = rw (e, f) (e ∙ sym b); others = λ h. rw (e, f) }
