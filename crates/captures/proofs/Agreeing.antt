-- What a replay says of a capture: it agrees exactly where every move of the list is there, with its code and the records of the rule.
use Prim.Native.Nat.{ℕ, zero, suc, ◌+◌}
use mathlib.Core.Path.{◌≡◌, refl, ap, ap₂, ◌∙◌}
use mathlib.Core.Bool.{Bool, true, false, cond, ◌&&◌}
use mathlib.Core.List.{List, [], ◌∷◌}
use native.Mathlib.Omega.{arith}
use borrow.Author.Tests.{eq-eqb, eqb-true}
use lib.Dec.{eqb}
use lib.ListN.{length}
use Rattle.laws.specs.Tables.{entries}
use Rattle.laws.proofs.Bools.{both_left, both_right}
use Rattle.lists.specs.Lists.{total_moves}
use Rattle.captures.specs.declared.Held.{Held}
use Rattle.captures.specs.declared.Replayed.{Replayed}
use Rattle.captures.specs.declared.Replayed.TheVariants.{Agrees, Differs, Early}
use Rattle.std.specs.Prelude.{Ok}
use Rattle.captures.specs.Captures.{Captured, capture_verdict}
use Rattle.captures.specs.Replays.{same_held, same_records, code_at, records_after, agrees_at, compared, moves_in, replay_of}
use Rattle.captures.proofs.Numbered.{found_compared}

-- the test of two records, and of two lists of them, is whether they are the same
held_self : (x : Held) → same_held x x ≡ true
held_self x = rw (eq-eqb x.cell x.cell refl, eq-eqb x.slot x.slot refl, eq-eqb x.word x.word refl, eq-eqb x.aim x.aim refl)

held_is : (x y : Held) → same_held x y ≡ true → x ≡ y
held_is x y e =
    let c = eqb x.word y.word && eqb x.aim y.aim in
    let b = eqb x.slot y.slot && c in
    let f = both_right (eqb x.cell y.cell) b e in
    let g = both_right (eqb x.slot y.slot) c f in
    let cell = eqb-true x.cell y.cell (both_left (eqb x.cell y.cell) b e) in
    let slot = eqb-true x.slot y.slot (both_left (eqb x.slot y.slot) c f) in
    let word = eqb-true x.word y.word (both_left (eqb x.word y.word) (eqb x.aim y.aim) g) in
    let aim = eqb-true x.aim y.aim (both_right (eqb x.word y.word) (eqb x.aim y.aim) g) in
    λ i. record { cell = cell i; slot = slot i; word = word i; aim = aim i }

records_self : (l : List Held) → same_records l l ≡ true
unfolding same_records
records_self [] = refl
records_self (x ∷ l) = rw (held_self x, records_self l)

false_true : false ≡ true → ⊥
false_true e = let z : ◌≡◌ {A = ℕ} 1 0 = ap (λ (t : Bool). cond t 0 1) e in omega (arith, z)

records_are : (l k : List Held) → same_records l k ≡ true → l ≡ k
unfolding same_records
records_are [] [] e = refl
records_are [] (y ∷ k) e = absurd (false_true e)
records_are (x ∷ l) [] e = absurd (false_true e)
records_are (x ∷ l) (y ∷ k) e =
    ap₂ ◌∷◌ (held_is x y (both_left (same_held x y) (same_records l k) e)) (records_are l k (both_right (same_held x y) (same_records l k) e))

-- which answer a comparing gives, as a number
abbrev kind : Replayed → ℕ
kind Agrees = 0
kind (Differs m) = 1
kind (Early m) = 2

abbrev move_in : Replayed → ℕ
move_in Agrees = 0
move_in (Differs m) = m
move_in (Early m) = m

module _ (s : ℕ) (w m a : List ℕ) where
  -- the rule's own move behind so many, and n of them
  abbrev pub rule_move : ℕ → Captured
  rule_move made = record { code = code_at s (suc made); records = records_after s w m a (suc made) }

  abbrev pub rule_moves : ℕ → ℕ → List Captured
  rule_moves made n = entries rule_move made n

  rule_move_lem : (made : ℕ) → agrees_at s w m a (suc made) (rule_move made) ≡ true
  rule_move_lem made = rw (eq-eqb (code_at s (suc made)) (code_at s (suc made)) refl, records_self (records_after s w m a (suc made)))

  move_is : (made : ℕ) (x : Captured) → agrees_at s w m a (suc made) x ≡ true → x ≡ rule_move made
  move_is made x e =
      let same = same_records x.records (records_after s w m a (suc made)) in
      let code = eqb-true x.code (code_at s (suc made)) (both_left (eqb x.code (code_at s (suc made))) same e) in
      let records = records_are x.records _ (both_right (eqb x.code (code_at s (suc made))) same e) in
      λ i. record { code = code i; records = records i }

  -- the rule's own moves agree, and end early where the list has more
  pub rule_agrees : (made n : ℕ) → compared s w m a made (rule_moves made n) ≡ cond (eqb (made + n) (total_moves s)) Agrees (Early (made + n))
  unfolding compared
  rule_agrees made zero =
      let e : made ≡ made + 0 = omega arith in
      ap (λ (n : ℕ). cond (eqb n (total_moves s)) Agrees (Early n)) e
  rule_agrees made (suc n) =
      let e : suc made + n ≡ made + suc n = omega arith in
      rw (rule_move_lem made) (rule_agrees (suc made) n ∙ ap (λ (k : ℕ). cond (eqb k (total_moves s)) Agrees (Early k)) e)

  -- and moves that are answered so are the rule's
  pub record Rules (made : ℕ) (ms : List Captured) (r : Replayed) : Type 0 where
    pub moves : (kind r ≡ 1 → ⊥) → ms ≡ rule_moves made (length ms)
    pub all : kind r ≡ 0 → made + length ms ≡ total_moves s
    pub last : kind r ≡ 2 → move_in r ≡ made + length ms

  pub compared_rules : (made : ℕ) (ms : List Captured) → Rules made ms (compared s w m a made ms)
  unfolding compared
  compared_rules made [] = go (eqb made (total_moves s)) refl
    where
      go : (t : Bool) → eqb made (total_moves s) ≡ t → Rules made [] (cond (eqb made (total_moves s)) Agrees (Early made))
      go true e = rw e (record { moves = λ _. refl; all = λ _. omega (arith, eqb-true made (total_moves s) e); last = λ h. absurd (omega (arith, h)) })
      go false e = rw e (record { moves = λ _. refl; all = λ h. absurd (omega (arith, h)); last = λ _. omega arith })
  compared_rules made (x ∷ ms) = go (agrees_at s w m a (suc made) x) refl (compared_rules (suc made) ms)
    where
      go : (t : Bool) → agrees_at s w m a (suc made) x ≡ t → Rules (suc made) ms (compared s w m a (suc made) ms)
          → Rules made (x ∷ ms) (cond (agrees_at s w m a (suc made) x) (compared s w m a (suc made) ms) (Differs (suc made)))
      go true e z =
          rw e
          (record {
            moves = λ h. ap₂ ◌∷◌ (move_is made x e) (z.moves h);
            all = λ h. omega (arith, z.all h);
            last = λ h. omega (arith, z.last h);
          })
      go false e z = rw e (record { moves = λ h. absurd (h refl); all = λ h. absurd (omega (arith, h)); last = λ h. absurd (omega (arith, h)) })

  pub agrees_rule : (ms : List Captured) → compared s w m a 0 ms ≡ Agrees → (ms ≡ rule_moves 0 (length ms)) × (length ms ≡ total_moves s)
  agrees_rule ms e =
      let z = compared_rules 0 ms in
      let k : kind (compared s w m a 0 ms) ≡ 0 = ap kind e in
      (z.moves (λ h. omega (arith, k, h)), omega (arith, z.all k))

  pub early_rule : (ms : List Captured) (last : ℕ) → compared s w m a 0 ms ≡ Early last → (ms ≡ rule_moves 0 (length ms)) × (last ≡ length ms)
  early_rule ms last e =
      let z = compared_rules 0 ms in
      let k : kind (compared s w m a 0 ms) ≡ 2 = ap kind e in
      let l : move_in (compared s w m a 0 ms) ≡ last = ap move_in e in
      (z.moves (λ h. omega (arith, k, h)), omega (arith, z.last k, l))

  -- so a replay that finds that all agrees, or that the capture ends early, says so of the capture's own moves
  pub replay_agrees : (capture : List ℕ) → replay_of s w m a capture ≡ Ok Agrees
      → (moves_in (capture_verdict s capture) ≡ rule_moves 0 (length (moves_in (capture_verdict s capture))))
      × (length (moves_in (capture_verdict s capture)) ≡ total_moves s)
  replay_agrees capture e = agrees_rule (moves_in (capture_verdict s capture)) (found_compared s w m a (capture_verdict s capture) e)

  pub replay_early : (capture : List ℕ) (last : ℕ) → replay_of s w m a capture ≡ Ok (Early last)
      → (moves_in (capture_verdict s capture) ≡ rule_moves 0 (length (moves_in (capture_verdict s capture))))
      × (last ≡ length (moves_in (capture_verdict s capture)))
  replay_early capture last e = early_rule (moves_in (capture_verdict s capture)) last (found_compared s w m a (capture_verdict s capture) e)
