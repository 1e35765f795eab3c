-- A lane of which the first cells are lent by themselves, and the others filled with 0.
use Rattle.std.proofs.Common.{◌≡◌, ℕ, ◌+◌, ◌-◌, ◌<◌, ◌≤◌, cond, ltb, List, ◌++◌, length, get_or, take, drop, replicate, ap, ◌∙◌, ⊎_elim, arith, length-append, length-drop, length-take, lt-ltb, le-ltb}
use lib.ListN.{get_or-append, get_or-replicate, length-replicate}
use lib.Seq.{length-take-le, length_front, get_or-take, get_or-append_right}
use borrow.Rule.Slice.PartMut.{put_mid}
use Rattle.laws.proofs.Deciding.{apart}
use Rattle.laws.proofs.Tables.{entries-all, entries_cong}
use Rattle.plainrecords.specs.Inside.{up_to}

-- where the cells from `count` on were filled with 0, the first ones are as they were
module _ (count : ℕ) (l : List ℕ) where
  abbrev zeroed : List ℕ → List ℕ
  zeroed y = put_mid count (length l - count) l y

  abbrev many : ℕ
  many = length (take (length l - count) (drop count l))

  pub zeroed_behind : {y : List ℕ} → count ≤ length l → y ≡ replicate many 0 → zeroed y ≡ up_to count (λ i. get_or l i 0) (length l)
  zeroed_behind {y} h e = entries-all (λ i. cond (ltb i count) (get_or l i 0) 0) (length l) 0 (zeroed y) size each
    where
      rest : many + count ≡ length l
      rest = simp (length-take, length-drop) (omega arith)

      front : length (take count l) ≡ count
      front = length-take-le count l h

      long : length y ≡ many
      long = ap length e ∙ length-replicate many 0

      size : length (zeroed y) ≡ length l
      size = simp (length-append, length-drop) (omega (arith, front, long, rest))

      before : (k : ℕ) → k < count → get_or (zeroed y) k 0 ≡ get_or l k 0
      before k u = get_or-append (take count l) _ 0 k (omega (arith, front)) ∙ get_or-take count l k 0 u

      behind : (k : ℕ) → count ≤ k → k < length l → get_or (zeroed y) k 0 ≡ 0
      behind k u v =
          let at = k - length (take count l) in
          get_or-append_right (take count l) _ k 0 (omega (arith, front)) ∙ get_or-append y _ 0 at (omega (arith, front, long, rest))
          ∙ ap (λ (z : List ℕ). get_or z at 0) e ∙ get_or-replicate many at 0 0 (omega (arith, front, rest))

      each : (k : ℕ) → k < length l → get_or (zeroed y) k 0 ≡ cond (ltb k count) (get_or l k 0) 0
      each k v = ⊎_elim (λ u. rw (lt-ltb k count u) (before k u)) (λ u. rw (le-ltb k count u) (behind k u v)) (apart k count)

-- and where they came back filled, they are those of a rule
pub filled-front : (count : ℕ) (l : List ℕ) → count ≤ length l → (f : ℕ → ℕ) (y : List ℕ) {l' : List ℕ} → length y ≡ length (take count l)
    → ((k : ℕ) → k < length y → get_or y k 0 ≡ f k)
    → l' ≡ up_to count (λ i. get_or (y ++ drop count l) i 0) (length (y ++ drop count l)) → l' ≡ up_to count f (length l)
filled-front count l h f y many each e =
    e ∙ ap (up_to count (λ i. get_or (y ++ drop count l) i 0)) (length_front l y count many)
    ∙ entries_cong (length l) (λ k v. ⊎_elim (λ u. rw (lt-ltb k count u) (at k u)) (λ u. rw (le-ltb k count u)) (apart k count))
  where
    at : (k : ℕ) → k < count → get_or (y ++ drop count l) k 0 ≡ f k
    at k u =
        let room : k < length y = omega (arith, many, length-take-le count l h) in
        get_or-append y (drop count l) 0 k room ∙ each k room
