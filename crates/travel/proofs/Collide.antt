-- The records of concentrate: never three in a cell, and at the end each in the cell of its rank. So it is for any list of the shape.
use Prim.Native.Nat.{ℕ, zero, suc, ◌+◌, ◌-◌, ◌*◌, ◌/◌, ◌%◌, ◌≤◌, ◌<◌}
use mathlib.Core.Path.{◌≡◌, refl, sym, ap, ◌∙◌}
use mathlib.Core.List.{List, [], ◌∷◌}
use lib.ListN.{take, drop, length, drop_of_length-le}
use lib.Arith.{digits_div, digits_mod, mod-mul}
use native.Mathlib.Nat.{div-add-mod', mod-lt, mod-eq_of_lt, div-eq_of_lt, div-lt_iff_lt-mul, mul-pos, le-div_iff_mul-le, le_trans, lt_of_le_of_lt, div-mul-le_self, le_of_eq, add-zero, add-suc, zero-add}
use native.Mathlib.Omega.{arith}
use Rattle.array.specs.declared.moves.Way.{Way}
use Rattle.array.specs.declared.moves.Move.{Move}
use Rattle.array.specs.declared.moves.Move.TheVariants.{Swap, Electronic}
use Rattle.array.specs.Cells.{groups, cells, cell, place, group, partner}
use Rattle.array.specs.Moves.{opposite}
use Rattle.lists.proofs.Counts.{concentrate_length}
use Rattle.travel.specs.Travel.{toward, heading, concentrate_moves, travel, stands}
use Rattle.travel.proofs.Line.{near_lt, near-all, near-back, Before, before_mod, before_div, meet, Lined, no_three}
use Rattle.travel.proofs.Walk.{Steps, no_steps, steps_to, onto, tally, row_of, column_of, seat, seat<, going, Heads, step_on, undone, start}
use Rattle.travel.proofs.Listed.{swaps_after}
use Rattle.travel.proofs.Shape.{Straight, in_rows, in_columns, Full, Concentrates, concentrates}

-- two numbers of two digits that are equal: digit by digit
pub same : {m y x y' x' : ℕ} → x < m → x' < m → y * m + x ≡ y' * m + x' → (y ≡ y') × (x ≡ x')
same {m} {y} {x} {y'} {x'} h h' e =
    (sym (digits_div y h) ∙ ap (λ (z : ℕ). z / m) e ∙ digits_div y' h', sym (digits_mod y h) ∙ ap (λ (z : ℕ). z % m) e ∙ digits_mod y' h')

div_mono : {s : ℕ} → 0 < s → {p q : ℕ} → q ≤ p → q / s ≤ p / s
div_mono {s} pos {p} {q} h = (le-div_iff_mul-le pos).1 (le_trans (div-mul-le_self q s) h)

-- a record of rank r can start in cell i of s * s * s * s
pub record Starts (s i r : ℕ) : Type 0 where
  pub rank : r ≤ i
  pub inside : i < cells s

-- where it is, by the swaps made and the moves of its half: in its group, then in the group of its rank's last two digits, and then at home
abbrev pub spot : ℕ → ℕ → Steps → ℕ → ℕ → ℕ
spot s zero c i r = cell s (group s i) (seat s (place s i) r c)
spot s (suc zero) c i r = cell s (r % groups s) (seat s (group s i) (r / groups s) c)
spot s (suc (suc swaps)) c i r = r

module _ (s : ℕ) (pos : 0 < s) where
  pos² : 0 < s * s
  pos² = mul-pos pos pos

  low : {p : ℕ} → p < s * s → p / s < s
  low h = (div-lt_iff_lt-mul pos).1 h

  low² : {i : ℕ} → i < cells s → i / (s * s) < s * s
  low² h = (div-lt_iff_lt-mul pos²).1 h

  -- the records of a group: while none is up or down they meet in rows, and once all are made right and left they meet in columns.
  -- This is all that the order of the moves is needed for
  module _ (c : Steps) where
    digits : {p q p' q' : ℕ} → Before p q p' q' → seat s p q c ≡ seat s p' q' c → (row_of s p q c ≡ row_of s p' q' c) × (column_of s p q c ≡ column_of s p' q' c)
    digits {p} {q} {p'} {q'} f e = same (near_lt c.rights c.lefts (mod-lt p pos) (mod-lt q pos)) (near_lt c.rights c.lefts (mod-lt p' pos) (mod-lt q' pos)) e

    by_line : Straight s c → Lined s (λ p q. p < s * s) (λ p q. seat s p q c)
    by_line (in_rows u d) =
        record { X = λ p. p; Q = λ q. q; meets = λ f i i' e. meet pos f c.rights c.lefts (omega (arith, (digits f e).0)) (digits f e).1 }
    by_line (in_columns a b) =
        let there : (p q : ℕ) → column_of s p q c ≡ q % s = λ p q. near-all c.rights c.lefts (mod-lt p pos) (mod-lt q pos) a b in
        record {
          X = λ p. p / s;
          Q = λ q. q / s;
          meets = λ f i i' e.
              meet pos (before_div pos f (sym (there _ _) ∙ (digits f e).1 ∙ there _ _)) c.downs c.ups
              (div-eq_of_lt (low i) ∙ sym (div-eq_of_lt (low i'))) (rw (mod-eq_of_lt (low i), mod-eq_of_lt (low i')) (digits f e).0);
        }

  -- one record
  module _ {i r : ℕ} (o : Starts s i r) where
    key< : r / groups s < s * s
    key< = low² (lt_of_le_of_lt o.rank o.inside)

    -- the heading r mod N of the first half has the last two digits of r; that of the second half, r div N, has only two
    heads₁ : Heads s (place s i) r (r % groups s)
    heads₁ =
        record {
          pos = pos;
          inside = mod-lt i pos²;
          in_column = rw (mod-mul r pos pos) (digits_mod (r / s % s) (mod-lt r pos));
          in_row = rw (mod-mul r pos pos) (digits_div (r / s % s) (mod-lt r pos));
        }

    heads₂ : Heads s (group s i) (r / groups s) (r / groups s)
    heads₂ = record { pos = pos; inside = low² o.inside; in_column = refl; in_row = sym (mod-eq_of_lt (low key<)) }

    pub spot_on : (swaps : ℕ) (c : Steps) (w : Way) → swaps ≤ 1 → toward s w (heading s swaps r) (spot s swaps c i r) ≡ spot s swaps (onto (Electronic w) c) i r
    spot_on zero c w few = step_on heads₁ (group s i) c w
    spot_on (suc zero) c w few = step_on heads₂ (r % groups s) c w
    spot_on (suc (suc swaps)) c w few = absurd (omega arith)

    pub spot_back : (swaps : ℕ) (c : Steps) (w : Way) → swaps ≤ 1
        → going s (opposite w) (steps_to w c) (heading s swaps i) (spot s swaps (onto (Electronic w) c) i r) ≡ spot s swaps c i r
    spot_back zero c w few = undone heads₁ (group s i) c w
    spot_back (suc zero) c w few = undone heads₂ (r % groups s) c w
    spot_back (suc (suc swaps)) c w few = absurd (omega arith)

    swapped : (g : ℕ) {p : ℕ} → p < s * s → partner s (cell s g p) ≡ cell s p g
    swapped g h = rw (digits_mod g h, digits_div g h)

    -- at the end of the first half the record is in its place
    arrived : (c : Steps) → Full s 0 c → seat s (place s i) r c ≡ r % groups s
    arrived c f =
        rw (
          near-all c.rights c.lefts (mod-lt (place s i) pos) (mod-lt r pos) f.rights f.lefts,
          near-all c.downs c.ups (low (mod-lt i pos²)) (mod-lt (r / s) pos) (f.downs refl) f.ups,
        )
        (sym (mod-mul r pos pos))

    -- and at the end of the second: no record had to go down, for its key is not above the group that it started in
    at_home : (c : Steps) → Full s 1 c → seat s (group s i) (r / groups s) c ≡ r / groups s
    at_home c f =
        rw (
          near-all c.rights c.lefts (mod-lt (group s i) pos) (mod-lt (r / groups s) pos) f.rights f.lefts,
          mod-eq_of_lt (low key<),
          near-back c.downs c.ups (low (low² o.inside)) (div_mono pos (div_mono pos² o.rank)) f.ups,
        )
        (div-add-mod' (r / groups s) s)

    spot-swapped : (swaps : ℕ) (c : Steps) → swaps ≤ 1 → Full s swaps c → partner s (spot s swaps c i r) ≡ spot s (suc swaps) no_steps i r
    spot-swapped zero c few f = swapped (group s i) (seat< heads₁ c) ∙ ap (λ (g : ℕ). cell s g (group s i)) (arrived c f) ∙ start s (r % groups s) (group s i) (r / groups s)
    spot-swapped (suc zero) c few f = swapped (r % groups s) (seat< heads₂ c) ∙ ap (λ (g : ℕ). cell s g (r % groups s)) (at_home c f) ∙ div-add-mod' r (groups s)
    spot-swapped (suc (suc swaps)) c few f = absurd (omega arith)

-- what k moves of a list of the shape leave, from so many swaps and moves of a half
pub record Reached (s swaps : ℕ) (c : Steps) (ms : List Move) (k : ℕ) : Type 0 where
  pub straight : Straight s (tally (take k ms) c)
  pub rest : Concentrates s (swaps_after (take k ms) swaps) (tally (take k ms) c) (drop k ms)
  pub stood : (i r : ℕ) → Starts s i r → travel s swaps r (take k ms) (spot s swaps c i r) ≡ spot s (swaps_after (take k ms) swaps) (tally (take k ms) c) i r

module _ (s : ℕ) (pos : 0 < s) where
  reached : (swaps : ℕ) (c : Steps) (ms : List Move) → Straight s c → Concentrates s swaps c ms → (k : ℕ) → Reached s swaps c ms k
  reached swaps c [] z f zero = record { straight = z; rest = f; stood = λ i r o. refl }
  reached swaps c [] z f (suc k) = record { straight = z; rest = f; stood = λ i r o. refl }
  reached swaps c (m ∷ ms) z f zero = record { straight = z; rest = f; stood = λ i r o. refl }
  reached swaps c (Swap ∷ ms) z f (suc k) =
      let t = reached (suc swaps) no_steps ms (in_rows refl refl) f.2 k in
      record {
        straight = t.straight;
        rest = t.rest;
        stood = λ i r o. ap (travel s (suc swaps) r (take k ms)) (spot-swapped s pos o swaps c f.0 f.1) ∙ t.stood i r o;
      }
  reached swaps c (Electronic w ∷ ms) z f (suc k) =
      let t = reached swaps (onto (Electronic w) c) ms f.1 f.2 k in
      record {
        straight = t.straight;
        rest = t.rest;
        stood = λ i r o. ap (travel s swaps r (take k ms)) (spot_on s pos o swaps c w f.0) ∙ t.stood i r o;
      }

  -- any two records in one cell meet in a line: in the first half by the place that they started in and the rank, in the second by the group and
  -- the rank's first digits; behind it no two meet
  meeting : (swaps : ℕ) (c : Steps) → Straight s c → Lined s (Starts s) (λ i r. spot s swaps c i r)
  meeting zero c z =
      let g = by_line s pos c z in
      record {
        X = λ i. g.X (place s i);
        Q = λ r. g.Q r;
        meets = λ f o o' e.
            let d = same (seat< (heads₁ s pos o) c) (seat< (heads₁ s pos o') c) e in
            g.meets (before_mod (pos² s pos) f d.0) (mod-lt _ (pos² s pos)) (mod-lt _ (pos² s pos)) d.1;
      }
  meeting (suc zero) c z =
      let g = by_line s pos c z in
      record {
        X = λ i. g.X (group s i);
        Q = λ r. g.Q (r / groups s);
        meets = λ f o o' e.
            let d = same (seat< (heads₂ s pos o) c) (seat< (heads₂ s pos o') c) e in
            g.meets (before_div (pos² s pos) f d.0) (low² s pos o.inside) (low² s pos o'.inside) d.1;
      }
  meeting (suc (suc swaps)) c z = record { X = λ i. i; Q = λ r. r; meets = λ f o o' e. absurd (omega (arith, f)) }

  -- a list of the shape, from the start
  module _ (ms : List Move) (f : Concentrates s 0 no_steps ms) (k : ℕ) where
    pub from_start : Reached s 0 no_steps ms k
    from_start = reached 0 no_steps ms (in_rows refl refl) f k

    pub stood_at : {i r : ℕ} → Starts s i r → travel s 0 r (take k ms) i ≡ spot s (swaps_after (take k ms) 0) (tally (take k ms) no_steps) i r
    stood_at {i} {r} o = ap (travel s 0 r (take k ms)) (sym (div-add-mod' i (groups s)) ∙ start s (group s i) (place s i) r) ∙ from_start.stood i r o

    pub never_three_by : {i r i' r' i'' r'' : ℕ} → Before i r i' r' → Before i' r' i'' r'' → Starts s i r → Starts s i' r' → Starts s i'' r''
        → travel s 0 r (take k ms) i ≡ travel s 0 r' (take k ms) i' → travel s 0 r' (take k ms) i' ≡ travel s 0 r'' (take k ms) i'' → ⊥
    never_three_by b b' o o' o'' e e' =
        let l = meeting (swaps_after (take k ms) 0) (tally (take k ms) no_steps) from_start.straight in
        no_three pos l b b' o o' o'' (sym (stood_at o) ∙ e ∙ stood_at o') (sym (stood_at o') ∙ e' ∙ stood_at o'')

    pub at_the_end_by : {i r : ℕ} → length ms ≤ k → Starts s i r → travel s 0 r (take k ms) i ≡ r
    at_the_end_by {i} {r} h o =
        let two : swaps_after (take k ms) 0 ≡ 2 = rw (drop_of_length-le ms h) at from_start.rest in
        stood_at o ∙ rw two

-- b records, in cells that rise with their ranks
module _ (s b : ℕ) (pos : 1 ≤ s) (starts : ℕ → ℕ) (rising : (r : ℕ) → suc r < b → starts r < starts (suc r)) (inside : (r : ℕ) → r < b → starts r < cells s) where
  apart : (d r : ℕ) → r + d < b → starts r + d ≤ starts (r + d)
  apart zero r h = rw (add-zero r) (omega arith)
  apart (suc d) r h = rw (add-suc r d) (omega (arith, apart d r (omega arith), rising (r + d) (omega arith)))

  pub before : (r r' : ℕ) → r < r' → r' < b → Before (starts r) r (starts r') r'
  before r r' h l =
      let e : r + (r' - r) ≡ r' = omega arith in
      let a : starts r + (r' - r) ≤ starts r' = rw e at (apart (r' - r) r (omega arith)) in
      omega arith

  pub can_start : (r : ℕ) → r < b → Starts s (starts r) r
  can_start r h =
      let a = rw (zero-add r) at (apart r 0 (omega arith)) in
      record { rank = omega arith; inside = inside r h }

  pub never_three : (k r r' r'' : ℕ) → r < r' → r' < r'' → r'' < b →
      stands s k r (starts r) ≡ stands s k r' (starts r') → stands s k r' (starts r') ≡ stands s k r'' (starts r'') → ⊥
  never_three k r r' r'' h h' l =
      never_three_by s pos (concentrate_moves s) (concentrates s) k (before r r' h (omega arith)) (before r' r'' h' l)
      (can_start r (omega arith)) (can_start r' (omega arith)) (can_start r'' l)

  pub at_the_end : (r : ℕ) → r < b → stands s (7 * (s - 1) + 2) r (starts r) ≡ r
  at_the_end r h = at_the_end_by s pos (concentrate_moves s) (concentrates s) (7 * (s - 1) + 2) (le_of_eq (concentrate_length s)) (can_start r h)
