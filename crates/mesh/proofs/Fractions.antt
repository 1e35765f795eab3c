-- How far along its period a 16-bit number is, by a product: of x times the period's share what lies below 2^32 tells x mod d. What the share has too much is too little to tell.
use Prim.Native.Nat.{ℕ, ◌+◌, ◌-◌, ◌*◌, ◌/◌, ◌%◌, ◌≤◌, ◌<◌}
use mathlib.Core.Path.{◌≡◌, sym, ap, ◌∙◌}
use native.Mathlib.Nat.{add_assoc, add-mul, mul-add, mul_assoc, mul_comm, one-mul, mul-le-mul, mul-le-mul_left, mul-le-mul_right, div-add-mod', mod-lt, le-div_iff_mul-le, div-lt_iff_lt-mul}
use native.Mathlib.Omega.{arith}
use lib.Arith.{digits_mod, digits_div, mod-mul}
use Rattle.mesh.specs.Inside.{share_of}

abbrev whole : ℕ
whole = 4294967296

module _ (x d : ℕ) (pos : 0 < d) (few : d ≤ 4096) (small : x < 65536) where
  abbrev over : ℕ
  over = d - whole % d

  share_is : share_of d * d ≡ whole + over
  share_is = omega (arith, add-mul (whole / d) 1 d, one-mul d, div-add-mod' whole d, mod-lt whole pos)

  share_large : 1048575 ≤ whole / d
  share_large = omega (arith, div-add-mod' whole d, mod-lt whole pos, mul-le-mul_left (whole / d) few)

  product : x * share_of d ≡ x / d * whole + (x / d * over + x % d * share_of d)
  product =
      ap (λ (n : ℕ). n * share_of d) (sym (div-add-mod' x d))
      ∙ add-mul (x / d * d) (x % d) (share_of d)
      ∙ ap (λ (n : ℕ). n + x % d * share_of d) (mul_assoc (x / d) d (share_of d) ∙ ap (λ (n : ℕ). x / d * n) (mul_comm d (share_of d) ∙ share_is) ∙ mul-add (x / d) whole over)
      ∙ add_assoc (x / d * whole) (x / d * over) (x % d * share_of d)

  over_few : x / d * over < 65536
  over_few =
      let a : x / d * over ≤ x / d * d = mul-le-mul_left (x / d) (omega arith) in
      omega (arith, a, div-add-mod' x d)

  rest_few : x / d * over + x % d * share_of d < whole
  rest_few =
      let a : x / d * over ≤ x / d * d = mul-le-mul_left (x / d) (omega arith) in
      let b : (x % d + 1) * share_of d ≤ d * share_of d = mul-le-mul_right (share_of d) (omega (arith, mod-lt x pos)) in
      omega (arith, a, b, add-mul (x % d) 1 (share_of d), one-mul (share_of d), mul_comm d (share_of d), share_is, share_large, div-add-mod' x d)

  part_is : x * share_of d % whole ≡ x / d * over + x % d * share_of d
  part_is = ap (λ (n : ℕ). n % whole) product ∙ digits_mod (x / d) rest_few

-- a digit of x: its weight is c, and m times c its period
module _ (x m c : ℕ) (m_pos : 0 < m) (c_pos : 0 < c) (pos : 0 < m * c) (few : m * c ≤ 4096) (small : x < 65536) where
  abbrev d : ℕ
  d = m * c

  abbrev share : ℕ
  share = share_of (m * c)

  abbrev digit : ℕ
  digit = x / c % m

  digit_is : x % d / c ≡ digit
  digit_is = ap (λ (n : ℕ). n / c) (mod-mul x m_pos c_pos) ∙ digits_div digit (mod-lt x c_pos)

  abbrev part : ℕ
  part = x * share % whole

  -- m times the weight's share is 2^32 and a little more
  shares : c * share * m ≡ whole + (d - whole % d)
  shares = ap (λ (n : ℕ). n * m) (mul_comm c share) ∙ mul_assoc share c m ∙ ap (λ (n : ℕ). share * n) (mul_comm c m) ∙ share_is x d pos few small

  reached : digit * whole ≤ part * m
  reached =
      let u : digit * c ≤ x % d = (le-div_iff_mul-le c_pos).0 (omega (arith, digit_is)) in
      let v : digit * c * share ≤ part = omega (arith, part_is x d pos few small, mul-le-mul_right share u) in
      let w : digit * c * share * m ≤ part * m = mul-le-mul_right m v in
      let e : digit * c * share * m ≡ digit * (c * share * m) = ap (λ (n : ℕ). n * m) (mul_assoc digit c share) ∙ mul_assoc digit (c * share) m in
      let more : whole ≤ c * share * m = omega (arith, shares) in
      omega (arith, w, e, mul-le-mul_left digit more)

  missed : part * m < (digit + 1) * whole
  missed =
      let u : x % d < (digit + 1) * c = (div-lt_iff_lt-mul c_pos).0 (omega (arith, digit_is)) in
      let v : (x % d + 1) * share ≤ (digit + 1) * c * share = mul-le-mul_right share (omega (arith, u)) in
      let a : part + share ≤ 65535 + (digit + 1) * c * share =
      omega (arith, part_is x d pos few small, over_few x d pos few small, v, add-mul (x % d) 1 share, one-mul share) in
      let b : (part + share) * m ≤ (65535 + (digit + 1) * c * share) * m = mul-le-mul_right m a in
      let e : (digit + 1) * c * share * m ≡ (digit + 1) * (c * share * m) = ap (λ (n : ℕ). n * m) (mul_assoc (digit + 1) c share) ∙ mul_assoc (digit + 1) (c * share) m in
      let f : (digit + 1) * (c * share * m) ≡ (digit + 1) * whole + (digit + 1) * (d - whole % d) = ap (λ (n : ℕ). (digit + 1) * n) shares ∙ mul-add (digit + 1) whole (d - whole % d) in
      let g : (digit + 1) * (d - whole % d) ≤ m * 4096 = mul-le-mul (omega (arith, mod-lt (x / c) m_pos)) (omega arith) in
      let h : 1048576 * m ≤ share * m = mul-le-mul_right m (omega (arith, share_large x d pos few small)) in
      omega (arith, b, e, f, g, h, add-mul part share m, add-mul 65535 ((digit + 1) * c * share) m, mul_comm m 4096, m_pos)

  -- the product tells the digit
  pub digit_told : x * share_of (m * c) % whole * m / whole ≡ x / c % m
  digit_told =
      let l : digit ≤ part * m / whole = (le-div_iff_mul-le {k = whole} (omega arith)).1 reached in
      let u : part * m / whole < digit + 1 = (div-lt_iff_lt-mul {k = whole} (omega arith)).1 missed in
      omega (arith, l, u)
