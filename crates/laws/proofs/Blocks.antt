-- A list in blocks of n entries: what a loop that lends each block in turn leaves.
use Prim.Native.Nat.{ℕ, ◌+◌, ◌-◌, ◌*◌, ◌≤◌, ◌<◌}
use mathlib.Core.Path.{◌≡◌, sym, ap, ◌∙◌}
use mathlib.Core.List.{List}
use native.Mathlib.Omega.{arith}
use native.Mathlib.Decide.{ℕ_discrete}
use native.Mathlib.Nat.{suc-mul, mul-le-mul_right}
use lib.ListN.{length, take, drop, get_or, take-append-drop, length-drop}
use lib.Seq.{drop-append-le, take-append-le, length-take-le, drop-drop, drop_at, take_at, get_or-take, get_or-drop}
use borrow.Rule.Slice.PartMut.{put_mid, take_put, drop_put, same_len_mid, mid_len}

-- block g
abbrev pub block : ℕ → ℕ → List ℕ → List ℕ
block n g l = take n (drop (g * n) l)

pub block_at : (n g : ℕ) (l : List ℕ) (i : ℕ) → i < n → get_or (block n g l) i 0 ≡ get_or l (g * n + i) 0
block_at n g l i h = get_or-take n _ i 0 h ∙ get_or-drop (g * n) l i 0

-- the blocks before block g were changed by f, and the others are as they were
pub record Changed (f : List ℕ → List ℕ) (n : ℕ) (old : List ℕ) (g : ℕ) (l : List ℕ) : Type 0 where
  pub size : length l ≡ length old
  pub done : (h : ℕ) → h < g → block n h l ≡ f (block n h old)
  pub left : (h : ℕ) → g ≤ h → block n h l ≡ block n h old

next_le : (n g h : ℕ) → g < h → g * n + n ≤ h * n
next_le n g h p = rw (← suc-mul) (mul-le-mul_right n p)

within : (n k a : ℕ) (l : List ℕ) → k + n ≤ a → a ≤ length l → take n (drop k l) ≡ take n (drop k (take a l))
within n k a l h h' =
    ap (λ z. take n (drop k z)) (sym (take-append-drop a l))
    ∙ ap (take n) (drop-append-le k (take a l) (drop a l) (omega (arith, length-take-le a l h')))
    ∙ take-append-le n (drop k (take a l)) (drop a l) (omega (arith, length-drop k (take a l), length-take-le a l h'))

module _ {f : List ℕ → List ℕ} {n : ℕ} (m : ℕ) {old : List ℕ} {g : ℕ} {l : List ℕ} (whole : length old ≡ m * n) (g_in : g < m)
    (r : Changed f n old g l) where
  pub block_in : g * n + n ≤ length l
  block_in = rw (r.size, whole) (next_le n g m g_in)

  pub block_size : length (take (g * n + n - g * n) (drop (g * n) l)) ≡ n
  block_size = mid_len (g * n) (g * n + n) l block_in ∙ omega arith

  module _ (p : List ℕ) (p_size : length p ≡ n) (q : p ≡ f (take (g * n + n - g * n) (drop (g * n) l))) where
    l' : List ℕ
    l' = put_mid (g * n) (g * n + n - g * n) l p

    same_size : length l' ≡ length l
    unfolding l'
    same_size = same_len_mid (g * n) (g * n + n - g * n) l p (p_size ∙ sym block_size)

    earlier : (h : ℕ) → h < g → block n h l' ≡ block n h l
    unfolding l'
    earlier h k =
        within n (h * n) (g * n) l' (next_le n h g k) (omega (arith, block_in, same_size))
        ∙ ap (λ z. take n (drop (h * n) z)) (take_put (g * n) (g * n + n - g * n) l p (omega (arith, block_in)))
        ∙ sym (within n (h * n) (g * n) l (next_le n h g k) (omega (arith, block_in)))

    here : block n g l' ≡ p
    unfolding l'
    here =
        ap (take n) (drop_at (take (g * n) l) _ (g * n) (length-take-le (g * n) l (omega (arith, block_in)))) ∙ take_at p _ n p_size

    later : (h : ℕ) → g < h → block n h l' ≡ block n h l
    unfolding l'
    later h k =
        let e : h * n ≡ g * n + n + (h * n - (g * n + n)) = omega (arith, next_le n g h k) in
        rw (e, ← drop-drop (h * n - (g * n + n)) (g * n + n) l', drop_put (g * n) (g * n + n) l p (omega arith) block_in (p_size ∙ omega arith), drop-drop)

    pub changed_next : Changed f n old (g + 1) (put_mid (g * n) (g * n + n - g * n) l p)
    unfolding l'
    changed_next = record {
      size = same_size ∙ r.size;
      done = λ h k. go h k (ℕ_discrete h g);
      left = λ h k. later h (omega arith) ∙ r.left h (omega arith);
    }
      where
        go : (h : ℕ) → h < g + 1 → Dec (h ≡ g) → block n h l' ≡ f (block n h old)
        go h k (yes e) =
            let w : g * n + n - g * n ≡ n = omega arith in
            rw (e, here, ← r.left g (omega arith)) (rw w at q)
        go h k (no e) = rw (earlier h (omega arith)) (r.done h (omega arith))
