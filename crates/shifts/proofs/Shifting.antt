-- The eight shifts: the listed moves give the result.
use Prim.Native.Nat.{ℕ, zero, suc, ◌+◌, ◌-◌, ◌%◌, ◌≤◌, ◌<◌}
use mathlib.Core.Path.{◌≡◌, refl, sym, ap, ap₂, ◌∙◌, fun_ext}
use mathlib.Core.Bool.{Bool, true, false, cond, ◌&&◌}
use mathlib.Core.List.{List}
use native.Mathlib.Omega.{arith}
use native.Mathlib.Decide.{dec_lt}
use native.Mathlib.Nat.{add-mod_right, mod-eq_of_lt}
use lib.IntN.{ℤ, pos, negsuc}
use lib.Dec.{ltb}
use borrow.Author.Tests.{lt-ltb, le-ltb}
use Rattle.array.specs.declared.moves.Way.{Way}
use Rattle.array.specs.declared.moves.Way.TheVariants.{Right, Left, Up, Down}
use Rattle.shiftlists.specs.declared.Axis.{Axis}
use Rattle.shiftlists.specs.declared.Axis.TheVariants.{MeshRow, MeshColumn, GroupRow, GroupColumn}
use Rattle.shiftlists.specs.declared.Edge.{Edge}
use Rattle.shiftlists.specs.declared.Edge.TheVariants.{ZeroFill, Circular}
use Rattle.array.specs.Moves.{opposite}
use Rattle.runs.specs.Runs.{moves, along}
use Rattle.shiftlists.specs.declared.Distance.{Distance}
use Rattle.shiftlists.specs.Shifts.{distance_of, within, modulo, is_nothing, forth_moves, back_moves, shift_list}
use Rattle.shiftlists.proofs.Counts.{modulo-nothing}
use Rattle.shiftlists.proofs.Within.{within_known}
use Rattle.lanes.specs.Machine.{State, Stage, from_before, from_after, ran, all, stage_runs, load, unload}
use Rattle.lanes.specs.declared.Joining.TheVariants.{Fill}
use Rattle.lanes.specs.Runs.{running}
use Rattle.lanes.specs.Stages.{position, filled}
use Rattle.shifts.specs.declared.Shift.{Shift}
use Rattle.shifts.specs.Programs.{Shifting, load_shift, forth, takes_back, back, shift, shifted_by}
use Rattle.shifts.specs.Results.{came_from, word_from, shifted, shift_words}
use Rattle.shifts.specs.Inside.{slide, takes, mesh_shift, shift_on}
use Rattle.lanes.proofs.Coordinates.{unload_cong}
use Rattle.lanes.proofs.Lines.{line, plain}
use Rattle.lanes.proofs.Lines as lines
use Rattle.lanes.proofs.Views.{lane, ran_view, ran_keeps}

-- the word that comes to position p when each goes k on, or k back
abbrev shifted_on : ℕ → (ℕ → ℕ) → ℕ → ℕ
shifted_on k f p = cond (ltb p k) 0 (f (p - k))

abbrev shifted_back : ℕ → ℕ → (ℕ → ℕ) → ℕ → ℕ
shifted_back s k f p = cond (ltb (p + k) s) (f (p + k)) 0

line_on : (f : ℕ → ℕ) (k p : ℕ) → line from_before (λ k p own got. filled got) k f p ≡ shifted_on k f p
line_on f zero p = rw (le-ltb p 0 (omega arith)) (ap f (omega arith))
line_on f (suc k) zero = rw (lt-ltb 0 (suc k) (omega arith))
line_on f (suc k) (suc p) = line_on f k p ∙ go (dec_lt p k)
  where
    go : Dec (p < k) → shifted_on k f p ≡ shifted_on (suc k) f (suc p)
    go (yes h) = rw (lt-ltb p k h, lt-ltb (suc p) (suc k) (omega arith))
    go (no h) = rw (le-ltb p k (omega arith), le-ltb (suc p) (suc k) (omega arith)) (ap f (omega arith))

line-back : (s : ℕ) (f : ℕ → ℕ) (k p : ℕ) → p < s → line (from_after s) (λ k p own got. filled got) k f p ≡ shifted_back s k f p
line-back s f zero p h = rw (lt-ltb (p + 0) s (omega arith)) (ap f (omega arith))
line-back s f (suc k) p h = go (dec_lt (suc p) s) (line-back s f k (suc p))
  where
    go : Dec (suc p < s) → (suc p < s → line (from_after s) (λ k p own got. filled got) k f (suc p) ≡ shifted_back s k f (suc p))
        → line (from_after s) (λ k p own got. filled got) (suc k) f p ≡ shifted_back s (suc k) f p
    go (yes l) ih =
        let q : suc p + k ≡ p + suc k = omega arith in
        rw (lt-ltb (suc p) s l) (ih l ∙ ap (λ n. cond (ltb n s) (f n) 0) q)
    go (no l) ih = rw (le-ltb (suc p) s (omega arith), le-ltb (p + suc k) s (omega arith))

module _ (s : ℕ) (σ : State ℕ) (k c d a b : ℕ) where
  slide-right : slide s Right k σ c d a b ≡ shifted_on k (σ c d a) b
  slide-right = ap (λ (g : ℕ → ℕ). g b) (lines.right s k (running Right Fill 0 k).rule σ c d k a) ∙ line_on (σ c d a) k b

  slide-down : slide s Down k σ c d a b ≡ shifted_on k (λ i. σ c d i b) a
  slide-down = ap (λ (g : ℕ → ℕ). g a) (lines.down s k (running Down Fill 0 k).rule σ c d k b) ∙ line_on (λ i. σ c d i b) k a

  slide-left : b < s → slide s Left k σ c d a b ≡ shifted_back s k (σ c d a) b
  slide-left h = ap (λ (g : ℕ → ℕ). g b) (lines.left s k (running Left Fill 0 k).rule σ c d k a) ∙ line-back s (σ c d a) k b h

  slide-up : a < s → slide s Up k σ c d a b ≡ shifted_back s k (λ i. σ c d i b) a
  slide-up h = ap (λ (g : ℕ → ℕ). g a) (lines.up s k (running Up Fill 0 k).rule σ c d k b) ∙ line-back s (λ i. σ c d i b) k a h

-- what a shift makes by the moves of its list
abbrev pub shift_of : Edge → ℕ → Distance → Shift
shift_of edge s k = record { edge = edge; forth = forth_moves edge s k; around = back_moves edge s k }

abbrev shift_state : ℕ → Axis → Edge → Distance → State ℕ → State ℕ
shift_state s axis edge k σ = shift_on s axis (shift_of edge s k) σ

-- a cell that takes what comes back has it from the first move back on
taken : (n : ℕ) (t : Bool) (y y' x x' : ℕ) → x ≡ cond (ltb 0 n && t) y x' → cond t y' x ≡ cond (ltb 0 (suc n) && t) y' x'
taken n true y y' x x' e = rw (lt-ltb 0 (suc n) (omega arith))
taken n false y y' x x' e = rw (lt-ltb 0 (suc n) (omega arith)) (e ∙ never (ltb 0 n))
  where
    never : (t : Bool) → cond (t && false) y x' ≡ x'
    never true = refl
    never false = refl

-- the machine's two registers
module _ (s : ℕ) (w : Way) (edge : Edge) (k : Distance) (σ : State ℕ) where
  forth_stage : Stage Shifting ℕ
  forth_stage = record { run = along w (forth_moves edge s k); send = λ o. o.x; rule = λ n c d a b. forth }

  back_stage : Stage Shifting ℕ
  back_stage = record {
    run = along (opposite w) (back_moves edge s k);
    send = λ o. o.y;
    rule = λ n c d a b. back (takes_back edge (forth_moves edge s k) (position w a b));
  }

  σ₁ : State Shifting
  σ₁ = all s forth_stage (λ c d a b. load_shift (σ c d a b))

  x₁ : lane (λ o. o.x) σ₁ ≡ slide s w (forth_moves edge s k) σ
  unfolding σ₁ forth_stage
  x₁ = ran_view (λ o. o.x) (along w (forth_moves edge s k)) (λ n c d a b. forth) (λ n c d a b own got. filled got)
      (λ n c d a b o g. refl) s (forth_moves edge s k) (λ c d a b. load_shift (σ c d a b))

  y₁ : lane (λ o. o.y) σ₁ ≡ σ
  unfolding σ₁ forth_stage
  y₁ = fun_ext (λ c. fun_ext (λ d. fun_ext (λ a. fun_ext (λ b.
      ran_keeps (λ (o : Shifting). o.y ≡ σ c d a b) s forth_stage (λ c d a b. load_shift (σ c d a b)) c d a b (λ n o g p. p) refl (forth_moves edge s k)))))

  y₂ : (n : ℕ) → lane (λ o. o.y) (ran s back_stage n σ₁) ≡ ran s (plain (opposite w) (back_moves edge s k) (λ k c d a b own got. filled got)) n σ
  unfolding back_stage
  y₂ n =
      ran_view (λ o. o.y) (along (opposite w) (back_moves edge s k)) back_stage.rule (λ n c d a b own got. filled got) (λ n c d a b o g. refl) s n σ₁
      ∙ ap (ran s (plain (opposite w) (back_moves edge s k) (λ k c d a b own got. filled got)) n) y₁

  x₂ : (n c d a b : ℕ) → (ran s back_stage n σ₁ c d a b).x
      ≡ cond (takes (record { edge = edge; forth = forth_moves edge s k; around = n }) (position w a b)) (ran s back_stage n σ₁ c d a b).y (σ₁ c d a b).x
  unfolding back_stage
  x₂ zero c d a b = refl
  x₂ (suc n) c d a b = taken n (takes_back edge (forth_moves edge s k) (position w a b)) _ _ _ _ (x₂ n c d a b)

  -- the program inside the groups
  mesh_lane : lane (λ o. o.x) (all s back_stage σ₁) ≡ mesh_shift s w (shift_of edge s k) σ
  unfolding back_stage
  mesh_lane = fun_ext (λ c. fun_ext (λ d. fun_ext (λ a. fun_ext (λ b.
      x₂ (back_moves edge s k) c d a b
      ∙ ap₂ (cond (takes (shift_of edge s k) (position w a b)))
      (ap (λ (τ : State ℕ). τ c d a b) (y₂ (back_moves edge s k))) (ap (λ (τ : State ℕ). τ c d a b) x₁)))))

pub shift-lane : (s : ℕ) (axis : Axis) (edge : Edge) (k : Distance) (σ : State ℕ)
    → shifted_by s axis edge k σ ≡ shift_on s axis (shift_of edge s k) σ
unfolding σ₁ forth_stage back_stage
shift-lane s MeshRow edge k σ = mesh_lane s Right edge k σ
shift-lane s MeshColumn edge k σ = mesh_lane s Down edge k σ
shift-lane s GroupRow edge k σ = ap {B = State ℕ} (λ (τ : State ℕ) c d a b. τ a b c d) (mesh_lane s Right edge k (λ c d a b. σ a b c d))
shift-lane s GroupColumn edge k σ = ap {B = State ℕ} (λ (τ : State ℕ) c d a b. τ a b c d) (mesh_lane s Down edge k (λ c d a b. σ a b c d))

-- what position p of a line has of the words that came back and those that came forth
module _ (s : ℕ) (f : ℕ → ℕ) (p : ℕ) (p_in : p < s) where
  turned : (m : ℕ) → m < s → cond (ltb p m) (shifted_back s (s - m) f p) (shifted_on m f p) ≡ f ((p + (s - m)) % s)
  turned m hm = go (dec_lt p m)
    where
      go : Dec (p < m) → cond (ltb p m) (shifted_back s (s - m) f p) (shifted_on m f p) ≡ f ((p + (s - m)) % s)
      go (yes h) = rw (lt-ltb p m h, lt-ltb (p + (s - m)) s (omega arith)) (ap f (sym (mod-eq_of_lt (omega arith))))
      go (no h) =
          let q : p + (s - m) ≡ p - m + s = omega arith in
          rw (le-ltb p m (omega arith), q, add-mod_right (p - m) s) (ap f (sym (mod-eq_of_lt (omega arith))))

  modulo_in : (k : ℤ) → within s (distance_of k) ≡ true → modulo s (distance_of k) < s
  modulo_in (pos n) h = (within_known s (distance_of (pos n)) h).forth
  modulo_in (negsuc n) h = rw (lt-ltb 0 (suc n) (omega arith)) (omega arith)

  abbrev line_shift : Edge → Distance → ℕ
  line_shift edge k = cond (takes (shift_of edge s k) p) (shifted_back s (back_moves edge s k) f p) (shifted_on (forth_moves edge s k) f p)

  line-shifted : (edge : Edge) (k : ℤ) → within s (distance_of k) ≡ true → line_shift edge (distance_of k) ≡ word_from f (came_from edge s (distance_of k) p)
  line-shifted ZeroFill (pos n) h = go (dec_lt p n)
    where
      q : p + 0 ≡ p
      q = omega arith

      go : Dec (p < n) → shifted_on n f p ≡ word_from f (came_from ZeroFill s (distance_of (pos n)) p)
      go (yes l) = rw (q, lt-ltb p n l)
      go (no l) = rw (q, le-ltb p n (omega arith), lt-ltb (p - n) s (omega arith))
  line-shifted ZeroFill (negsuc n) h = rw (lt-ltb 0 (suc n) (omega arith)) (go (dec_lt (p + suc n) s))
    where
      q : p + suc n - 0 ≡ p + suc n
      q = omega arith

      go : Dec (p + suc n < s) → shifted_back s (suc n) f p ≡ word_from f (came_from ZeroFill s (distance_of (negsuc n)) p)
      go (yes l) = rw (q, le-ltb (p + suc n) 0 (omega arith), lt-ltb (p + suc n) s l)
      go (no l) = rw (q, le-ltb (p + suc n) 0 (omega arith), le-ltb (p + suc n) s (omega arith))
  line-shifted Circular k h = go (is_nothing (distance_of k)) refl
    where
      go : (t : Bool) → is_nothing (distance_of k) ≡ t → line_shift Circular (distance_of k) ≡ word_from f (came_from Circular s (distance_of k) p)
      go true e =
          let here = le-ltb p 0 (omega arith) in
          rw (modulo-nothing s (distance_of k) e, e, here) (rw here at (turned 0 (omega (arith, p_in))))
      go false e =
          rw (e, lt-ltb 0 (s - modulo s (distance_of k)) (omega (arith, modulo_in k h))) (turned (modulo s (distance_of k)) (modulo_in k h))

-- each word goes where it is to go
mesh_row : (s : ℕ) (edge : Edge) (k : ℤ) (σ : State ℕ) → within s (distance_of k) ≡ true → (c d a b : ℕ) → b < s
    → mesh_shift s Right (shift_of edge s (distance_of k)) σ c d a b ≡ word_from (σ c d a) (came_from edge s (distance_of k) b)
mesh_row s edge k σ h c d a b hb =
    ap₂ (cond (takes (shift_of edge s (distance_of k)) b)) (slide-left s σ (back_moves edge s (distance_of k)) c d a b hb) (slide-right s σ (forth_moves edge s (distance_of k)) c d a b)
    ∙ line-shifted s (σ c d a) b hb edge k h

mesh_column : (s : ℕ) (edge : Edge) (k : ℤ) (σ : State ℕ) → within s (distance_of k) ≡ true → (c d a b : ℕ) → a < s
    → mesh_shift s Down (shift_of edge s (distance_of k)) σ c d a b ≡ word_from (λ i. σ c d i b) (came_from edge s (distance_of k) a)
mesh_column s edge k σ h c d a b ha =
    ap₂ (cond (takes (shift_of edge s (distance_of k)) a)) (slide-up s σ (back_moves edge s (distance_of k)) c d a b ha) (slide-down s σ (forth_moves edge s (distance_of k)) c d a b)
    ∙ line-shifted s (λ i. σ c d i b) a ha edge k h

shift_is : (s : ℕ) (axis : Axis) (edge : Edge) (k : ℤ) (σ : State ℕ) → within s (distance_of k) ≡ true → (c d a b : ℕ) → c < s → d < s → a < s → b < s
    → shift_state s axis edge (distance_of k) σ c d a b ≡ shifted axis (came_from edge s (distance_of k)) σ c d a b
shift_is s MeshRow edge k σ h c d a b hc hd ha hb = mesh_row s edge k σ h c d a b hb
shift_is s MeshColumn edge k σ h c d a b hc hd ha hb = mesh_column s edge k σ h c d a b ha
shift_is s GroupRow edge k σ h c d a b hc hd ha hb = mesh_row s edge k (λ c d a b. σ a b c d) h a b c d hd
shift_is s GroupColumn edge k σ h c d a b hc hd ha hb = mesh_column s edge k (λ c d a b. σ a b c d) h a b c d hc

shift-words : (s : ℕ) (axis : Axis) (edge : Edge) (k : ℤ) (l : List ℕ) → 1 ≤ s → within s (distance_of k) ≡ true
    → unload s (shift_state s axis edge (distance_of k) (load s l)) ≡ shift_words s axis edge k l
shift-words s axis edge k l least h = unload_cong s _ _ least (shift_is s axis edge k (load s l) h)

-- the listed moves shift each word as it is to be
pub shift-all : (s : ℕ) (axis : Axis) (edge : Edge) (k : ℤ) (l : List ℕ) → 1 ≤ s → within s (distance_of k) ≡ true
    → unload s (shifted_by s axis edge (distance_of k) (load s l)) ≡ shift_words s axis edge k l
shift-all s axis edge k l least h = ap (unload s) (shift-lane s axis edge (distance_of k) (load s l)) ∙ shift-words s axis edge k l least h

-- the moves that the program makes are those of the list
pub shift-moves : (s : ℕ) (axis : Axis) (edge : Edge) (k : ℤ) → moves (stage_runs (shift s axis edge (distance_of k))) ≡ moves (shift_list axis (forth_moves edge s (distance_of k)) (back_moves edge s (distance_of k)))
shift-moves s axis edge k = refl
