-- The verdict on a whole text, case by case.
use Rattle.std.proofs.Common.{◌≡◌, ℕ, ◌≤◌, ◌<◌, Bool, true, false, not, List, [], ◌∷◌, Some, None, Result, Ok, Err, length, replicate, refl, sym, ap, cond, ◌∙◌, arith}
use borrow.Author.Tests.{lt-ltb, le-ltb}
use Rattle.texts.specs.Bytes.{lf}
use Rattle.texts.specs.Lines.{bytes_before, Parted, lines_of}
use Rattle.texts.proofs.Ended.{lines_parted, lines_unended}
use Rattle.array.specs.Cells.{is_side}
use Rattle.array.proofs.Board.{side_known}
use Rattle.answers.specs.declared.Refusal.{Refusal}
use Rattle.answers.specs.declared.Refusal.TheVariants as refusal
use Rattle.answers.specs.declared.Answer.{Answer}
use Rattle.answers.specs.Answers.{number_of, refused, accepted, side_case}
use Rattle.answers.specs.Judged.{Judged}
use Rattle.answers.proofs.Judging.{refuses}
use Rattle.jobtext.specs.declared.Job.{Job}
use Rattle.jobtext.specs.Verdicts.{side_of, TextVerdict, cells_from, job_from, text_verdict}
use Rattle.jobtext.specs.Lanes.{job_of, lane_of, CellsRead, JobRead}

-- what the check of the side says: a side is one, and else the text is refused as one of no side
only_side : (x : Refusal) → number_of x ≡ 1 → x ≡ refusal.Side
only_side refusal.Side h = refl
only_side refusal.Lane h = absurd (omega arith)
only_side refusal.Log h = absurd (omega arith)
only_side refusal.Argument h = absurd (omega arith)
only_side (refusal.Mark i) h = absurd (omega arith)
only_side (refusal.Aim i) h = absurd (omega arith)
only_side refusal.Cut h = absurd (omega arith)
only_side (refusal.Job l) h = absurd (omega arith)
only_side (refusal.Capture l) h = absurd (omega arith)

module _ (s : ℕ) {r : Result (Unit {0}) Refusal} (j : Judged (side_case s ∷ []) r) where
  pub side_refused : {x : Refusal} → r ≡ Err x → (is_side s ≡ false) × (x ≡ refusal.Side)
  side_refused {x} e = go (is_side s) refl (ap (λ (a : Answer). a.number) (rw e at j.so (accepted 0 0)))
    where
      go : (t : Bool) → is_side s ≡ t → (cond (not t) (refused 1 0) (accepted 0 0)).number ≡ number_of x → (is_side s ≡ false) × (x ≡ refusal.Side)
      go true q n = absurd (refuses x (sym n))
      go false q n = (q, only_side x (sym n))

  pub side_passed : {u : Unit {0}} → r ≡ Ok u → is_side s ≡ true
  side_passed e = go (is_side s) refl (ap (λ (a : Answer). a.number) (rw e at j.so (accepted 0 0)))
    where
      go : (t : Bool) → is_side s ≡ t → (cond (not t) (refused 1 0) (accepted 0 0)).number ≡ 0 → is_side s ≡ true
      go true q n = q
      go false q n = absurd (omega arith)

pub side_small : {s : ℕ} → is_side s ≡ true → s ≤ 8
side_small {s} q = (side_known s q).most

-- a refused job leaves the lanes
refuse : {v : TextVerdict} (words marks : List ℕ) {e : Refusal} {r : Result Job Refusal} → v ≡ Err e → r ≡ Err e → JobRead v words words marks marks r
unfolding job_of lane_of
refuse words marks e f = record { answer = rw (e, f); words_are = rw e; marks_are = rw e }

module _ (text words marks : List ℕ) where
  pub read_too_long : 65536 < length text → JobRead (text_verdict text) words words marks marks (Err (refusal.Job 0))
  unfolding text_verdict
  read_too_long h = refuse words marks (rw (lt-ltb 65536 (length text) h)) refl

  module _ (h : length text ≤ 65536) where
    judged : text_verdict text ≡ job_from (lines_of text)
    unfolding text_verdict
    judged = rw (le-ltb 65536 (length text) h)

    empty_or_unended : (t : List ℕ) → bytes_before lf t ≡ length t → job_from (lines_of t) ≡ Err (refusal.Job 1)
    unfolding job_from lines_of
    empty_or_unended [] u = refl
    empty_or_unended (b ∷ t) u = rw (lines_unended (b ∷ t) u (omega arith))

    pub read_unended : bytes_before lf text ≡ length text → {r : Result Job Refusal} → r ≡ Err (refusal.Job 1)
        → JobRead (text_verdict text) words words marks marks r
    read_unended u e = refuse words marks (judged ∙ empty_or_unended text u) e

    module _ {first rest : List ℕ} (p : Parted lf text first rest) where
      pub read_no_side : None ≡ side_of first → {r : Result Job Refusal} → r ≡ Err (refusal.Job 1) → JobRead (text_verdict text) words words marks marks r
      unfolding job_from
      read_no_side n e = refuse words marks (judged ∙ rw (lines_parted text first rest p, sym n, job_from)) e

      module _ (s : ℕ) (n : Some s ≡ side_of first) where
        pub read_bad_side : is_side s ≡ false → {r : Result Job Refusal} → r ≡ Err refusal.Side → JobRead (text_verdict text) words words marks marks r
        unfolding job_from
        read_bad_side f e = refuse words marks (judged ∙ rw (lines_parted text first rest p, sym n, job_from, f)) e

        module _ (q : is_side s ≡ true) where
          on_cells : text_verdict text ≡ cells_from s 0 2 (lines_of rest)
          unfolding job_from
          on_cells = judged ∙ rw (lines_parted text first rest p, sym n, job_from, q)

          module _ (words' marks' : List ℕ) (r : Result Job Refusal) (done : CellsRead (cells_from s 0 2 (lines_of rest)) (replicate 4096 0) words' (replicate 4096 0) marks' r) where
            pub read_ready : (j : Job) → r ≡ Ok j → JobRead (text_verdict text) words words' marks marks' (Ok j)
            unfolding job_of lane_of
            read_ready j q = rw on_cells (go _ done)
              where
                go : (v : TextVerdict) → CellsRead v (replicate 4096 0) words' (replicate 4096 0) marks' r → JobRead v words words' marks marks' (Ok j)
                go (Ok t) d = record { answer = sym q ∙ d.job; words_are = d.words_laid; marks_are = d.marks_laid }
                go (Err e) d = cc (d.job, q)

            pub read_refused : {e : Refusal} {r' : Result Job Refusal} → r ≡ Err e → r' ≡ Err e → JobRead (text_verdict text) words words marks marks r'
            unfolding job_of lane_of
            read_refused {e} {r'} q q' = rw on_cells (go _ done)
              where
                go : (v : TextVerdict) → CellsRead v (replicate 4096 0) words' (replicate 4096 0) marks' r → JobRead v words words marks marks r'
                go (Ok t) d = cc (d.job, q)
                go (Err f) d = record { answer = q' ∙ sym q ∙ d.job; words_are = refl; marks_are = refl }
