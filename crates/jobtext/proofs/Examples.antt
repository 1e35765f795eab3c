-- Job texts and their verdicts, computed.
use Prim.Native.Nat.{ℕ}
use Prim.Native.String.{String}
use mathlib.Core.Path.{◌≡◌, refl}
use mathlib.Core.List.{List, [], ◌∷◌, map}
use lib.ListN.{replicate}
use Rattle.std.specs.Prelude.{Ok, Err}
use Rattle.texts.specs.Bytes.{bytes}
use Rattle.answers.specs.declared.Refusal.TheVariants.{Side, Job}
use Rattle.texts.specs.Lines.{lines_of, with_byte, first_field, second_field, bytes_before}
use Rattle.jobtext.specs.declared.CellWord.{CellWord}
use Rattle.jobtext.specs.Verdicts.{TextVerdict, text_verdict, job_from, cells_from, also, mark_line, side_of}
use Rattle.texts.specs.Numbers.{number_of, digits_from}

unfoldable pub judged : List String → List TextVerdict
unfolding text_verdict job_from cells_from also lines_of with_byte mark_line side_of first_field second_field bytes_before number_of digits_from
judged = map (λ t. text_verdict (bytes t))

at : ℕ → ℕ → CellWord
at i w = record { index = i; word = w }

job : ℕ → List CellWord → TextVerdict
job s es = Ok (record { side = s; marked = es })

-- the document's job, and the shortest
good :
    judged ("side\t2\n1\t70\n6\t71\n11\t72\n" ∷ "side\t1\n" ∷ "side\t8\n0\t0\n4095\t4294967295\n" ∷ [])
    ≡ job 2 (at 1 70 ∷ at 6 71 ∷ at 11 72 ∷ []) ∷ job 1 [] ∷ job 8 (at 0 0 ∷ at 4095 4294967295 ∷ []) ∷ []
unfolding judged at job
good = refl

-- line 1
bad_side :
    judged ("" ∷ "\n" ∷ "side\t2" ∷ "side 2\n" ∷ "side\t\t2\n" ∷ "side\t02\n" ∷ "Side\t2\n" ∷ "side\t2\r\n" ∷ "side\t4294967296\n" ∷ [])
    ≡ replicate 9 (Err (Job 1))
unfolding judged
bad_side = refl

-- a side outside 1 to 8, whatever follows
no_side : judged ("side\t0\n" ∷ "side\t9\nnonsense" ∷ "side\t4294967295\n\n" ∷ []) ≡ replicate 3 (Err Side)
unfolding judged
no_side = refl

-- line 2: empty, not ended, one field, three fields, a leading zero, not below 16, a word too large, a space, a sign
bad_cell :
    judged ("side\t2\n\n" ∷ "side\t2\n1\t7" ∷ "side\t2\n1\n" ∷ "side\t2\n1\t7\t\n" ∷ "side\t2\n01\t7\n" ∷ "side\t2\n16\t7\n" ∷ "side\t2\n1\t4294967296\n" ∷ "side\t2\n1 \t7\n" ∷ "side\t2\n1\t-7\n" ∷ [])
    ≡ replicate 9 (Err (Job 2))
unfolding judged
bad_cell = refl

-- the first bad line is named: an index that does not rise, an empty last line, and only the first of two
first_bad : judged ("side\t2\n5\t1\n5\t1\n" ∷ "side\t2\n5\t1\n\n" ∷ "side\t2\n5\t1\n4\t1\n\n" ∷ []) ≡ replicate 3 (Err (Job 3))
unfolding judged
first_bad = refl

-- 65,537 bytes are too many, and their number is all that is looked at
too_long : text_verdict (replicate 65537 10) ≡ Err (Job 0)
unfolding text_verdict job_from
too_long = refl
