-- Lines, computed: of every replay, and of texts that are no job, whatever the capture.
use Prim.Native.Nat.{ℕ}
use Prim.Native.String.{String}
use mathlib.Core.Path.{◌≡◌, refl}
use mathlib.Core.List.{List, [], ◌∷◌, map}
use Rattle.std.specs.Prelude.{Ok, Err}
use Rattle.answers.specs.declared.Refusal.TheVariants.{Capture}
use Rattle.texts.specs.Bytes.{bytes}
use Rattle.texts.specs.Numbers.{digits_from, number_of}
use Rattle.texts.specs.Lines.{bytes_before, first_field, second_field, with_byte, lines_of}
use Rattle.printing.specs.Printed.{digits, line}
use Rattle.jobtext.specs.Verdicts.{side_of, mark_line, also, cells_from, job_from, text_verdict}
use Rattle.answertext.specs.Answers.{refused_text}
use Rattle.captures.specs.declared.Replayed.TheVariants.{Agrees, Differs, Early}
use Rattle.replays.specs.Outputs.{replayed_line, replay_line, replay_from, replay_text}

pub the_lines :
    map replay_line (Ok Agrees ∷ Ok (Differs 3) ∷ Ok (Early 18446744073709551615) ∷ Err (Capture 2) ∷ [])
    ≡ bytes "agrees\n" ∷ bytes "differs\t3\n" ∷ bytes "early\t18446744073709551615\n" ∷ bytes "refused\t10\t2\n" ∷ []
unfolding replay_line replayed_line line digits refused_text
the_lines = refl

-- an index that does not rise, and a side that there is not
pub no_jobs : (capture : List ℕ)
    → map (λ (t : String). replay_text (bytes t) capture) ("side\t2\n5\t1\n5\t1\n" ∷ "side\t9\n" ∷ []) ≡ bytes "refused\t8\t3\n" ∷ bytes "refused\t1\t0\n" ∷ []
unfolding replay_from text_verdict job_from cells_from also lines_of with_byte mark_line side_of first_field second_field bytes_before number_of digits_from replay_line line digits refused_text
no_jobs capture = refl
