-- `texts::read::bytes_before` meets its contract: where the library finds the byte, or the length.
use Rattle.std.proofs.Common.{rules, tests, ◌≡◌, ◌==◌, ◌∙◌, ap, length, position, unwrap_or, ℕ, Option}
use Rattle.std.proofs.lemmas.Iterator.{YieldsList-from_slice}
use Rattle.std.proofs.lemmas.Iterator.Search.{position_from_yields_List}
use Rattle.texts.proofs.Reading.{before_found}
use Rattle.texts.proofs.read.bytes_before.Goals as goal

pub returns-clause-value : goal.returns-clause-value
returns-clause-value c =
    let found : c.position.result ≡ position (λ x. x == c.args.b) c.args.s.now =
    position_from_yields_List (λ x. x == c.args.b) _ _ _ c.position.ensures.ran (YieldsList-from_slice c.args.s.now cc) (λ x r q k. search (rules, tests)) in
    c.unwrap_or.ensures ∙ ap (λ (o : Option ℕ). unwrap_or o (length c.args.s.now)) found ∙ before_found c.args.b c.args.s.now
