-- `printing::Printer::put_field` meets its contract: what the library writes of a number is its decimal.
use Rattle.std.proofs.Common.{rules, ◌∙◌}
use Rattle.printing.proofs.Digits.{field_put}
use Rattle.printing.proofs.Printer.put_field.Goals as goal

pub returns : goal.returns
returns c = field_put _ _ (search rules) (c.as_bytes.ensures.value ∙ c.format-digits.ensures.text) c.put.ensures c.put_byte.ensures
