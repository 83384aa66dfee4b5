use Rattle.std.proofs.Common.{map, refl, sym, ◌∙◌}
use Rattle.std.specs.String.{string_bytes}
use Rattle.ls_arguments.proofs.Plain.{unplain}
use Rattle.ls_arguments.proofs.reading.read.Goals as goal

pub returns-then-not-are_plain-clause-usage : goal.returns-then-not-are_plain-clause-usage
returns-then-not-are_plain-clause-usage c =
    (λ _. unplain (map string_bytes c.args.words.now) (sym c.are_plain.ensures ∙ c.if-not-are_plain.true), λ _. refl)
