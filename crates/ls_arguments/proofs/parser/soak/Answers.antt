use Rattle.std.proofs.Common.{rules, ap₂, codes, ◌≡◌, ◌∙◌}
use Rattle.clap.specs.Walk.{rule_of}
use Rattle.clap.specs.Simple.{with_rule}
use Rattle.ls_arguments.specs.Parser.{required_rule}
use Rattle.ls_arguments.proofs.parser.soak.Goals as goal

pub returns-clause-shape : goal.returns-clause-shape
returns-clause-shape c =
    let start_is : rule_of c.required-start.result ≡ required_rule (codes "start") = search rules in
    let steps_is : rule_of c.required-steps.result ≡ required_rule (codes "steps") = search rules in
    c.in_ok-command.ensures.shape (search rules)
    ∙ ap₂ with_rule (c.in_ok-arg.ensures.shape (search rules) ∙ ap₂ with_rule c.new-3.ensures.app start_is) steps_is
