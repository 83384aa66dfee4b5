use Rattle.std.proofs.Common.{rules, ap₂, codes, ◌≡◌, ◌∙◌}
use Rattle.clap.specs.Walk.{rule_of}
use Rattle.clap.specs.Simple.{new_rule, with_rule}
use Rattle.ls_arguments.specs.Parser.{required_rule}
use Rattle.ls_arguments.proofs.parser.serve.Goals as goal

pub returns-clause-shape : goal.returns-clause-shape
returns-clause-shape c =
    let port_is : rule_of c.required-port.result ≡ required_rule (codes "port") = search rules in
    let feed_is : rule_of c.required-feed.result ≡ required_rule (codes "feed") = search rules in
    let end_is : rule_of c.new-end.result ≡ new_rule (codes "end") = search rules in
    c.in_ok-command.ensures.shape (search rules)
    ∙ ap₂ with_rule (c.in_ok-arg-2.ensures.shape (search rules) ∙ ap₂ with_rule (c.in_ok-arg.ensures.shape (search rules) ∙ ap₂ with_rule c.new-3.ensures.app port_is) feed_is) end_is
