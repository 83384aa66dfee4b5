use Rattle.std.proofs.Common.{ap, ap₂, ◌∙◌}
use Rattle.clap.specs.Simple.{App, with_subcommand}
use Rattle.ls_arguments.proofs.parser.command.Goals as goal

pub returns : goal.returns
returns c =
    c.in_ok-command.ensures.shape c.in_ok-soak.ensures.local
    ∙ ap₂ with_subcommand (c.in_ok-subcommand-2.ensures.shape c.in_ok-serve.ensures.local
    ∙ ap₂ with_subcommand (c.in_ok-subcommand.ensures.shape c.new-replay.ensures.local
    ∙ ap₂ with_subcommand c.program.ensures (ap (λ (a : App). a.top) c.new-replay.ensures.app))
    (ap (λ (a : App). a.top) c.in_ok-serve.ensures.shape))
    (ap (λ (a : App). a.top) c.in_ok-soak.ensures.shape)
