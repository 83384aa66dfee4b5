use Rattle.std.proofs.Common.{ap, true, ◌∙◌}
use Rattle.clap.specs.Simple.{on_top, app_of_fields}
use Rattle.clap.specs.declared.builder.command.Command.{Command as Cmd}
use Rattle.clap.specs.declared.builder.command.Command.TheOpen.{Command-F}
use Rattle.ls_arguments.specs.Parser.{settings}
use Rattle.ls_arguments.proofs.parser.program.Goals as goal

pub returns : goal.returns
returns c =
    ap app_of_fields (c.subcommand_required.ensures ∙ ap (λ (f : Command-F Cmd). record f { subcommand_required = true })
    (c.disable_version_flag.ensures ∙ ap (λ (f : Command-F Cmd). record f { disable_version_flag = true })
    (c.disable_help_subcommand.ensures ∙ ap (λ (f : Command-F Cmd). record f { disable_help_subcommand = true })
    (c.disable_help_flag.ensures ∙ ap (λ (f : Command-F Cmd). record f { disable_help_flag = true }) c.no_binary_name.ensures))))
    ∙ ap (on_top settings) c.new.ensures.app
