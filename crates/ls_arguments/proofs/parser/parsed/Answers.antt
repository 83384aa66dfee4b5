use Rattle.std.proofs.Common.{◌≡◌, List, [], ap, map, subst, sym, ◌∙◌}
use Rattle.std.specs.String.{string_bytes}
use Rattle.clap.specs.Kinds.{HasKind}
use Rattle.clap.specs.Walk.{Text}
use Rattle.clap.specs.Simple.{App, is_simple, subcommand_of}
use Rattle.clap.specs.Faults.{fault_of, is_simple_and_free}
use Rattle.ls_arguments.specs.CommandLines.{command_line_of}
use Rattle.ls_arguments.specs.Parser.{entered_line, program_app}
use Rattle.ls_arguments.proofs.Ties.{line_of_ok, no_line_of_fault, words_tie}
use Rattle.ls_arguments.proofs.Walking.{app_free, app_simple}
use Rattle.ls_arguments.proofs.parser.parsed.Goals as goal

pub returns-in-Ok-try_get_matches_from : goal.returns-in-Ok-try_get_matches_from
returns-in-Ok-try_get_matches_from c =
    let words : List Text = map string_bytes c.args.words.now in
    let e = c.in-Ok-try_get_matches_from.ensures in
    let none : fault_of program_app words ≡ [] =
    ap (λ (a : App). fault_of a words) (sym c.in-Ok.ensures) ∙ e.kinds (ap is_simple_and_free c.in-Ok.ensures ∙ app_free) in
    let rows = (e.matches (ap is_simple c.in-Ok.ensures ∙ app_simple)).1 ∙ ap (λ (a : App). subcommand_of a words) c.in-Ok.ensures in
    c.entered_line.ensures ∙ ap entered_line rows
    ∙ line_of_ok (fault_of program_app words) (subcommand_of program_app words) (command_line_of words) (words_tie words c.requires) none

pub returns : goal.returns
returns c =
    let words : List Text = map string_bytes c.args.words.now in
    let has : HasKind (fault_of program_app words) c.in-Err.error =
    subst (λ (a : App). HasKind (fault_of a words) c.in-Err.error) c.in-Ok.ensures
    (c.in-Err.ensures.kinds (ap is_simple_and_free c.in-Ok.ensures ∙ app_free)) in
    sym (no_line_of_fault (fault_of program_app words) (subcommand_of program_app words) (command_line_of words) c.in-Err.error (words_tie words c.requires) has
    (λ m. c.in_default-kind.not-OutOfMemory (c.kind.ensures ∙ m)))
