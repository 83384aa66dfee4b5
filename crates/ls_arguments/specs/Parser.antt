-- The commands as clap knows them, and what is made of the values that it finds.
use Rattle.std.specs.Prelude.{List, true, Option, None, Some, codes, if◌then◌else◌, option_and_then}
use Rattle.std.specs.Str.{bytes_eq}
use Rattle.clap.specs.Walk.{Row, Rule, Text, first_of}
use Rattle.clap.specs.Simple.{App, Shape, new_app, new_rule, with_rule, with_subcommand, on_top}
use Rattle.ls_arguments.specs.CommandLines.{serve_between, soak_between}
use Rattle.ls_arguments.specs.declared.command_line.CommandLine.{CommandLine}
use Rattle.ls_arguments.specs.declared.command_line.CommandLine.TheVariants as line

-- an argument that has to be there
abbrev pub required_rule : Text → Rule
required_rule id = record (new_rule id) { required = true }

-- `serve <port> <feed> [<end>]`
abbrev pub serve_app : App
serve_app =
    with_rule (with_rule (with_rule (new_app (codes "serve")) (required_rule (codes "port"))) (required_rule (codes "feed"))) (new_rule (codes "end"))

-- `soak <start> <steps>`
abbrev pub soak_app : App
soak_app = with_rule (with_rule (new_app (codes "soak")) (required_rule (codes "start"))) (required_rule (codes "steps"))

-- the words don't hold the program's name, one of the commands has to be there, and clap adds none of its own
abbrev pub settings : Shape → Shape
settings s = record s {
  no_binary_name = true;
  disable_help_flag = true;
  disable_help_subcommand = true;
  disable_version_flag = true;
  subcommand_required = true;
}

-- the program with its three commands
abbrev pub program_app : App
program_app =
    with_subcommand (with_subcommand (with_subcommand (on_top settings (new_app (codes "tlcpd"))) (new_app (codes "replay")).top) serve_app.top) soak_app.top

-- a server by the values that were found
abbrev pub serve_found : Option Text → Option Text → Option Text → Option CommandLine
serve_found port feed end = option_and_then (λ p. option_and_then (λ f. serve_between p f end) feed) port

abbrev pub serve_in : List Row → Option CommandLine
serve_in rows = serve_found (first_of (codes "port") rows) (first_of (codes "feed") rows) (first_of (codes "end") rows)

-- a soak by the values that were found
abbrev pub soak_found : Option Text → Option Text → Option CommandLine
soak_found start steps = option_and_then (λ s. option_and_then (λ t. soak_between s t) steps) start

abbrev pub soak_in : List Row → Option CommandLine
soak_in rows = soak_found (first_of (codes "start") rows) (first_of (codes "steps") rows)

-- the command of this name with the values that were found
abbrev pub line_found : Text → List Row → Option CommandLine
line_found name rows =
    if bytes_eq name (codes "replay") then Some line.Replay
    else (if bytes_eq name (codes "serve") then serve_in rows
    else (if bytes_eq name (codes "soak") then soak_in rows else None))

-- the command that was entered
abbrev pub entered_line : Option (Text × List Row) → Option CommandLine
entered_line sub = option_and_then (λ p. line_found p.0 p.1) sub
