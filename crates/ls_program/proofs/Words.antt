-- What the words of a command line ask for.
use Rattle.std.proofs.Common.{◌≡◌, ℕ, List, refl, ap, ◌∙◌}
use Rattle.std.specs.Prelude.{◌↔◌, Option, None, Some}
use Rattle.ls_arguments.specs.CommandLines.{command_line_of}
use Rattle.ls_arguments.specs.declared.command_line.CommandLine.{CommandLine}
use Rattle.ls_arguments.specs.declared.command_line.CommandLine.TheVariants as line
use Rattle.ls_arguments.proofs.Replays.{replay_words}
use Rattle.ls_run.specs.Ran.{IsReplay}
use Rattle.ls_run.specs.declared.running.Status.{Status}
use Rattle.ls_run.specs.declared.running.Status.TheVariants as status
use Rattle.ls_program.specs.Running.{server_of, soak_of}

-- a command line that asks for no server and for no soak is a replay
only_replay : (l : CommandLine) → server_of l ≡ None → soak_of l ≡ None → l ≡ line.Replay
only_replay line.Replay server soak = refl
only_replay (line.Serve port feed end) server soak = absurd (cc server)
only_replay (line.Soak start steps) server soak = absurd (cc soak)

-- so its words are those of a replay
asks_replay : (words : List (List ℕ)) (l : CommandLine) → command_line_of words ≡ Some l → server_of l ≡ None → soak_of l ≡ None → IsReplay words
asks_replay words l is server soak = replay_words words (is ∙ ap (λ x. Some x) (only_replay l server soak))

-- a script ends by Usage exactly where its words are no command line: never
pub usage_of_none : (s : Status) (words : List (List ℕ)) (l : CommandLine) → command_line_of words ≡ Some l → server_of l ≡ None → soak_of l ≡ None
    → ((s ≡ status.Usage) ↔ (IsReplay words → ⊥)) → (s ≡ status.Usage) ↔ (command_line_of words ≡ None)
usage_of_none s words l is server soak usage =
    (λ u. absurd (usage.0 u (asks_replay words l is server soak)), λ none. cc (is, none))
