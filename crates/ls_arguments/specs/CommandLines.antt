-- The command line: which words are one, and of which command (this project's profile).
use Rattle.std.specs.Prelude.{ℕ, ◌-◌, ◌^◌, ◌==◌, Bool, false, not, List, [], ◌∷◌, Option, None, Some, codes}
use Rattle.std.specs.Prelude.{if◌then◌else◌}
use Rattle.std.specs.Str.{bytes_eq}
use Rattle.ls_words.specs.Numbers.{number_in}
use Rattle.ls_arguments.specs.declared.command_line.CommandLine.{CommandLine}
use Rattle.ls_arguments.specs.declared.command_line.CommandLine.TheVariants as line
use Rattle.ls_arguments.specs.declared.information.Information.{Information}
use Rattle.ls_arguments.specs.declared.information.Information.TheVariants as information

-- a port is a number from 0 to 65535
abbrev pub port_in : List ℕ → Option ℕ
port_in text = number_in text 0 65535

-- a tick, or the number that a soak starts from, is a number of at most 18 digits
abbrev pub long_in : List ℕ → Option ℕ
long_in text = number_in text 0 (10 ^ 18 - 1)

-- a soak has at most a million steps
abbrev pub steps_in : List ℕ → Option ℕ
steps_in text = number_in text 0 1000000

-- a server with these ports and this end, if both are ports
abbrev pub serve_with : Option ℕ → Option ℕ → Option ℕ → Option CommandLine
serve_with None None end = None
serve_with None (Some feed) end = None
serve_with (Some port) None end = None
serve_with (Some port) (Some feed) end = Some (line.Serve port feed end)

-- the same, if the end is a tick
abbrev pub serve_until : Option ℕ → Option ℕ → Option ℕ → Option CommandLine
serve_until port feed None = None
serve_until port feed (Some tick) = serve_with port feed (Some tick)

-- a server with the ports that two texts say, and with the end that a third one says, where there is one
abbrev pub serve_between : List ℕ → List ℕ → Option (List ℕ) → Option CommandLine
serve_between port feed None = serve_with (port_in port) (port_in feed) None
serve_between port feed (Some end) = serve_until (port_in port) (port_in feed) (long_in end)

-- a soak from this number on and with so many steps, if both are in range
abbrev pub soak_with : Option ℕ → Option ℕ → Option CommandLine
soak_with None None = None
soak_with None (Some steps) = None
soak_with (Some start) None = None
soak_with (Some start) (Some steps) = Some (line.Soak start steps)

-- a soak by the numbers that two texts say
abbrev pub soak_between : List ℕ → List ℕ → Option CommandLine
soak_between start steps = soak_with (long_in start) (steps_in steps)

-- the words after `replay`: there are none
abbrev pub replay_said : List (List ℕ) → Option CommandLine
replay_said [] = Some line.Replay
replay_said (more ∷ rest) = None

-- the words after `serve`: two ports, and the tick of the end, where there is one
abbrev pub serve_said : List (List ℕ) → Option CommandLine
serve_said [] = None
serve_said (port ∷ []) = None
serve_said (port ∷ feed ∷ []) = serve_between port feed None
serve_said (port ∷ feed ∷ end ∷ []) = serve_between port feed (Some end)
serve_said (port ∷ feed ∷ end ∷ more ∷ rest) = None

-- the words after `soak`: the number to start from, and the steps
abbrev pub soak_said : List (List ℕ) → Option CommandLine
soak_said [] = None
soak_said (start ∷ []) = None
soak_said (start ∷ steps ∷ []) = soak_between start steps
soak_said (start ∷ steps ∷ more ∷ rest) = None

-- the words after the name of a command
abbrev pub line_named : List ℕ → List (List ℕ) → Option CommandLine
line_named name words =
    if bytes_eq name (codes "replay") then replay_said words
    else (if bytes_eq name (codes "serve") then serve_said words
    else (if bytes_eq name (codes "soak") then soak_said words else None))

-- the command line that words are, without the program's name
abbrev pub command_line_of : List (List ℕ) → Option CommandLine
command_line_of [] = None
command_line_of (name ∷ words) = line_named name words

-- a word that isn't empty and doesn't begin with `-` (45)
abbrev pub is_plain : List ℕ → Bool
is_plain [] = false
is_plain (b ∷ bs) = not (b == 45)

-- what a word alone asks the program to say of itself
abbrev pub information_in : List ℕ → Option Information
information_in word =
    if bytes_eq word (codes "--help") then Some information.Help
    else (if bytes_eq word (codes "--version") then Some information.Version else None)

-- what words ask the program to say of itself
abbrev pub information_of : List (List ℕ) → Option Information
information_of [] = None
information_of (word ∷ []) = information_in word
information_of (word ∷ more ∷ rest) = None
