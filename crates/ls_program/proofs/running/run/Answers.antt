use Rattle.std.proofs.Common.{map, sym, ◌∙◌}
use Rattle.std.specs.String.{string_bytes}
use Rattle.ls_arguments.proofs.Replays.{replay_words}
use Rattle.ls_run.proofs.Runs.{ran_nothing}
use Rattle.ls_program.proofs.Statuses.{served_nothing, soaked_nothing}
use Rattle.ls_program.proofs.Words.{usage_of_none}
use Rattle.ls_program.proofs.running.run.Goals as goal

pub returns-in-Err-NoMemory-clause-ran : goal.returns-in-Err-NoMemory-clause-ran
returns-in-Err-NoMemory-clause-ran g c = λ replay. ran_nothing _ _

pub returns-in-Err-NoMemory-clause-served : goal.returns-in-Err-NoMemory-clause-served
returns-in-Err-NoMemory-clause-served g c = λ port feed end serve. served_nothing _ _ _

pub returns-in-Err-NoMemory-clause-soaked : goal.returns-in-Err-NoMemory-clause-soaked
returns-in-Err-NoMemory-clause-soaked g c = λ start steps soak. soaked_nothing start steps _

pub returns-in-None-None-clause-usage : goal.returns-in-None-None-clause-usage
returns-in-None-None-clause-usage g c =
    usage_of_none c.run.result (map string_bytes c.args.words.now) c.in-Ok.line c.in-Ok.ensures.line
    (sym c.server_of.ensures ∙ c.in-None-None.is-0) (sym c.soak_of.ensures ∙ c.in-None-None.is-1) c.run.ensures.usage

pub returns-in-None-None-clause-complete : goal.returns-in-None-None-clause-complete
returns-in-None-None-clause-complete g c = λ replay. c.run.ensures.complete (replay_words (map string_bytes c.args.words.now) replay)
