use Rattle.ls_laws.proofs.Settled.{true_lives}
use Rattle.ls_laws.proofs.Spelled.{merge_had, raw_had, distinct_had, command_had, lines_rise}
use Rattle.ls_laws.proofs.law.no_state_is_invented.Goals as goal

pub returns-clause-worlds : goal.returns-clause-worlds
returns-clause-worlds c = λ w s v l in_world in_round. true_lives w s v l.records in_world in_round

pub returns-clause-merge : goal.returns-clause-merge
returns-clause-merge c = merge_had

pub returns-clause-raw : goal.returns-clause-raw
returns-clause-raw c = raw_had

pub returns-clause-distinct : goal.returns-clause-distinct
returns-clause-distinct c = distinct_had

pub returns-clause-command : goal.returns-clause-command
returns-clause-command c = command_had

pub returns-clause-rises : goal.returns-clause-rises
returns-clause-rises c = lines_rise
