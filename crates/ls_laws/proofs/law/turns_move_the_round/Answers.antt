use Rattle.ls_laws.proofs.Rounds.{turn_moves, turn_orders, joined_round, turn_waits, add_moves, end_moves, enqueue_moves, frequency_moves}
use Rattle.ls_laws.proofs.law.turns_move_the_round.Goals as goal

pub returns-clause-gives : goal.returns-clause-gives
returns-clause-gives c = turn_moves

pub returns-clause-waits : goal.returns-clause-waits
returns-clause-waits c = turn_waits

pub returns-clause-joins : goal.returns-clause-joins
returns-clause-joins c = add_moves

pub returns-clause-leaves : goal.returns-clause-leaves
returns-clause-leaves c = end_moves

pub returns-clause-enqueues : goal.returns-clause-enqueues
returns-clause-enqueues c = enqueue_moves

pub returns-clause-configures : goal.returns-clause-configures
returns-clause-configures c = frequency_moves

pub returns-clause-order : goal.returns-clause-order
returns-clause-order c = turn_orders

pub returns-clause-joined : goal.returns-clause-joined
returns-clause-joined c = joined_round
