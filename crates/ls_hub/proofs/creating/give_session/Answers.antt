use Rattle.ls_hub.proofs.Connected.{given_seen, given_none}
use Rattle.ls_hub.proofs.creating.give_session.Goals as goal

pub returns-in-Some : goal.returns-in-Some
returns-in-Some c =
    let at = c.in-Some.ensures.item in
    given_seen c.args.connections.now.items c.args.connection c.args.place c.args.epoch c.in-Some.connection.now at.3.0 at.1

pub returns-in_default : goal.returns-in_default
returns-in_default c = let at = c.in_default.ensures.item in given_none c.args.connections.now.items c.args.connection c.args.place c.args.epoch at.3
