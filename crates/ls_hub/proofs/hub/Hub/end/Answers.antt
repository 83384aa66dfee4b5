use Rattle.std.proofs.Common.{refl}
use Rattle.ls_hub.proofs.Operated.{ended_stands}
use Rattle.ls_hub.proofs.hub.Hub.end.Goals as goal

pub returns-clause-did : goal.returns-clause-did
returns-clause-did c = λ w s st living.
    ended_stands c.args.self.now _ w s c.args.place c.index_mut.result.now c.end.new.session c.args.code st living
    (record { low = c.requires.place; at = c.index_mut.ensures.value; config = refl; tick = refl; connections = refl; sessions = refl })
    c.leave_out.ensures c.end.ensures
