use Rattle.ls_conn.proofs.Lasts.{last_holds}
use Rattle.ls_conn_tests.proofs.guest.Guest.stream_alone.Goals as goal

pub stream-end-requires-clause-named : goal.stream-end-requires-clause-named
stream-end-requires-clause-named g c = (last_holds _ _ c.in-Some.token _ c.self.invariant c.in-Some.ensures).0

pub stream-end-requires-clause-bound : goal.stream-end-requires-clause-bound
stream-end-requires-clause-bound g c = (last_holds _ _ c.in-Some.token _ c.self.invariant c.in-Some.ensures).1
