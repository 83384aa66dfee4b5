use Rattle.ls_conn_ws.proofs.serving.rounds.Goals as goal

pub returns-in-Ended-clause-rises : goal.returns-in-Ended-clause-rises
returns-in-Ended-clause-rises g c = (c.in-Ended.ensures.cause _ _ c.loop.invariant.2).rises
