use Rattle.ls_parts.proofs.parts.SessionParts.rest.Goals as goal

pub returns-clause-nothing : goal.returns-clause-nothing
returns-clause-nothing g c r q stands asks ask is = c.in-Ok.ensures.nothing r q.live q.due stands asks ask is
