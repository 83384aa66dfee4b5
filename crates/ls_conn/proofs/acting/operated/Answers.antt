use Rattle.std.proofs.Common.{◌≡◌, inl, inr, refl, ap, Err}
use Rattle.ls_conn.proofs.Sessions.{grow_replaced, grow_twice, on_session}
use Rattle.ls_conn.proofs.acting.operated.Goals as goal

pub returns-in-Ok-clause-seen : goal.returns-in-Ok-clause-seen
returns-in-Ok-clause-seen g c = grow_replaced _ _ _ _ _ c.in-Ok-Some.ensures.seen c.in-Ok.ensures.done

pub returns-in-Err-Code-clause-seen : goal.returns-in-Err-Code-clause-seen
returns-in-Err-Code-clause-seen g c =
    grow_replaced _ _ _ _ _ c.in-Ok-Some.ensures.seen (c.in-Err-Code.ensures.refused c.in-Err-Code.code (ap (λ x. Err x) c.in-Err-Code.field-0-is))

pub returns-in-Err-NoMemory-clause-seen : goal.returns-in-Err-NoMemory-clause-seen
returns-in-Err-NoMemory-clause-seen g c =
    grow_twice _ _ _ c.in-Ok-Some.ensures.seen (c.in-Err-NoMemory.ensures.memory (ap (λ x. Err x) c.in-Err-NoMemory.field-0-is))

pub returns-in-Err-Code-clause-controls : goal.returns-in-Err-Code-clause-controls
returns-in-Err-Code-clause-controls g c =
    inr (inr (on_session _ _ _ _ _ _ _ (rw c.in-Ok-Some.field-0-is at c.in-Ok-Some.ensures.found).1
    (c.in-Err-Code.ensures.refused c.in-Err-Code.code (ap (λ x. Err x) c.in-Err-Code.field-0-is)) refl))
