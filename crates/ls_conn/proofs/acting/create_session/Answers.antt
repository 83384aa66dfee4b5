use Rattle.std.proofs.Common.{◌≡◌, ◌++◌, ◌∷◌, [], sym, ap, ◌∙◌, append-nil}
use Rattle.ls_conn.proofs.Sessions.{grow_begins}
use Rattle.ls_conn.proofs.acting.create_session.Goals as goal

pub returns-in-Ok-clause-seen : goal.returns-in-Ok-clause-seen
returns-in-Ok-clause-seen g c =
    grow_begins _ _ (c.in-Ok.opened.seen ∷ [], ap (λ xs. xs ++ c.in-Ok.opened.seen ∷ []) (sym c.reserve.ensures.items) ∙ sym c.add.ensures.added)

pub returns-in-Err-Code-clause-seen : goal.returns-in-Err-Code-clause-seen
returns-in-Err-Code-clause-seen g c = grow_begins _ _ ([], append-nil _ ∙ sym c.reserve.ensures.items)

pub returns-in-Err-NoMemory-clause-seen : goal.returns-in-Err-NoMemory-clause-seen
returns-in-Err-NoMemory-clause-seen g c = grow_begins _ _ ([], append-nil _ ∙ sym c.reserve.ensures.items)
