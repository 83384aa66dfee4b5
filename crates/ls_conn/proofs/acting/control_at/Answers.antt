use Rattle.std.proofs.Common.{◌≡◌, refl}
use Rattle.ls_conn.proofs.Sessions.{grow_set, replaced, replaced_ok, there}
use Rattle.ls_conn.proofs.acting.control_at.Goals as goal

pub returns-clause-done : goal.returns-clause-done
returns-clause-done g c =
    replaced_ok c.control.result _ _ _ _ _ c.requires.within c.index_mut.ensures.value c.control.ensures.mine c.control.ensures.grows c.control.ensures.done

pub returns-clause-refused : goal.returns-clause-refused
returns-clause-refused g c = λ code is.
    replaced _ _ _ _ _ c.requires.within c.index_mut.ensures.value c.control.ensures.mine (c.control.ensures.refused code is)

pub returns-clause-memory : goal.returns-clause-memory
returns-clause-memory g c = λ is.
    grow_set _ _ _ _ _ (there _ _ _ c.requires.within c.index_mut.ensures.value) refl (c.control.ensures.memory is)
