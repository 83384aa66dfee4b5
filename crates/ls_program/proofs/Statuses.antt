-- The statuses of servers, of soaks, and of runs that did nothing.
use Rattle.std.proofs.Common.{◌≡◌, ℕ, List, [], ◌∷◌, refl, sym, ◌∙◌, ap, ◌⊎◌, inl, inr, ⊎_elim}
use Rattle.std.specs.Prelude.{Option, None, Some, Err}
use Rattle.ls_door.specs.Doors.{Ports}
use Rattle.ls_run.specs.declared.running.Status.{Status}
use Rattle.ls_run.specs.declared.running.Status.TheVariants as status
use Rattle.ls_run.specs.Ran.{Completes, Ran}
use Rattle.ls_serve.specs.declared.serving.ServeEnd.{ServeEnd}
use Rattle.ls_serve.specs.declared.serving.ServeEnd.TheVariants as end
use Rattle.ls_serve.specs.Serving.{StopsAt, RefusesConfig as EndRefuses, lines_at}
use Rattle.ls_serve.proofs.Ends.{appends_nothing, consumes_none}
use Rattle.ls_soak.specs.declared.soaking.SoakEnd.{SoakEnd}
use Rattle.ls_soak.specs.declared.soaking.SoakEnd.TheVariants as soak_end
use Rattle.ls_program.specs.Running.{RanServer, RanSoak, RefusesConfig, soak_status, status_at}

-- which end a status is of
pub ok_is : (e : ServeEnd) → status_at e ≡ status.Ok → e ≡ end.Stopped
ok_is end.Stopped h = refl
ok_is end.ReadFault h = absurd (cc h)
ok_is end.WriteFault h = absurd (cc h)
ok_is end.NoMemory h = absurd (cc h)
ok_is end.DoorFault h = absurd (cc h)
ok_is (end.BadConfig line) h = absurd (cc h)

pub read_fault_is : (e : ServeEnd) → status_at e ≡ status.ReadFault → e ≡ end.ReadFault
read_fault_is end.Stopped h = absurd (cc h)
read_fault_is end.ReadFault h = refl
read_fault_is end.WriteFault h = absurd (cc h)
read_fault_is end.NoMemory h = absurd (cc h)
read_fault_is end.DoorFault h = absurd (cc h)
read_fault_is (end.BadConfig line) h = absurd (cc h)

pub write_fault_is : (e : ServeEnd) → status_at e ≡ status.WriteFault → e ≡ end.WriteFault
write_fault_is end.Stopped h = absurd (cc h)
write_fault_is end.ReadFault h = absurd (cc h)
write_fault_is end.WriteFault h = refl
write_fault_is end.NoMemory h = absurd (cc h)
write_fault_is end.DoorFault h = absurd (cc h)
write_fault_is (end.BadConfig line) h = absurd (cc h)

pub door_fault_is : (e : ServeEnd) → status_at e ≡ status.DoorFault → e ≡ end.DoorFault
door_fault_is end.Stopped h = absurd (cc h)
door_fault_is end.ReadFault h = absurd (cc h)
door_fault_is end.WriteFault h = absurd (cc h)
door_fault_is end.NoMemory h = absurd (cc h)
door_fault_is end.DoorFault h = refl
door_fault_is (end.BadConfig line) h = absurd (cc h)

pub not_usage : (e : ServeEnd) → status_at e ≡ status.Usage → ⊥
not_usage end.Stopped h = cc h
not_usage end.ReadFault h = cc h
not_usage end.WriteFault h = cc h
not_usage end.NoMemory h = cc h
not_usage end.DoorFault h = cc h
not_usage (end.BadConfig line) h = cc h

-- a config is refused by the status, where it is by the end
either_end : (e : ServeEnd) (line : ℕ) → (e ≡ end.BadConfig line) ⊎ (e ≡ end.NoMemory)
    → (status_at e ≡ status.BadConfig line) ⊎ (status_at e ≡ status.NoMemory)
either_end e line s = ⊎_elim (λ h. inl (ap (λ x. status_at x) h)) (λ h. inr (ap (λ x. status_at x) h)) s

pub refuses : (e : ServeEnd) (s : Status) (left : Option (List ℕ)) → s ≡ status_at e → EndRefuses e left → RefusesConfig s left
refuses e s None is r = tt
refuses e s (Some bytes) is r = λ line bad. rw is (either_end e line (r line bad))

pub stops : (e : ServeEnd) (s : Status) (until : Option ℕ) (told : ℕ) → s ≡ status_at e → (e ≡ end.Stopped → StopsAt until told) → s ≡ status.Ok → StopsAt until told
stops e s until told is st ok = st (ok_is e (sym is ∙ ok))

-- which end of a soak a status is of
pub soak_ok_is : (e : SoakEnd) → soak_status e ≡ status.Ok → e ≡ soak_end.Done
soak_ok_is soak_end.Done h = refl
soak_ok_is soak_end.WriteFault h = absurd (cc h)
soak_ok_is soak_end.NoMemory h = absurd (cc h)

pub soak_fault_is : (e : SoakEnd) → soak_status e ≡ status.WriteFault → e ≡ soak_end.WriteFault
soak_fault_is soak_end.Done h = absurd (cc h)
soak_fault_is soak_end.WriteFault h = refl
soak_fault_is soak_end.NoMemory h = absurd (cc h)

pub soak_not_usage : (e : SoakEnd) → soak_status e ≡ status.Usage → ⊥
soak_not_usage soak_end.Done h = cc h
soak_not_usage soak_end.WriteFault h = cc h
soak_not_usage soak_end.NoMemory h = cc h

pub soak_not_read : (e : SoakEnd) → soak_status e ≡ status.ReadFault → ⊥
soak_not_read soak_end.Done h = cc h
soak_not_read soak_end.WriteFault h = cc h
soak_not_read soak_end.NoMemory h = cc h

pub soak_not_door : (e : SoakEnd) → soak_status e ≡ status.DoorFault → ⊥
soak_not_door soak_end.Done h = cc h
soak_not_door soak_end.WriteFault h = cc h
soak_not_door soak_end.NoMemory h = cc h

-- a soak that ended well counted no fault
pub done_is_well : (e : SoakEnd) (s : Status) (f f' : ℕ) → s ≡ soak_status e → ((e ≡ soak_end.WriteFault → ⊥) → f' ≡ f) → s ≡ status.Ok → f' ≡ f
done_is_well e s f f' is well ok = let d : e ≡ soak_end.Done = soak_ok_is e (sym is ∙ ok) in well (λ h. cc (d, h))

-- no script ends by a door
pub no_door : (a : Status) (l m h k : Option (List ℕ)) → Ran a l m h k → a ≡ status.DoorFault → ⊥
no_door status.Ok l m h k ran is = cc is
no_door status.Usage l m h k ran is = cc is
no_door status.ReadFault l m h k ran is = cc is
no_door status.WriteFault l m h k ran is = cc is
no_door status.NoMemory l m h k ran is = cc is
no_door (status.BadScript line) l m h k ran is = cc is
no_door status.DoorFault l m h k ran is = ran.outcome
no_door (status.BadConfig line) l m h k ran is = cc is

-- nothing was done, since memory was wanting
pub completes_nothing : (left held held' : Option (List ℕ)) → Completes status.NoMemory left held held'
completes_nothing None held held' = tt
completes_nothing (Some script) held held' = inr refl

pub refuses_nothing : (left : Option (List ℕ)) → RefusesConfig status.NoMemory left
refuses_nothing None = tt
refuses_nothing (Some bytes) = λ line bad. inr refl

pub served_nothing : (p : Ports) (left held : Option (List ℕ)) → RanServer status.NoMemory p left left held held
served_nothing p left held = record {
  ending = end.NoMemory;
  is = refl;
  served = record {
    read = [];
    written = [];
    consumes = consumes_none left [] refl;
    appends = appends_nothing held;
    outcome = (lines_at p, refl);
  };
}

pub soaked_nothing : (start steps : ℕ) (held : Option (List ℕ)) → RanSoak status.NoMemory start steps held held
soaked_nothing start steps held = record {
  ending = soak_end.NoMemory;
  is = refl;
  soaked = record { written = []; appends = appends_nothing held; wrote = refl };
}
