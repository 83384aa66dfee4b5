-- Why a publish is refused, where slots that lag are caught up.
use Rattle.std.proofs.Common.{◌≡◌, ℕ, ◌≤◌, List, length, refl, sym, ◌∙◌, ap, subst, Bool, true, false, cond, Option, Some, None}
use Rattle.std.proofs.Common.{Result, Ok, Err, IfErr, nat_le, slice_index}
use Rattle.ls_value.specs.declared.limits.TheConstants.{GREATEST_NUMBER}
use Rattle.ls_event.specs.declared.event.Event.{Event}
use Rattle.ls_event.specs.declared.event.Entry.{Entry}
use Rattle.ls_event.specs.declared.event.PushRefused.{PushRefused}
use Rattle.ls_event.specs.declared.event.PushRefused.TheVariants as push
use Rattle.ls_event.specs.declared.event.PublishRefused.{PublishRefused}
use Rattle.ls_event.specs.declared.event.PublishRefused.TheVariants as refused
use Rattle.ls_event.specs.declared.limits.TheConstants.{MOST_ADAPTERS}
use Rattle.ls_event.specs.History.{last_seq}
use Rattle.ls_event.specs.Shapes.{Shape}
use Rattle.ls_event.specs.States.{state_at, push_refusal}
use Rattle.ls_cell.specs.Numbered.{first_lagging}
use Rattle.ls_cell.specs.Any.{any_last}
use Rattle.ls_cell.specs.Cell.{Held, refusal_of, least_lagging}
use Rattle.ls_cell.proofs.Memory.{in_order, push_not}
use Rattle.ls_cell.proofs.Refusals.{refusal_is}
use Rattle.ls_live.specs.Live.{IsCause, StandsFor, cause_in, entry_of, lagging_in}

-- a cause is itself
is_cause : (x e : PublishRefused) → (x ≡ refused.NoMemory → ⊥) → Some x ≡ Some e → IsCause (Some x) e
is_cause x e memory is = let same : x ≡ e = cc in subst (IsCause (Some x)) same (own x memory)
  where
    own : (x : PublishRefused) → (x ≡ refused.NoMemory → ⊥) → IsCause (Some x) x
    own (refused.Repeated last) memory = refl
    own refused.NoKey memory = refl
    own refused.BadCommand memory = refl
    own (refused.TooLong bytes) memory = refl
    own refused.TooManyKeys memory = refl
    own (refused.Backlog slot) memory = refl
    own refused.Spent memory = refl
    own refused.NoMemory memory = absurd (memory refl)

-- a cause that names no slot is one without slots too
near : (repeated : Bool) (last : ℕ) (pushed : Option PushRefused) (far : Option ℕ) (spent : Bool) (e : PublishRefused)
    → (pushed ≡ Some push.NoMemory → ⊥) → lagging_in {A = Unit {0}} (Err e) ≡ None
    → in_order repeated last pushed far spent ≡ Some e → IsCause (in_order repeated last pushed None spent) e
near true last pushed far spent e memory free is = is_cause (refused.Repeated last) e (λ x. cc) is
near false last (Some push.NoKey) far spent e memory free is = is_cause refused.NoKey e (λ x. cc) is
near false last (Some push.BadCommand) far spent e memory free is = is_cause refused.BadCommand e (λ x. cc) is
near false last (Some (push.TooLong bytes)) far spent e memory free is = is_cause (refused.TooLong bytes) e (λ x. cc) is
near false last (Some push.TooManyKeys) far spent e memory free is = is_cause refused.TooManyKeys e (λ x. cc) is
near false last (Some push.NoMemory) far spent e memory free is = absurd (memory refl)
near false last None (Some slot) spent e memory free is =
    let same : e ≡ refused.Backlog slot = cc in
    let some : Some slot ≡ None = subst (λ x. lagging_in {A = Unit {0}} (Err x) ≡ None) same free in absurd cc
near false last None None true e memory free is = is_cause refused.Spent e (λ x. cc) is
near false last None None false e memory free is = absurd cc

-- where there is none, there is none without slots
clear : (repeated : Bool) (last : ℕ) (pushed : Option PushRefused) (far : Option ℕ) (spent : Bool)
    → in_order repeated last pushed far spent ≡ None → in_order repeated last pushed None spent ≡ None
clear true last pushed far spent is = absurd cc
clear false last (Some x) far spent is = absurd cc
clear false last None (Some slot) spent is = absurd cc
clear false last None None spent is = is

-- what a cause that names a slot says
record IsFar (repeated : Bool) (last : ℕ) (pushed : Option PushRefused) (far : Option ℕ) (spent : Bool) (slot : ℕ) : Type 0 where
  far_is : far ≡ Some slot
  rest : in_order repeated last pushed None spent ≡ cond spent (Some refused.Spent) None

far_of : (repeated : Bool) (last : ℕ) (pushed : Option PushRefused) (far : Option ℕ) (spent : Bool) (slot : ℕ)
    → in_order repeated last pushed far spent ≡ Some (refused.Backlog slot) → IsFar repeated last pushed far spent slot
far_of true last pushed far spent slot is = absurd cc
far_of false last (Some push.NoKey) far spent slot is = absurd cc
far_of false last (Some push.BadCommand) far spent slot is = absurd cc
far_of false last (Some (push.TooLong bytes)) far spent slot is = absurd cc
far_of false last (Some push.TooManyKeys) far spent slot is = absurd cc
far_of false last (Some push.NoMemory) far spent slot is = absurd cc
far_of false last None (Some m) spent slot is = record { far_is = cc; rest = refl }
far_of false last None None true slot is = absurd cc
far_of false last None None false slot is = absurd cc

-- what a cell's answer says of the histories that it stands for, without its slots
pub cause_near : (c : Held) (h : List Entry) (adapter seq : ℕ) (event : Event) (e : PublishRefused) → StandsFor c h
    → adapter ≤ MOST_ADAPTERS → lagging_in {A = Unit {0}} (Err e) ≡ None → refusal_of c (entry_of adapter seq event) ≡ Some e
    → IsCause (cause_in c.item.shape h (entry_of adapter seq event)) e
cause_near c h adapter seq event e st range free is =
    near (nat_le seq (last_seq adapter h)) (last_seq adapter h)
    (push_refusal c.item.shape (state_at c.item.shape h (length h)) event) (least_lagging (length h) st.0)
    (nat_le GREATEST_NUMBER (length h)) e (push_not c.item.shape (state_at c.item.shape h (length h)) event) free
    (sym (refusal_is c st.0 h (entry_of adapter seq event) st.1 range) ∙ is)

pub none_near : (c : Held) (h : List Entry) (adapter seq : ℕ) (event : Event) → StandsFor c h → adapter ≤ MOST_ADAPTERS
    → refusal_of c (entry_of adapter seq event) ≡ None → cause_in c.item.shape h (entry_of adapter seq event) ≡ None
none_near c h adapter seq event st range is =
    clear (nat_le seq (last_seq adapter h)) (last_seq adapter h)
    (push_refusal c.item.shape (state_at c.item.shape h (length h)) event) (least_lagging (length h) st.0)
    (nat_le GREATEST_NUMBER (length h)) (sym (refusal_is c st.0 h (entry_of adapter seq event) st.1 range) ∙ is)

pub spent_near : (c : Held) (h : List Entry) (adapter seq : ℕ) (event : Event) (slot : ℕ) → StandsFor c h
    → adapter ≤ MOST_ADAPTERS → refusal_of c (entry_of adapter seq event) ≡ Some (refused.Backlog slot)
    → cause_in c.item.shape h (entry_of adapter seq event)
    ≡ cond (nat_le GREATEST_NUMBER c.number) (Some refused.Spent) None
spent_near c h adapter seq event slot st range is =
    (far_of (nat_le seq (last_seq adapter h)) (last_seq adapter h)
    (push_refusal c.item.shape (state_at c.item.shape h (length h)) event) (least_lagging (length h) st.0)
    (nat_le GREATEST_NUMBER (length h)) slot (sym (refusal_is c st.0 h (entry_of adapter seq event) st.1 range) ∙ is)).rest
    ∙ ap (λ (n : ℕ). cond (nat_le GREATEST_NUMBER n) (Some refused.Spent) None) (sym st.1.number)

-- a slot that is named is the least that lags
pub far_slot : (c : Held) (adapter seq : ℕ) (event : Event) (slot : ℕ)
    → refusal_of c (entry_of adapter seq event) ≡ Some (refused.Backlog slot)
    → first_lagging any_last c.number 1 c.slots ≡ Some slot
far_slot c adapter seq event slot is =
    (far_of (nat_le seq (slice_index c.seqs adapter)) (slice_index c.seqs adapter)
    (push_refusal c.item.shape c.item.state event) (first_lagging any_last c.number 1 c.slots)
    (nat_le GREATEST_NUMBER c.number) slot is).far_is

-- what an answer says of the cause
pub lagging_is : (r : Result (Unit {0}) PublishRefused) (o : Option PublishRefused) (slot : ℕ)
    → IfErr r (λ e. o ≡ Some e) → lagging_in r ≡ Some slot → o ≡ Some (refused.Backlog slot)
lagging_is (Ok a) o slot err is = absurd cc
lagging_is (Err (refused.Repeated last)) o slot err is = absurd cc
lagging_is (Err refused.NoKey) o slot err is = absurd cc
lagging_is (Err refused.BadCommand) o slot err is = absurd cc
lagging_is (Err (refused.TooLong bytes)) o slot err is = absurd cc
lagging_is (Err refused.TooManyKeys) o slot err is = absurd cc
lagging_is (Err (refused.Backlog n)) o slot err is = cc
lagging_is (Err refused.Spent) o slot err is = absurd cc
lagging_is (Err refused.NoMemory) o slot err is = absurd cc

-- an answer that names no slot is the cause without slots
pub refused_near : (c : Held) (h : List Entry) (adapter seq : ℕ) (event : Event) (r : Result (Unit {0}) PublishRefused)
    → StandsFor c h → adapter ≤ MOST_ADAPTERS → lagging_in r ≡ None
    → IfErr r (λ e. refusal_of c (entry_of adapter seq event) ≡ Some e)
    → IfErr r (λ e. IsCause (cause_in c.item.shape h (entry_of adapter seq event)) e)
refused_near c h adapter seq event (Ok a) st range free err = tt
refused_near c h adapter seq event (Err e) st range free err = cause_near c h adapter seq event e st range free err

-- no slot is ever named
pub never_lagging : (p : Shape) (h : List Entry) (e : Entry) (slot : ℕ) → IsCause (cause_in p h e) (refused.Backlog slot) → ⊥
never_lagging p h e slot is =
    let none : None ≡ Some slot =
    (far_of (nat_le e.seq (last_seq e.adapter h)) (last_seq e.adapter h)
    (push_refusal p (state_at p h (length h)) e.event) None (nat_le GREATEST_NUMBER (length h)) slot is).far_is in cc
