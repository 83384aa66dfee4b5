-- Want of memory is no cause that is found by what is held.
use Rattle.std.proofs.Common.{◌≡◌, ℕ, length, Bool, true, false, cond, Option, None, Some, Result, Ok, Err, IsErrAnd}
use Rattle.std.proofs.Common.{refl, ◌&&◌, nat_le, nat_lt, option_map, slice_index}
use Rattle.std.specs.Option.{option_or}
use Rattle.ls_value.specs.declared.limits.TheConstants.{GREATEST_NUMBER}
use Rattle.ls_event.specs.declared.event.Event.{Event}
use Rattle.ls_event.specs.declared.event.Event.TheVariants.{Update, Clear}
use Rattle.ls_event.specs.declared.event.Entry.{Entry}
use Rattle.ls_event.specs.declared.event.PushRefused.{PushRefused}
use Rattle.ls_event.specs.declared.event.PushRefused.TheVariants as push
use Rattle.ls_event.specs.declared.event.PublishRefused.{PublishRefused}
use Rattle.ls_event.specs.declared.event.PublishRefused.TheVariants as refused
use Rattle.ls_event.specs.declared.orders.Order.{Order}
use Rattle.ls_event.specs.declared.orders.CommandRefused.{CommandRefused}
use Rattle.ls_event.specs.declared.orders.CommandRefused.TheVariants as order
use Rattle.ls_event.specs.declared.snapshot.Snapshot.{Snapshot}
use Rattle.ls_event.specs.declared.snapshot.Snapshot.TheVariants as state
use Rattle.ls_event.specs.declared.limits.TheConstants.{MOST_WEIGHT, MOST_KEYS}
use Rattle.ls_event.specs.Shapes.{Shape}
use Rattle.ls_event.specs.Orders.{order_of}
use Rattle.ls_event.specs.States.{push_refusal, order_refusal, order_cause, weight_refusal, weight_made, row_made}
use Rattle.ls_event.specs.States.{keys_refusal, adds_key}
use Rattle.ls_event.specs.Publishes.{publish_cause, backlog_or}
use Rattle.ls_cell.specs.Numbered.{first_lagging}
use Rattle.ls_cell.specs.Any.{any_last}
use Rattle.ls_cell.specs.Cell.{Held, AnswersFirst, refusal_of}

-- a state has no such cause
or_not : (a b : Option PushRefused) → (a ≡ Some push.NoMemory → ⊥) → (b ≡ Some push.NoMemory → ⊥)
    → option_or a b ≡ Some push.NoMemory → ⊥
or_not None b first rest is = rest is
or_not (Some x) b first rest is = first is

cond_not : (v : Bool) (x : PushRefused) → (Some x ≡ Some push.NoMemory → ⊥) → cond v (Some x) None ≡ Some push.NoMemory
    → ⊥
cond_not true x no_cause is = no_cause is
cond_not false x no_cause is = cc

order_not : (r : Result Order CommandRefused) → order_cause r ≡ Some push.NoMemory → ⊥
order_not (Ok o) is = cc
order_not (Err order.NoKey) is = cc
order_not (Err order.BadCommand) is = cc

first_not : (p : Shape) (s : Snapshot) (e : Event) → order_refusal p s e ≡ Some push.NoMemory → ⊥
first_not p (state.Merge row) e is = cc
first_not p (state.Distinct rows) e is = cc
first_not p (state.Command ks) (Update cells) is = order_not (order_of cells p.key p.command) is
first_not p (state.Command ks) Clear is = cc

keys_not : (p : Shape) (s : Snapshot) (e : Event) → keys_refusal p s e ≡ Some push.NoMemory → ⊥
keys_not p (state.Merge row) e is = cc
keys_not p (state.Distinct rows) e is = cc
keys_not p (state.Command ks) (Update cells) is =
    cond_not (nat_le MOST_KEYS (length ks) && adds_key p ks cells) push.TooManyKeys (λ x. cc) is
keys_not p (state.Command ks) Clear is = cc

pub push_not : (p : Shape) (s : Snapshot) (e : Event) → push_refusal p s e ≡ Some push.NoMemory → ⊥
push_not p s e =
    let bytes = weight_made e (row_made p s e) in
    or_not (order_refusal p s e) (option_or (weight_refusal bytes) (keys_refusal p s e)) (first_not p s e)
    (or_not (weight_refusal bytes) (keys_refusal p s e)
    (cond_not (nat_lt MOST_WEIGHT bytes) (push.TooLong bytes) (λ x. cc)) (keys_not p s e))

-- the causes in their order
abbrev pub in_order : Bool → ℕ → Option PushRefused → Option ℕ → Bool → Option PublishRefused
in_order repeated last pushed far spent =
    cond repeated (Some (refused.Repeated last))
    (option_or (option_map publish_cause pushed) (backlog_or far (cond spent (Some refused.Spent) None)))

causes_not : (repeated : Bool) (last : ℕ) (pushed : Option PushRefused) (far : Option ℕ) (spent : Bool)
    → (pushed ≡ Some push.NoMemory → ⊥) → in_order repeated last pushed far spent ≡ Some refused.NoMemory → ⊥
causes_not true last pushed far spent memory is = cc
causes_not false last (Some push.NoKey) far spent memory is = cc
causes_not false last (Some push.BadCommand) far spent memory is = cc
causes_not false last (Some (push.TooLong bytes)) far spent memory is = cc
causes_not false last (Some push.TooManyKeys) far spent memory is = cc
causes_not false last (Some push.NoMemory) far spent memory is = memory refl
causes_not false last None (Some slot) spent memory is = cc
causes_not false last None None true memory is = cc
causes_not false last None None false memory is = cc

-- where there is another cause, an error that is the cause is the answer
answers_cause : (cause : Option PublishRefused) (n : ℕ) (r : Result ℕ PublishRefused) (x : PublishRefused)
    → (cause ≡ Some refused.NoMemory → ⊥) → cause ≡ Some x → IsErrAnd r (λ y. y ≡ x) → AnswersFirst cause n r
answers_cause cause n (Ok m) x never is said = absurd said
answers_cause cause n (Err (refused.Repeated last)) x never is said = cc
answers_cause cause n (Err refused.NoKey) x never is said = cc
answers_cause cause n (Err refused.BadCommand) x never is said = cc
answers_cause cause n (Err (refused.TooLong bytes)) x never is said = cc
answers_cause cause n (Err refused.TooManyKeys) x never is said = cc
answers_cause cause n (Err (refused.Backlog slot)) x never is said = cc
answers_cause cause n (Err refused.Spent) x never is said = cc
answers_cause cause n (Err refused.NoMemory) x never is said =
    let memory : cause ≡ Some refused.NoMemory = cc in absurd (never memory)

pub answers_refusal : (c : Held) (e : Entry) (n : ℕ) (r : Result ℕ PublishRefused) (x : PublishRefused)
    → refusal_of c e ≡ Some x → IsErrAnd r (λ y. y ≡ x) → AnswersFirst (refusal_of c e) n r
answers_refusal c e n r x is said =
    answers_cause (refusal_of c e) n r x
    (causes_not (nat_le e.seq (slice_index c.seqs e.adapter)) (slice_index c.seqs e.adapter)
    (push_refusal c.item.shape c.item.state e.event) (first_lagging any_last c.number 1 c.slots)
    (nat_le GREATEST_NUMBER c.number) (push_not c.item.shape c.item.state e.event)) is said
