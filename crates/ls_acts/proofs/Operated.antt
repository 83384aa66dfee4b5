-- An operation on a session: it was refused, or the session changed and its slots joined or left.
use Rattle.std.proofs.Common.{◌≡◌, ℕ, ◌-◌, List, ◌++◌, length, map, sym, ◌∙◌, ap, subst, cond, Bool, true, false}
use Rattle.std.proofs.Common.{Option, Some, None, append_assoc}
use Rattle.ls_event.specs.declared.item.ItemDef.{ItemDef}
use Rattle.ls_event.specs.declared.limits.TheConstants.{MOST_SLOTS}
use Rattle.ls_request.specs.declared.request.Add.{Add}
use Rattle.ls_request.specs.declared.request.Op.{Op}
use Rattle.ls_request.specs.declared.request.Op.TheVariants as op
use Rattle.ls_record.specs.Acting.{asks_of}
use Rattle.ls_value.specs.Each.{Each}
use Rattle.ls_record.specs.Records.{Item, LiveSlot, Session, definitions, is_alive, joined_all, numbered}
use Rattle.ls_cells.specs.Cells.{free_in}
use Rattle.ls_subs.specs.declared.plan.AddPlan.{AddPlan}
use Rattle.ls_subs.specs.Plans.{IsPlan, JoinAll, MayJoin}
use Rattle.ls_session.specs.Record.{Record, begun_again, unless_ended, with_plan}
use Rattle.ls_session.specs.Session.{StandsSession}
use Rattle.ls_session.specs.declared.session.Session.{Session as Kept}
use Rattle.ls_acts.specs.Acting.{op_code, act_code, acted, after_act, StandsAmong, Acts, ActsAlone}
use Rattle.ls_acts.specs.Joining.{JoinInOrder}
use Rattle.ls_record.proofs.Asking.{CanJoin, can_join}
use Rattle.ls_acts.proofs.AddedSlots.{add_in_order, join_all}

-- a session that isn't refused anything hasn't ended, and has no cause of its own
pub none_refused : (s : Session) (code : Option ℕ) → unless_ended s code ≡ None → code ≡ None
none_refused s code is = by_alive (is_alive s.life) is
  where
    by_alive : (b : Bool) → cond b code (Some 20) ≡ None → code ≡ None
    by_alive true e = e
    by_alive false e = absurd (let x : Some 20 ≡ None = e in cc)

-- an operation that leaves the slots where they are
pub alone_acts : (stands : List Item → List LiveSlot → Type 0) (k k' : Kept) (defs : List ItemDef) (now : ℕ) (o : Op) (code : Option ℕ)
    → ActsAlone k k' now o code
    → ((items : List Item) (before after : List LiveSlot) (s : Session) (numbers : ℕ → ℕ) → stands items (before ++ (s.board.round ++ after))
    → stands items (before ++ ((acted items numbers o s).board.round ++ after)))
    → Acts stands stands k k' defs now o code
alone_acts stands k k' defs now o code alone keep = λ items before after r st is early range.
    let numbers : ℕ → ℕ = free_in (before ++ (r.session.board.round ++ after)) in
    let d = alone defs items (MOST_SLOTS - length (before ++ (r.session.board.round ++ after))) numbers r st.0 early range in
    (d.0, (d.1, by_code items before after r numbers code st.1))
  where
    by_code : (items : List Item) (before after : List LiveSlot) (r : Record) (numbers : ℕ → ℕ) (code : Option ℕ)
        → stands items (before ++ (r.session.board.round ++ after))
        → stands items (before ++ ((after_act code now items numbers o r).session.board.round ++ after))
    by_code items before after r numbers None st = keep items before after r.session numbers st
    by_code items before after r numbers (Some c) st = st

-- an add that is accepted
module _ (stands stands' : List Item → List LiveSlot → Type 0) (prepared k' : Kept) (a : Add) (free : ℕ) (plan : AddPlan) (numbers : List ℕ)
    (defs : List ItemDef) (items : List Item) (before after : List LiveSlot) (r : Record) (now : ℕ) where
  abbrev all : List LiveSlot
  all = before ++ (r.session.board.round ++ after)

  -- the slots by which its items join
  abbrev news : List LiveSlot
  news = joined_all items (free_in all) a.sub 1 (asks_of (definitions items) a)

  pub add_done : stands items all → StandsSession prepared r → defs ≡ definitions items → free ≡ MOST_SLOTS - length all
      → act_code defs free r.session (op.Add a) ≡ None → IsPlan defs a plan → Each (MayJoin defs) plan.items.items
      → ((its : List Item) (b c vs : List LiveSlot) → stands its (b ++ c) → JoinInOrder its b c plan.items.items vs
      → (numbers ≡ map (λ v. v.number) vs) × stands' its ((b ++ vs) ++ c))
      → ((q : Record) (ds : List ItemDef) (x : Add) (vs : List LiveSlot) → StandsSession prepared q → IsPlan ds x plan
      → JoinAll plan.items.items numbers vs → StandsSession k' (begun_again (numbered (with_plan ds x vs) q.session) q))
      → (None ≡ act_code defs (MOST_SLOTS - length all) r.session (op.Add a))
      × StandsAmong stands' k' items before after (after_act None now items (free_in all) (op.Add a) r)
  add_done slots session is free_is told planned may join finish = (
    sym told_now,
    (
      finish r (definitions items) a news session plan_is
          (subst (λ (ns : List ℕ). JoinAll plan.items.items ns news) (sym joins.0)
          (join_all items (free_in all) a.sub 1 (asks_of (definitions items) a) plan.items.items plan_is.items may_is)),
      subst (stands' items)
          (ap (λ vs. vs ++ after) (append_assoc before r.session.board.round news) ∙ append_assoc before (r.session.board.round ++ news) after)
          joins.1,
    ),
  )
    where
      told_now : act_code defs (MOST_SLOTS - length all) r.session (op.Add a) ≡ None
      told_now = ap (λ n. act_code defs n r.session (op.Add a)) (sym free_is) ∙ told

      plan_is : IsPlan (definitions items) a plan
      plan_is = subst (λ (ds : List ItemDef). IsPlan ds a plan) is planned

      may_is : Each (MayJoin (definitions items)) plan.items.items
      may_is = subst (λ (ds : List ItemDef). Each (MayJoin ds) plan.items.items) is may

      can : CanJoin (definitions items) (MOST_SLOTS - length all) a
      can =
          subst (λ (ds : List ItemDef). CanJoin ds (MOST_SLOTS - length all) a) is
          (can_join defs (MOST_SLOTS - length all) r.session a
          (none_refused r.session (op_code defs (MOST_SLOTS - length all) r.session (op.Add a)) told_now))

      joins : (numbers ≡ map (λ v. v.number) news) × stands' items (((before ++ r.session.board.round) ++ news) ++ after)
      joins =
          join items (before ++ r.session.board.round) after news
          (subst (stands items) (sym (append_assoc before r.session.board.round after)) slots)
          (add_in_order items a plan.items.items all (before ++ r.session.board.round) after plan_is.items may_is can
          (sym (append_assoc before r.session.board.round after)))
