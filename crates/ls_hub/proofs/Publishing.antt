-- Publishes and enqueues of a hub are those of the world.
use Rattle.std.proofs.Common.{◌≡◌, ℕ, zero, suc, ◌+◌, ◌<◌, ◌≤◌, List, [], ◌∷◌, ◌++◌, length, map, get_or, refl, sym, ◌∙◌, ap, subst, cond, Bool, true, false}
use Rattle.std.proofs.Common.{nat_lt, slice_get, append-nil, Option, Some, None, Result, Ok, Err, OnOk, OnErr}
use Rattle.std.specs.Prelude.{option_map}
use Rattle.std.specs.Option.{option_map_or}
use Rattle.ls_event.specs.declared.event.Entry.{Entry}
use Rattle.ls_event.specs.declared.event.PublishRefused.{PublishRefused}
use Rattle.ls_event.specs.declared.event.PublishRefused.TheVariants as refused
use Rattle.ls_event.specs.Shapes.{shape_of}
use Rattle.ls_event.specs.Publishes.{refusal}
use Rattle.ls_event.specs.Slots.{enqueued as slot_after}
use Rattle.ls_cell.specs.Cell.{AnswersFirst, enqueue_answer}
use Rattle.ls_cell.specs.declared.cell.Enqueued.{Enqueued}
use Rattle.ls_cell.specs.declared.cell.Enqueued.TheVariants as enqueued
use Rattle.ls_step.specs.declared.out.Out.{Out}
use Rattle.ls_step.specs.declared.out.Out.TheVariants as out
use Rattle.ls_step.specs.declared.limits.TheConstants.{LONGEST_NOTE}
use Rattle.ls_step.specs.Notes.{text_of_out, room_for}
use Rattle.ls_record.specs.Cases.{with_found}
use Rattle.ls_record.specs.Apart.{Apart}
use Rattle.ls_world.specs.Script.{text_of_outs}
use Rattle.ls_world.specs.World.{World}
use Rattle.ls_record.specs.Records.{Item, LiveSlot, Session, change, definitions, all_live, live_at, on_board}
use Rattle.ls_record.specs.Records.{enqueued_in, history_of, enqueue_slot}
use Rattle.ls_turns.specs.declared.slot_ref.SlotRef.{SlotRef}
use Rattle.ls_subs.specs.Standing.{ref_of}
use Rattle.ls_world.specs.Steps.{session_of, with_session}
use Rattle.ls_world.specs.Steps.{Once, Stepped, stays, ends, goes_on, cause_to_refuse, publishes, enqueue_once}
use Rattle.ls_record.specs.Records.{grown, is_whole}
use Rattle.ls_world.proofs.Parts.{published_by, published, enqueued_by}
use Rattle.ls_session.specs.Record.{Record}
use Rattle.ls_session.specs.declared.session.Session.{Session as Kept}
use Rattle.ls_hub.specs.declared.hub.Hub.{Hub}
use Rattle.ls_cells.specs.Cells.{AllCells, StandsCells, far_in}
use Rattle.ls_session.specs.Session.{StandsSession}
use Rattle.ls_hub.specs.Hub.{StandsHub, Prints, DidOnce, IsSession, AreSessions, seen, session_at, slot_in, outs_published, out_enqueued, has_moved, AreNumbered}
use Rattle.ls_cells.proofs.Lives.{SessionAt, session_at as session_at_place, middle}
use Rattle.ls_hub.proofs.Alive.{living_changed}
use Rattle.ls_hub.proofs.Sessions.{kept_read}
use Rattle.ls_hub.proofs.KeptSessions.{LiveAt, are_same, apart_at, live_found}
use Rattle.ls_hub.proofs.Hubs.{none_at, past_at, some_at}
use Rattle.ls_session.proofs.Enqueuing.{session_enqueued}

-- a hub of which nothing changed but the cells
pub record ChangedCells (h h' : Hub) : Type 0 where
  pub config : h'.config ≡ h.config
  pub tick : h'.tick ≡ h.tick
  pub connections : h'.connections ≡ h.connections
  pub living : h'.living ≡ h.living
  pub sessions : h'.sessions ≡ h.sessions

-- the items have the definitions that they had
grown_definitions : (items : List Item) (n : ℕ) (e : Entry) → definitions (change n (grown e) items) ≡ definitions items
grown_definitions [] n e = refl
grown_definitions (i ∷ items) zero e = refl
grown_definitions (i ∷ items) (suc n) e = ap (λ ds. i.definition ∷ ds) (grown_definitions items n e)

pub with_cells : (h h' : Hub) (w : World) → ChangedCells h h' → StandsHub h w → StandsCells h'.cells w.items (all_live w.sessions) → StandsHub h' w
with_cells h h' w same st cells =
    record {
      set = ap (λ c. c.set) same.config ∙ st.set;
      tick = same.tick ∙ st.tick;
      in_range = st.in_range;
      definitions = ap (λ c. c.items) same.config ∙ st.definitions;
      cells = cells;
      sessions = subst (λ ks. AreSessions w.tick ks.items w.sessions) (sym same.sessions) st.sessions;
      numbers = subst (λ ks. AreNumbered 0 ks.items) (sym same.sessions) st.numbers;
      living = ap (λ x. x.items) same.living ∙ st.living;
      connections = ap (λ cs. map seen cs.items) same.connections ∙ st.connections;
    }

with_event : (h h' : Hub) (w : World) (n : ℕ) (e : Entry) → ChangedCells h h' → StandsHub h w
    → StandsCells h'.cells (change n (grown e) w.items) (all_live w.sessions) → StandsHub h' (record w { items = change n (grown e) w.items })
with_event h h' w n e same st cells =
    record {
      set = ap (λ c. c.set) same.config ∙ st.set;
      tick = same.tick ∙ st.tick;
      in_range = st.in_range;
      definitions = ap (λ c. c.items) same.config ∙ st.definitions ∙ sym (grown_definitions w.items n e);
      cells = cells;
      sessions = subst (λ ks. AreSessions w.tick ks.items w.sessions) (sym same.sessions) st.sessions;
      numbers = subst (λ ks. AreNumbered 0 ks.items) (sym same.sessions) st.numbers;
      living = ap (λ x. x.items) same.living ∙ st.living;
      connections = ap (λ cs. map seen cs.items) same.connections ∙ st.connections;
    }

-- an event isn't the item's, or there is no item
pub publishes_nothing : (h : Hub) (w : World) (n : ℕ) (e : Entry) (text : List ℕ)
    → option_map_or (λ i. is_whole (length i.definition.fields) e.event) (slice_get w.items n) false ≡ false → StandsHub h w
    → Prints (publishes w n e) text text h
publishes_nothing h w n e text not st =
    by_item (slice_get w.items n) not
  where
    by_whole : (i : Item) (b : Bool) → b ≡ false
        → Prints (cond b (published_by w n e (length i.history + 1) (cause_to_refuse w n e i)) (stays w [])) text text h
    by_whole i true e = absurd cc
    by_whole i false e = record { text = sym (append-nil text); stands = st }

    by_item : (o : Option Item) → option_map_or (λ i. is_whole (length i.definition.fields) e.event) o false ≡ false
        → Prints (published w n e o) text text h
    by_item None not = record { text = sym (append-nil text); stands = st }
    by_item (Some i) not = by_whole i (is_whole (length i.definition.fields) e.event) not

-- a refusal other than want of memory is the first cause
first_is : (cause : Option PublishRefused) (n : ℕ) (e : PublishRefused) → (e ≡ refused.NoMemory → ⊥) → AnswersFirst cause n (Err e) → cause ≡ Some e
first_is cause n (refused.Repeated last) some a = a
first_is cause n refused.NoKey some a = a
first_is cause n refused.BadCommand some a = a
first_is cause n (refused.TooLong bytes) some a = a
first_is cause n refused.TooManyKeys some a = a
first_is cause n (refused.Backlog slot) some a = a
first_is cause n refused.Spent some a = a
first_is cause n refused.NoMemory some a = absurd (some refl)

-- what a publish does to the cells
pub record PublishDid (c c' : AllCells) (n : ℕ) (e : Entry) (answer : Result ℕ PublishRefused) : Type 0 where
  pub some : answer ≡ Err refused.NoMemory → ⊥
  pub first : (items : List Item) (lives : List LiveSlot) (i : Item) → StandsCells c items lives → slice_get items n ≡ Some i
      → AnswersFirst (refusal (shape_of i.definition) i.history (far_in n (length i.history) lives) e) (length i.history + 1) answer
  pub stands : OnOk answer ((items : List Item) (lives : List LiveSlot) → StandsCells c items lives → StandsCells c' (change n (grown e) items) lives)
  pub same : OnErr answer ((items : List Item) (lives : List LiveSlot) → StandsCells c items lives → StandsCells c' items lives)

-- one that failed left all as it was, where its answer has room
pub publish_failed : (h h' : Hub) (w : World) (answer : Result ℕ PublishRefused) → ChangedCells h h' → StandsHub h w
    → OnErr answer ((items : List Item) (lives : List LiveSlot) → StandsCells h.cells items lives → StandsCells h'.cells items lives)
    → ((answer ≡ Err refused.NoMemory → ⊥) → ⊥) → StandsHub h' w
publish_failed h h' w (Ok n) same st kept room = absurd (room (λ e. let x : Ok n ≡ Err refused.NoMemory = e in cc))
publish_failed h h' w (Err cause) same st kept room = with_cells h h' w same st (kept w.items (all_live w.sessions) st.cells)

by_answer : (h h' : Hub) (w : World) (n : ℕ) (i : Item) (e : Entry) (answer : Result ℕ PublishRefused) (cause : Option PublishRefused) (before after : List ℕ)
    → ChangedCells h h' → StandsHub h w → PublishDid h.cells h'.cells n e answer → AnswersFirst cause (length i.history + 1) answer
    → after ≡ before ++ text_of_outs (outs_published answer) → Prints (published_by w n e (length i.history + 1) cause) before after h'
by_answer h h' w n i e (Ok number) cause before after same st p first text =
    subst (λ (o : Option PublishRefused). Prints (published_by w n e (length i.history + 1) o) before after h') (sym first.0)
    (record {
      text = text ∙ ap (λ m. before ++ text_of_outs (out.Published m ∷ [])) first.1;
      stands = with_event h h' w n e same st (p.stands w.items (all_live w.sessions) st.cells);
    })
by_answer h h' w n i e (Err refusal) cause before after same st p first text =
    subst (λ (o : Option PublishRefused). Prints (published_by w n e (length i.history + 1) o) before after h')
    (sym (first_is cause (length i.history + 1) refusal (λ x. p.some (ap (λ y. Err y) x)) first))
    (record { text = text; stands = with_cells h h' w same st (p.same w.items (all_live w.sessions) st.cells) })

pub publishes_did : (h h' : Hub) (w : World) (n : ℕ) (e : Entry) (answer : Result ℕ PublishRefused) (before after : List ℕ) → ChangedCells h h'
    → StandsHub h w → PublishDid h.cells h'.cells n e answer
    → option_map_or (λ i. is_whole (length i.definition.fields) e.event) (slice_get w.items n) false ≡ true
    → after ≡ before ++ text_of_outs (outs_published answer) → Prints (publishes w n e) before after h'
publishes_did h h' w n e answer before after same st p whole text = by_item (slice_get w.items n) refl whole
  where
    by_item : (o : Option Item) → slice_get w.items n ≡ o → option_map_or (λ i. is_whole (length i.definition.fields) e.event) o false ≡ true
        → Prints (published w n e o) before after h'
    by_item None is whole = absurd cc
    by_item (Some i) is whole =
        ap_prints (published_by w n e (length i.history + 1) (cause_to_refuse w n e i)) (is_whole (length i.definition.fields) e.event) whole
        (by_answer h h' w n i e answer (cause_to_refuse w n e i) before after same st p (p.first w.items (all_live w.sessions) i st.cells is) text)
      where
        ap_prints : (s : Stepped) (b : Bool) → b ≡ true → Prints s before after h' → Prints (cond b s (stays w [])) before after h'
        ap_prints s true is p = p
        ap_prints s false is p = absurd cc

-- the slot of a rank in a subscription of a connection's session
pub record SlotIn (w : World) (connection sub rank : ℕ) (v : LiveSlot) : Type 0 where
  pub place : ℕ
  pub session : Session
  pub linked : session_of w connection ≡ Some place
  pub found : slice_get w.sessions place ≡ Some session
  pub at : live_at sub rank session.board.round ≡ Some v

pub slot_found : (w : World) (connection sub rank : ℕ) (v : LiveSlot) → slot_in w connection sub rank ≡ Some v → SlotIn w connection sub rank v
slot_found w connection sub rank v is = by_linked (session_of w connection) refl is
  where
    by_session : (n : ℕ) (o : Option Session) → session_of w connection ≡ Some n → slice_get w.sessions n ≡ o
        → with_found o None (λ s. live_at sub rank s.board.round) ≡ Some v → SlotIn w connection sub rank v
    by_session n None linked found is = absurd (let x : None ≡ Some v = is in cc)
    by_session n (Some s) linked found is = record { place = n; session = s; linked = linked; found = found; at = is }

    by_linked : (o : Option ℕ) → session_of w connection ≡ o → with_session w.sessions o None (λ n s. live_at sub rank s.board.round) ≡ Some v
        → SlotIn w connection sub rank v
    by_linked None linked is = absurd (let x : None ≡ Some v = is in cc)
    by_linked (Some n) linked is = by_session n (slice_get w.sessions n) linked refl is

none_found : (w : World) (connection sub rank : ℕ) → slot_in w connection sub rank ≡ None → enqueue_once connection sub rank w ≡ ends w out.NoSlot
none_found w connection sub rank is = by_linked (session_of w connection) is
  where
    by_session : (n : ℕ) (o : Option Session) → with_found o None (λ s. live_at sub rank s.board.round) ≡ None
        → with_found o (ends w out.NoSlot) (λ s. enqueued_by w n sub rank (live_at sub rank s.board.round)) ≡ ends w out.NoSlot
    by_session n None is = refl
    by_session n (Some s) is = ap (enqueued_by w n sub rank) is

    by_linked : (o : Option ℕ) → with_session w.sessions o None (λ n s. live_at sub rank s.board.round) ≡ None
        → with_session w.sessions o (ends w out.NoSlot) (λ n s. enqueued_by w n sub rank (live_at sub rank s.board.round)) ≡ ends w out.NoSlot
    by_linked None is = refl
    by_linked (Some n) is = by_session n (slice_get w.sessions n) is

-- by its name
pub record NamedIn (w : World) (connection sub rank : ℕ) (slot : SlotRef) : Type 0 where
  pub live : LiveSlot
  pub is : slot ≡ ref_of live
  pub there : SlotIn w connection sub rank live

pub named_in : (w : World) (connection sub rank : ℕ) (o : Option SlotRef) (slot : SlotRef) → o ≡ option_map ref_of (slot_in w connection sub rank)
    → o ≡ Some slot
    → NamedIn w connection sub rank slot
named_in w connection sub rank o slot is some = by_slot (slot_in w connection sub rank) refl (sym is ∙ some)
  where
    by_slot : (v : Option LiveSlot) → slot_in w connection sub rank ≡ v → option_map ref_of v ≡ Some slot → NamedIn w connection sub rank slot
    by_slot None at is = absurd (let x : None ≡ Some slot = is in cc)
    by_slot (Some v) at is = let same : ref_of v ≡ slot = cc in record { live = v; is = sym same; there = slot_found w connection sub rank v at }

-- there is none
pub no_slot : (h : Hub) (w : World) (connection sub rank : ℕ) (o : Option SlotRef) (text last : List ℕ) → StandsHub h w
    → o ≡ option_map ref_of (slot_in w connection sub rank) → o ≡ None → last ≡ text ++ text_of_out out.NoSlot
    → DidOnce (enqueue_once connection sub rank w) false text last h
no_slot h w connection sub rank o text last st is none said = by_slot (slot_in w connection sub rank) refl (sym is ∙ none)
  where
    by_slot : (v : Option LiveSlot) → slot_in w connection sub rank ≡ v → option_map ref_of v ≡ None
        → DidOnce (enqueue_once connection sub rank w) false text last h
    by_slot None at is =
        subst (λ (x : Once). DidOnce x false text last h) (sym (none_found w connection sub rank at)) (record { more = refl; text = said; stands = st })
    by_slot (Some v) at is = absurd (let x : Some (ref_of v) ≡ None = is in cc)

-- what a hub finds
pub slot_unlinked : (h : Hub) (w : World) (connection sub rank : ℕ) → StandsHub h w → session_at h.connections.items connection ≡ None
    → None ≡ option_map ref_of (slot_in w connection sub rank)
slot_unlinked h w connection sub rank st none =
    sym (ap (option_map ref_of) (none_at h w connection None (λ n s. live_at sub rank s.board.round) st none))

pub slot_past : (h : Hub) (w : World) (connection place sub rank : ℕ) → StandsHub h w → session_at h.connections.items connection ≡ Some place
    → length h.sessions.items ≤ place → None ≡ option_map ref_of (slot_in w connection sub rank)
slot_past h w connection place sub rank st linked past =
    sym (ap (option_map ref_of) (past_at h w connection place None (λ n s. live_at sub rank s.board.round) st linked past))

pub slot_there : (h : Hub) (w : World) (connection place sub rank : ℕ) (k : Kept) (o : Option SlotRef) → StandsHub h w
    → session_at h.connections.items connection ≡ Some place → place < length h.sessions.items → k ≡ get_or h.sessions.items place k
    → ((r : Record) → StandsSession k r → o ≡ option_map ref_of (live_at sub rank r.session.board.round))
    → o ≡ option_map ref_of (slot_in w connection sub rank)
slot_there h w connection place sub rank k o st linked low is finds =
    let at = kept_read w.tick h.sessions.items w.sessions place k st.sessions low is in
    finds at.stands.asking at.stands.stands
    ∙ ap (λ (s : Session). option_map ref_of (live_at sub rank s.board.round)) at.stands.session
    ∙ sym (ap (option_map ref_of) (some_at h w connection place at.session None (λ n s. live_at sub rank s.board.round) st linked at.found))

-- what an enqueue does to the cells
abbrev pub EnqueueDid : AllCells → AllCells → ℕ → ℕ → Option Enqueued → Type 0
EnqueueDid c c' item slot answer = (items : List Item) (a b : List LiveSlot) (v : LiveSlot) → StandsCells c items (a ++ v ∷ b) → v.item ≡ item → v.number ≡ slot
    → (answer ≡ Some (enqueue_answer (length (history_of items v.item)) v.slot.last))
    × StandsCells c' items (a ++ enqueue_slot (history_of items v.item) v ∷ b)

-- its note has room
pub room_enqueued : (answer : Option Enqueued) → room_for (out_enqueued answer) ≡ LONGEST_NOTE
room_enqueued None = refl
room_enqueued (Some (enqueued.Moved n)) = refl
room_enqueued (Some enqueued.UpToDate) = refl

-- what is kept of a session stands for it, whatever its slots took
keeps_enqueued : (now : ℕ) (items : List Item) (sub rank : ℕ) (s : Session) (k : Kept) → IsSession now k s
    → IsSession now k (on_board (enqueued_in items sub rank) s)
keeps_enqueued now items sub rank s k is =
    record {
      asking = record is.asking { session = on_board (enqueued_in items sub rank) is.asking.session };
      session = ap (on_board (enqueued_in items sub rank)) is.session;
      early = is.early;
      first = is.first;
      stands = session_enqueued k is.asking items sub rank is.stands;
    }

-- a slot takes an event, or is up to date
enqueue_at_place : (h h' : Hub) (w : World) (connection place sub rank : ℕ) (s : Session) (v : LiveSlot) (answer : Option Enqueued) (text last : List ℕ)
    → StandsHub h w → ChangedCells h h' → session_of w connection ≡ Some place → slice_get w.sessions place ≡ Some s → Apart s.board.round
    → live_at sub rank s.board.round ≡ Some v → EnqueueDid h.cells h'.cells v.item v.number answer
    → last ≡ text ++ text_of_out (out_enqueued answer) → DidOnce (enqueue_once connection sub rank w) (has_moved answer) text last h'
enqueue_at_place h h' w connection place sub rank s v answer text last st same linked found apart at did said =
    subst (λ (o : Once). DidOnce o (has_moved answer) text last h') (sym
    (ap (λ o. with_session w.sessions o (ends w out.NoSlot) (λ n x. enqueued_by w n sub rank (live_at sub rank x.board.round))) linked
    ∙ ap (λ o. with_found o (ends w out.NoSlot) (λ x. enqueued_by w place sub rank (live_at sub rank x.board.round))) found
    ∙ ap (enqueued_by w place sub rank) at))
    (by_test (nat_lt v.slot.last (length (history_of w.items v.item))) refl)
  where
    slot : LiveAt s.board.round sub rank v
    slot = live_found s.board.round sub rank v apart at

    after : Session
    after = on_board (enqueued_in w.items sub rank) s

    around : SessionAt w.sessions place s
    around = session_at_place w.sessions place s found

    split : all_live w.sessions ≡ (around.before ++ slot.before) ++ v ∷ (slot.behind ++ around.after)
    split = around.all ∙ ap (λ vs. around.before ++ (vs ++ around.after)) slot.round ∙ middle around.before slot.before slot.behind around.after v

    done : (answer ≡ Some (enqueue_answer (length (history_of w.items v.item)) v.slot.last))
        × StandsCells h'.cells w.items ((around.before ++ slot.before) ++ enqueue_slot (history_of w.items v.item) v ∷ (slot.behind ++ around.after))
    done = did w.items (around.before ++ slot.before) (slot.behind ++ around.after) v (subst (StandsCells h.cells w.items) split st.cells) refl refl

    moved : all_live (change place (on_board (enqueued_in w.items sub rank)) w.sessions)
        ≡ (around.before ++ slot.before) ++ enqueue_slot (history_of w.items v.item) v ∷ (slot.behind ++ around.after)
    moved = around.changed (on_board (enqueued_in w.items sub rank)) ∙ ap (λ vs. around.before ++ (vs ++ around.after)) (slot.enqueued w.items)
        ∙ middle around.before slot.before slot.behind around.after (enqueue_slot (history_of w.items v.item) v)

    goes : StandsHub h' (record w { sessions = change place (on_board (enqueued_in w.items sub rank)) w.sessions })
    goes = record {
      set = ap (λ c. c.set) same.config ∙ st.set;
      tick = same.tick ∙ st.tick;
      in_range = st.in_range;
      definitions = ap (λ c. c.items) same.config ∙ st.definitions;
      cells = subst (StandsCells h'.cells w.items) (sym moved) done.1;
      sessions = subst (λ ks. AreSessions w.tick ks.items (change place (on_board (enqueued_in w.items sub rank)) w.sessions)) (sym same.sessions)
          (are_same w.tick h.sessions.items w.sessions place s (on_board (enqueued_in w.items sub rank)) found
          (keeps_enqueued w.tick w.items sub rank s) st.sessions);
      numbers = subst (λ ks. AreNumbered 0 ks.items) (sym same.sessions) st.numbers;
      living = ap (λ x. x.items) same.living ∙ st.living ∙ sym (living_changed 0 w.sessions place s (on_board (enqueued_in w.items sub rank)) found refl);
      connections = ap (λ cs. map seen cs.items) same.connections ∙ st.connections;
    }

    stayed : enqueue_slot (history_of w.items v.item) v ≡ v → StandsHub h' w
    stayed is = with_cells h h' w same st
        (subst (StandsCells h'.cells w.items) (ap (λ u. (around.before ++ slot.before) ++ u ∷ (slot.behind ++ around.after)) is ∙ sym split) done.1)

    printed : (o : Out) (a : Enqueued) → answer ≡ Some a → out_enqueued (Some a) ≡ o → last ≡ text ++ text_of_out o
    printed o a e is = said ∙ ap (λ x. text ++ text_of_out (out_enqueued x)) e ∙ ap (λ x. text ++ text_of_out x) is

    by_test : (b : Bool) → nat_lt v.slot.last (length (history_of w.items v.item)) ≡ b
        → DidOnce (cond b
        (goes_on (record w { sessions = change place (on_board (enqueued_in w.items sub rank)) w.sessions }) (out.Moved (v.slot.last + 1)))
        (ends w out.UpToDate)) (has_moved answer) text last h'
    by_test true is =
        let e : answer ≡ Some (enqueued.Moved (v.slot.last + 1)) = done.0 ∙ ap (λ b. Some (cond b (enqueued.Moved (v.slot.last + 1)) enqueued.UpToDate)) is in
        record { more = ap has_moved (sym e); text = printed (out.Moved (v.slot.last + 1)) (enqueued.Moved (v.slot.last + 1)) e refl; stands = goes }
    by_test false is =
        let e : answer ≡ Some enqueued.UpToDate = done.0 ∙ ap (λ b. Some (cond b (enqueued.Moved (v.slot.last + 1)) enqueued.UpToDate)) is in
        record {
          more = ap has_moved (sym e);
          text = printed out.UpToDate enqueued.UpToDate e refl;
          stands = stayed (ap (λ b. cond b (record v { slot = slot_after v.slot }) v) is);
        }

pub enqueue_did : (h h' : Hub) (w : World) (connection sub rank : ℕ) (slot : SlotRef) (answer : Option Enqueued) (text last : List ℕ) → StandsHub h w
    → ChangedCells h h' → NamedIn w connection sub rank slot → EnqueueDid h.cells h'.cells slot.item slot.slot answer
    → last ≡ text ++ text_of_out (out_enqueued answer) → DidOnce (enqueue_once connection sub rank w) (has_moved answer) text last h'
enqueue_did h h' w connection sub rank slot answer text last st same named did said =
    let there = named.there in
    enqueue_at_place h h' w connection there.place sub rank there.session named.live answer text last st same there.linked there.found
    (apart_at w.tick h.sessions.items w.sessions there.place there.session there.found st.sessions) there.at
    (subst (λ (x : SlotRef). EnqueueDid h.cells h'.cells x.item x.slot answer) named.is did) said
