-- A slot that is asked gets every event of its item: what is kept of its session stays right.
use Rattle.std.proofs.Common.{◌≡◌, ◌-◌, ℕ, Bool, true, false, Option, None, Some, List, length, refl, sym, ◌∙◌, ap, subst, arith, cond, slice_get}
use Rattle.std.proofs.Common.{option_map, slice_set}
use mathlib.Core.List.{IsPrefix}
use Rattle.ls_event.specs.declared.event.Entry.{Entry}
use Rattle.ls_event.specs.declared.item.ItemDef.{ItemDef}
use Rattle.ls_record.specs.Records.{LiveSlot, change, shape_in, is_due}
use Rattle.ls_record.proofs.Each.{each_at}
use Rattle.ls_register.specs.declared.told.Told.{Told}
use Rattle.ls_seated.specs.Seats.{SeatSeen, SeatedItem, IsReady as IsReadyAt}
use Rattle.ls_seated.proofs.Tied.{at_last}
use Rattle.ls_session.specs.declared.session.Session.{Session as Kept}
use Rattle.ls_session.specs.Record.{Record, Question, question_of}
use Rattle.ls_told.specs.Seen.{Watched, seen_of, FitsWatch, showing}
use Rattle.ls_told.proofs.Keeps.{keeps_caught_up}
use Rattle.ls_told.proofs.Watching.{seen_first}
use Rattle.ls_event.specs.Publishes.{IsHistory}
use Rattle.ls_session.specs.declared.session.Ask.{Ask}
use Rattle.ls_session.proofs.Replies.{question_parts}
use Rattle.ls_subs.specs.Standing.{ref_of}
use Rattle.ls_turns.specs.declared.slot_ref.SlotRef.{SlotRef}
use Rattle.ls_sight.specs.Sights.{NoneBefore}
use Rattle.ls_taking.specs.Groups.{SubSeen}
use Rattle.ls_taking.specs.Lives.{LivesAs, IsSeatOf, HasSeat}
use Rattle.ls_taking.specs.Taking.{reached, caught_up, SeatAt, IsFound, IsCaught, IsAskedFrom, IsWhole, asked_now, seat_set}
use Rattle.ls_taking.proofs.CaughtUp.{get_changed, session_caught}
use Rattle.ls_taking.proofs.Moving.{SeatMoves, same_last, own_seat, other_seat, each_moved, get_set, groups_stay}
use Rattle.ls_taking.proofs.Seeing.{lives_seen_at}

-- the seat that moves is the slot's
pub moving_seat : (config : List ItemDef) (ws : List Watched) (old new : List SubSeen) (v : LiveSlot) (t u : SeatSeen)
    → SeatMoves old new v.sub v.rank t u → HasSeat config ws old v → IsSeatOf config ws t v
moving_seat config ws old new v t u m h =
    let place : h.place ≡ m.place = same_last old v.sub h.place m.place h.group m.group h.there h.named h.only m.there m.named m.only in
    let groups : Some h.group ≡ Some m.group = sym h.there ∙ (ap (slice_get old) place ∙ m.there) in
    let group : h.group ≡ m.group = cc in
    let seats : Some h.seat ≡ Some t = sym h.ranked ∙ (ap (λ (g : SubSeen). slice_get g.seats (v.rank - 1)) group ∙ m.ranked) in
    let seat : h.seat ≡ t = cc in
    subst (λ (x : SeatSeen). IsSeatOf config ws x v) seat h.of

-- the slot that is asked has more events enqueued
pub asked_caught : (r : Record) (n : ℕ) (v : LiveSlot) → slice_get r.session.board.round r.asked ≡ Some v
    → slice_get (caught_up n r).session.board.round r.asked ≡ Some (reached n v)
asked_caught r n v here = get_changed (reached n) r.asked r.session.board.round ∙ ap (option_map (reached n)) here

module _ (config : List ItemDef) (number : ℕ) (es : List Told) (ws : List Watched) (subs new : List SubSeen) (k : Kept) (r : Record)
    (v : LiveSlot) (here : slice_get r.session.board.round r.asked ≡ Some v) where
  pub lives_caught : (at : ℕ) (w : Watched) (h : List Entry) (t : SeatSeen) → LivesAs config number es ws subs k r
      → slice_get ws at ≡ Some w → w.item ≡ v.item → NoneBefore ws at v.item → IsPrefix w.list h → FitsWatch config (showing h w)
      → SeatMoves subs new v.sub v.rank t (record t { last = length h; quiet = false })
      → LivesAs config number es (change at (showing h) ws) new k (caught_up (length h) r)
  lives_caught at w h t l there item none more fits m =
      let n : ℕ = length h in
      let ws1 : List Watched = change at (showing h) ws in
      let l1 : LivesAs config number es ws1 subs k r = lives_seen_at config number es ws subs k r at w h there more fits l in
      let seen : seen_of ws1 v.item ≡ h = seen_first ws at w h v.item there item none in
      let long : length (seen_of ws1 v.item) ≡ n = ap (λ (x : List Entry). length x) seen in
      let u : SeatSeen = record t { last = n; quiet = false } in
      let own : IsSeatOf config ws1 t v =
      moving_seat config ws1 subs new v t u m (each_at (HasSeat config ws1 subs) r.asked v r.session.board.round here l1.seated) in
      let is : IsSeatOf config ws1 u (reached n v) =
      record {
        sub = own.sub;
        rank = own.rank;
        item = own.item;
        number = own.number;
        shape = own.shape;
        at = at_last (shape_in config v.item) (seen_of ws1 v.item) t.plan t.list v.slot n (omega (arith, long)) own.at;
        last = refl;
        cursor = own.cursor;
        quiet = λ b. absurd (let x : false ≡ true = b in cc);
      } in
      record {
        stands =
            session_caught k r n
            (λ x e.
            let is : Some v ≡ Some x = sym here ∙ e in
            let same : v ≡ x = cc in
            omega (arith, ap (λ (y : LiveSlot). y.slot.last) same, own.at.last, long)) l1.stands;
        number_is = l1.number_is;
        floor = l1.floor;
        latest = l1.latest;
        told =
            keeps_caught_up config number es ws1 r.session r.asked n v here (omega (arith, own.at.last, long)) (omega (arith, long)) l1.told;
        seated =
            each_moved (HasSeat config ws1 subs) (HasSeat config ws1 new) (reached n) r.asked r.session.board.round v l1.stands.subs.apart here
            (λ x away has. other_seat config ws1 subs new v.sub v.rank t u m x away has)
            (own_seat config ws1 subs new v.sub v.rank t u m (reached n v) refl refl is) l1.seated;
        fits = l1.fits;
      }

-- the question is the same as events are enqueued
abbrev question_at : Record → LiveSlot → Question
question_at r v = record { live = v; due = is_due r.tick r.session v }

asked_alike : (r : Record) (n : ℕ) (q : Question) (asks : Bool) (o : Option LiveSlot)
    → cond asks (option_map (question_at r) o) None ≡ Some q
    → cond asks (option_map (question_at r) (option_map (reached n) o)) None ≡ Some (asked_now n q)
asked_alike r n q false o e = absurd (let x : None ≡ Some q = e in cc)
asked_alike r n q true None e = absurd (let x : None ≡ Some q = e in cc)
asked_alike r n q true (Some v) e =
    let x : Some (question_at r v) ≡ Some q = e in
    let same : question_at r v ≡ q = cc in
    ap (λ (y : Question). Some (asked_now n y)) same

pub asked_still : (r : Record) (n : ℕ) (q : Question) → question_of r ≡ Some q → question_of (caught_up n r) ≡ Some (asked_now n q)
asked_still r n q e =
    ap (λ o. cond r.asks (option_map (question_at r) o) None) (get_changed (reached n) r.asked r.session.board.round)
    ∙ asked_alike r n q r.asks (slice_get r.session.board.round r.asked) e

-- a seat that moves
pub seat_moves : (subs : List SubSeen) (k : ℕ) (slot : SlotRef) (at : SeatAt subs k slot) (u : SeatSeen)
    → SeatMoves subs (slice_set subs k (seat_set at.group slot.place u)) slot.sub slot.place at.seat u
seat_moves subs k slot at u =
    record {
      place = k;
      group = at.group;
      there = at.there;
      named = at.named;
      only = at.only;
      some = at.some;
      ranked = at.ranked;
      new_is = refl;
    }

abbrev pub seat_now : (subs : List SubSeen) (k : ℕ) (slot : SlotRef) (at : SeatAt subs k slot) (u : SeatSeen)
    → SeatAt (slice_set subs k (seat_set at.group slot.place u)) k slot
seat_now subs k slot at u =
    record {
      group = seat_set at.group slot.place u;
      seat = u;
      there = get_set subs k at.group (seat_set at.group slot.place u) at.there;
      named = at.named;
      only = groups_stay subs k slot.sub at.group (slice_set at.group.seats (slot.place - 1) u) at.there k at.only;
      some = at.some;
      ranked = get_set at.group.seats (slot.place - 1) at.seat u at.ranked;
    }

pub seat_caught : (subs new : List SubSeen) (k : ℕ) (slot : SlotRef) (at : SeatAt subs k slot) (u : SeatSeen) (i : SeatedItem)
    → new ≡ slice_set subs k (seat_set at.group slot.place u) → IsReadyAt u i → IsCaught new k slot i
seat_caught subs new k slot at u i is ready =
    subst (λ (x : List SubSeen). IsCaught x k slot i) (sym is) (record { seat = seat_now subs k slot at u; ready = ready })

-- a slot that was asked gets every event of its item
pub caught_asked : (config : List ItemDef) (ws : List Watched) (subs new : List SubSeen) (seats watch : ℕ) (slot : SlotRef) (i j : SeatedItem)
    (f : IsFound config ws subs seats watch slot i)
    → new ≡ slice_set subs seats (seat_set f.seat.group slot.place (record f.seat.seat { last = length i.item.history; quiet = false }))
    → IsPrefix f.first.watch.list i.item.history → FitsWatch config (showing i.item.history f.first.watch)
    → j.item.history ≡ i.item.history → j.item.shape ≡ i.item.shape
    → (number now : ℕ) (es : List Told) (k : Kept) (r : Record) (q : Question) (ask : Ask) → ask.slot ≡ slot
    → IsAskedFrom config number es ws subs k r q ask now
    → IsAskedFrom config number es (change watch (showing i.item.history) ws) new k (caught_up (length i.item.history) r)
    (asked_now (length i.item.history) q) ask now
    × IsWhole config (change watch (showing i.item.history) ws) (asked_now (length i.item.history) q) j
caught_asked config ws subs new seats watch slot i j f is more fits long shaped number now es k r q ask of asked =
    let e : slot ≡ ref_of q.live = sym of ∙ ap (λ (a : Ask). a.slot) asked.ask_is in
    subst (λ (s : SlotRef). (f : IsFound config ws subs seats watch s i)
    → new ≡ slice_set subs seats (seat_set f.seat.group s.place (record f.seat.seat { last = length i.item.history; quiet = false }))
    → IsPrefix f.first.watch.list i.item.history → FitsWatch config (showing i.item.history f.first.watch)
    → IsAskedFrom config number es (change watch (showing i.item.history) ws) new k (caught_up (length i.item.history) r)
    (asked_now (length i.item.history) q) ask now
    × IsWhole config (change watch (showing i.item.history) ws) (asked_now (length i.item.history) q) j) (sym e) here f is more fits
  where
    here : (f : IsFound config ws subs seats watch (ref_of q.live) i)
        → new ≡ slice_set subs seats (seat_set f.seat.group q.live.rank (record f.seat.seat { last = length i.item.history; quiet = false }))
        → IsPrefix f.first.watch.list i.item.history → FitsWatch config (showing i.item.history f.first.watch)
        → IsAskedFrom config number es (change watch (showing i.item.history) ws) new k (caught_up (length i.item.history) r)
        (asked_now (length i.item.history) q) ask now
        × IsWhole config (change watch (showing i.item.history) ws) (asked_now (length i.item.history) q) j
    here f is more fits =
        let h : List Entry = i.item.history in
        let u : SeatSeen = record f.seat.seat { last = length h; quiet = false } in
        let at = (question_parts r q asked.asks).0 in
        let m : SeatMoves subs new q.live.sub q.live.rank f.seat.seat u =
        subst (λ (n : List SubSeen). SeatMoves subs n q.live.sub q.live.rank f.seat.seat u) (sym is) (seat_moves subs seats (ref_of q.live) f.seat u) in (
          record {
            lives =
                lives_caught config number es ws subs new k r q.live at watch f.first.watch h f.seat.seat asked.lives f.first.there
                f.first.number_is f.first.none more fits m;
            asks = asked_still r (length h) q asked.asks;
            ask_is = asked.ask_is;
            tick = asked.tick;
          },
          record {
            seen = seen_first ws watch f.first.watch h q.live.item f.first.there f.first.number_is f.first.none ∙ sym long;
            last = ap (λ (x : List Entry). length x) (sym long);
            shape = shaped ∙ f.shape;
            history =
                subst (λ (x : ℕ × List Entry). IsHistory (shape_in config x.0) x.1) (λ n. (f.first.number_is n, sym long n)) fits.history;
          },
        )
