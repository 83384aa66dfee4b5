-- What is kept of a session in threads is right when more is seen of its items.
use Rattle.std.proofs.Common.{◌≡◌, ℕ, List, ◌∷◌, [], ◌++◌, Some, slice_get, subst, ◌∙◌}
use mathlib.Core.List.{IsPrefix}
use Rattle.ls_value.specs.Each.{Each}
use Rattle.ls_event.specs.declared.event.Entry.{Entry}
use Rattle.ls_event.specs.declared.item.ItemDef.{ItemDef}
use Rattle.ls_record.specs.Records.{LiveSlot, change, shape_in}
use Rattle.ls_record.proofs.Each.{each_map}
use Rattle.ls_register.specs.declared.told.Told.{Told}
use Rattle.ls_seated.specs.Seats.{SeatSeen}
use Rattle.ls_seated.proofs.Tied.{at_later, at_reaches}
use Rattle.ls_session.specs.declared.session.Session.{Session as Kept}
use Rattle.ls_session.specs.Record.{Record}
use Rattle.ls_told.specs.Seen.{Watched, seen_of, FitsWatch, showing, SeesMore}
use Rattle.ls_told.specs.Keeping.{KeepsTold}
use Rattle.ls_told.proofs.Watching.{seen_more, sees_changed, sees_appended, keeps_seen, keeps_seen_at, keeps_watched}
use Rattle.ls_event.specs.Slots.{Slot}
use Rattle.ls_event.proofs.LongerCuts.{Reaches, cut_longer, pending_longer}
use Rattle.ls_taking.specs.Groups.{SubSeen}
use Rattle.ls_taking.specs.Lives.{HasNothing, IsSeatOf, HasSeat, LivesAs}

-- a slot that has nothing has nothing on a longer history
nothing_later : (h k : List Entry) (s : Slot) → IsPrefix h k → Reaches h s → HasNothing h s → HasNothing k s
nothing_later h k s more reaches n =
    subst (λ (l : List Entry). HasNothing l s) more.1
    (record { none = cut_longer h more.0 s reaches ∙ n.none; pends = pending_longer h more.0 s reaches ∙ n.pends })

-- a seat stays that of its slot
pub seat_sees : (config : List ItemDef) (old new : List Watched) (t : SeatSeen) (v : LiveSlot) → SeesMore old new → IsSeatOf config old t v
    → IsSeatOf config new t v
seat_sees config old new t v more s =
    record {
      sub = s.sub;
      rank = s.rank;
      item = s.item;
      number = s.number;
      shape = s.shape;
      at = at_later (shape_in config v.item) (seen_of old v.item) (seen_of new v.item) t.plan t.list v.slot (seen_more old new more v.item) s.at;
      last = s.last;
      cursor = s.cursor;
      quiet = λ q. nothing_later (seen_of old v.item) (seen_of new v.item) v.slot (seen_more old new more v.item)
          (at_reaches (shape_in config v.item) (seen_of old v.item) t.plan t.list v.slot s.at) (s.quiet q);
    }

pub has_seat_sees : (config : List ItemDef) (old new : List Watched) (subs : List SubSeen) (v : LiveSlot) → SeesMore old new
    → HasSeat config old subs v → HasSeat config new subs v
has_seat_sees config old new subs v more h =
    record {
      place = h.place;
      group = h.group;
      seat = h.seat;
      there = h.there;
      named = h.named;
      only = h.only;
      ranked = h.ranked;
      of = seat_sees config old new h.seat v more h.of;
    }

-- and so does a session, whose record is kept on what is seen then
lives_kept : (config : List ItemDef) (number : ℕ) (es : List Told) (old new : List Watched) (subs : List SubSeen) (k : Kept) (r : Record)
    → SeesMore old new → KeepsTold config number es new r.session → LivesAs config number es old subs k r → LivesAs config number es new subs k r
lives_kept config number es old new subs k r more told l =
    record {
      stands = l.stands;
      number_is = l.number_is;
      floor = l.floor;
      latest = l.latest;
      told = told;
      seated = each_map (HasSeat config old subs) (HasSeat config new subs) r.session.board.round
          (λ v h. has_seat_sees config old new subs v more h) l.seated;
      fits = l.fits;
    }

pub lives_sees : (config : List ItemDef) (number : ℕ) (es : List Told) (old new : List Watched) (subs : List SubSeen) (k : Kept) (r : Record)
    → SeesMore old new → Each (FitsWatch config) new → LivesAs config number es old subs k r → LivesAs config number es new subs k r
lives_sees config number es old new subs k r more fits l =
    lives_kept config number es old new subs k r more (keeps_seen config number es old new r.session more fits l.told) l

-- more was seen of the item of one watch, and an item is watched
pub lives_seen_at : (config : List ItemDef) (number : ℕ) (es : List Told) (ws : List Watched) (subs : List SubSeen) (k : Kept) (r : Record) (i : ℕ)
    (w : Watched) (h : List Entry) → slice_get ws i ≡ Some w → IsPrefix w.list h → FitsWatch config (showing h w)
    → LivesAs config number es ws subs k r → LivesAs config number es (change i (showing h) ws) subs k r
lives_seen_at config number es ws subs k r i w h is more fits l =
    lives_kept config number es ws (change i (showing h) ws) subs k r (sees_changed ws i w h is more)
    (keeps_seen_at config number es ws r.session i w h is more fits l.told) l

pub lives_watched : (config : List ItemDef) (number : ℕ) (es : List Told) (ws : List Watched) (subs : List SubSeen) (k : Kept) (r : Record) (w : Watched)
    → FitsWatch config w → LivesAs config number es ws subs k r → LivesAs config number es (ws ++ w ∷ []) subs k r
lives_watched config number es ws subs k r w fits l =
    lives_kept config number es ws (ws ++ w ∷ []) subs k r (sees_appended ws w) (keeps_watched config number es ws r.session w fits l.told) l
