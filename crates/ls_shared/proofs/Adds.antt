-- What an add says of a session, in the words of who asked for it.
use Rattle.std.proofs.Common.{◌≡◌, ◌≤◌, ◌+◌, ℕ, List, [], ◌∷◌, ◌++◌, length, Option, Some, None, refl, sym, ap, subst, ◌∙◌, take, slice_get, arith}
use Rattle.std.proofs.Common.{Bool, true, false, not, ◌||◌, zero, suc, map}
use Rattle.std.proofs.lemmas.List.{length-map}
use Rattle.std.proofs.lemmas.Grind.{elements}
use mathlib.Core.List.{IsPrefix}
use Rattle.ls_chron.proofs.Beginnings.{prefix_self, prefix_trans, prefix_length, prefix_get}
use Rattle.ls_value.specs.Each.{Each}
use Rattle.ls_event.specs.declared.event.Entry.{Entry}
use Rattle.ls_event.specs.declared.item.ItemDef.{ItemDef}
use Rattle.ls_event.specs.Joining.{plan_of}
use Rattle.ls_request.specs.declared.request.Add.{Add}
use Rattle.ls_request.specs.declared.request.Op.TheVariants as op
use Rattle.ls_record.specs.Acting.{asks_of}
use Rattle.ls_record.specs.Cases.{first_code}
use Rattle.ls_record.specs.Cutting.{Ask}
use Rattle.ls_record.specs.Records.{LiveSlot, is_alive, shape_in}
use Rattle.ls_register.specs.declared.begun.SlotBegun.{SlotBegun}
use Rattle.ls_register.specs.declared.made.Made.{Made}
use Rattle.ls_register.specs.declared.made.Made.TheVariants.{Claimed}
use Rattle.ls_register.specs.declared.told.Told.{Told}
use Rattle.ls_register.specs.Sessions.{Gains}
use Rattle.ls_told.specs.Spoken.{Spoken}
use Rattle.ls_told.specs.Heard.{heard, counts_as}
use Rattle.ls_told.specs.Seen.{Watched, Testified, Grows, SeesMore, FitsWatch, IsTold, seen_of}
use Rattle.ls_told.specs.Requests.{AddsSub, AreAsked, AreBegunFor, Does, InTime, IsAsked, RefusesOp, free_in, is_spent, is_spent_for, op_code, op_refusals, slots_in}
use Rattle.ls_told.proofs.Watching.{keeps_seen, seen_more, sees_same}
use Rattle.ls_live_session.specs.Adding.{AddsTo}
use Rattle.ls_live_session.specs.Adding.{AddingSeen, FindsAdd}
use Rattle.ls_live_session.specs.Sights.{ShowsAll}
use Rattle.ls_live_session.specs.Speaking.{Speaking}
use Rattle.ls_live_session.proofs.AddDone.{adds_sub}
use Rattle.ls_live_session.proofs.Shown.{lawful_of}
use Rattle.ls_shared.specs.Answers.{AddsOn, HasRoom}
use Rattle.ls_shared.proofs.Changing.{gains_earlier}

-- what was seen stays seen
pub grows_same : (t : Testified) → t.later ≡ t.lines → Grows t t
grows_same t both =
    record {
      number = refl;
      table = refl;
      lines = prefix_self t.lines;
      later = subst (IsPrefix t.later) both (prefix_self t.later);
      both = both;
      watches = sees_same t.watches;
      register = prefix_self t.register;
    }

-- a refusal of an add is true of what its caller sees
pub refuses_add : (config : List ItemDef) (live : Speaking) (old new : Testified) (a : Add) (code free : ℕ) (spent : Bool)
    → ShowsAll live old → new.lines ≡ old.lines → new.watches ≡ old.watches → free ≡ free_in new.register → spent ≡ is_spent new.register
    → FindsAdd config live.number live.lines live.watches free spent a (Some code)
    → RefusesOp config old.number (op.Add a) code new.lines new.watches new.register
refuses_add config live old new a code free spent shows lines watches room unspent f =
    subst (λ (q : ℕ × (List Told × List Watched)). RefusesOp config q.0 (op.Add a) code q.1.0 q.1.1 new.register)
    (λ i. (sym shows.number i, (sym (lines ∙ shows.lines) i, sym (watches ∙ shows.watches) i))) (
      f.session,
      lawful_of config live.number live.lines live.watches f.session f.told,
      subst (λ (q : ℕ × Bool). op_code config q.0 (is_spent live.lines || q.1) f.session (op.Add a) ≡ Some code)
          (λ i. (room i, unspent i)) f.code_is,
    )

take_longer : (n : ℕ) (h k : List Entry) → n ≤ length h → IsPrefix h k → take n h ≡ take n k
take_longer n h k within p = take_first n h p.0 within ∙ ap (λ (l : List Entry). take n l) p.1
  where
    take_first : (n : ℕ) (h k : List Entry) → n ≤ length h → take n h ≡ take n (h ++ k)
    take_first zero h k within = refl
    take_first (suc n) [] k within = absurd (omega (arith, within))
    take_first (suc n) (e ∷ h) k within = ap (λ (l : List Entry). e ∷ l) (take_first n h k (omega (arith, within)))

asked_longer : (config : List ItemDef) (old new : List Watched) (sub rank : ℕ) (a : Ask) (v : LiveSlot) → SeesMore old new
    → IsAsked config old sub rank a v → IsAsked config new sub rank a v
asked_longer config old new sub rank a v more is =
    let longer = seen_more old new more a.item in
    record {
      sub_is = is.sub_is;
      rank_is = is.rank_is;
      item_is = is.item_is;
      frequency_is = is.frequency_is;
      wanted_is = is.wanted_is;
      base = omega (arith, is.base, prefix_length (seen_of old a.item) (seen_of new a.item) longer);
      plan =
          is.plan
          ∙ ap (λ (h : List Entry). plan_of (shape_in config a.item) h a.mode a.size)
          (take_longer v.slot.plan.base (seen_of old a.item) (seen_of new a.item) is.base longer);
    }

all_asked : (config : List ItemDef) (old new : List Watched) (sub rank : ℕ) (asks : List Ask) (vs : List LiveSlot) → SeesMore old new
    → AreAsked config old sub rank asks vs → AreAsked config new sub rank asks vs
all_asked config old new sub rank [] [] more are = tt
all_asked config old new sub rank [] (v ∷ vs) more are = are
all_asked config old new sub rank (a ∷ asks) [] more are = are
all_asked config old new sub rank (a ∷ asks) (v ∷ vs) more are =
    (asked_longer config old new sub rank a v more are.0, all_asked config old new sub (rank + 1) asks vs more are.1)

begun_longer : (old new : List Watched) (asks : List Ask) (ts : List SlotBegun) → SeesMore old new → AreBegunFor old asks ts → AreBegunFor new asks ts
begun_longer old new [] [] more are = tt
begun_longer old new [] (t ∷ ts) more are = are
begun_longer old new (a ∷ asks) [] more are = are
begun_longer old new (a ∷ asks) (t ∷ ts) more are = (
  record {
    item = are.0.item;
    mode = are.0.mode;
    size = are.0.size;
    snapshot = are.0.snapshot;
    base = omega (arith, are.0.base, prefix_length (seen_of old a.item) (seen_of new a.item) (seen_more old new more a.item));
  },
  begun_longer old new asks ts more are.1,
)

-- an add that was done stays so where more is seen of the items
pub adds_more : (config : List ItemDef) (number : ℕ) (a : Add) (free tick : ℕ) (before es : List Told) (old new : List Watched) → SeesMore old new
    → Each (FitsWatch config) new → AddsTo config number a free tick before es old → AddsTo config number a free tick before es new
adds_more config number a free tick before es old new more fits d =
    record {
      begun = d.begun;
      schema = d.schema;
      begins = begun_longer old new (asks_of config a) d.begun.slots more d.begins;
      lines = d.lines;
      earlier = d.earlier;
      was = keeps_seen config number before old new d.earlier more fits d.was;
      none = d.none;
      session = d.session;
      told = keeps_seen config number es old new d.session more fits d.told;
      slots = all_asked config old new a.sub 1 (asks_of config a) (slots_in a.sub d.session) more d.slots;
    }

-- and where its caller then sees all of the session
pub adds_shown : (config : List ItemDef) (now : ℕ) (t : AddingSeen) (s after : Speaking) (new : Testified) → s.watches ≡ t.watches
    → after.lines ≡ s.lines → SeesMore s.watches after.watches → Each (FitsWatch config) after.watches → ShowsAll after new
    → AddsTo config t.number t.add t.free (counts_as now t.lines) t.lines s.lines t.watches
    → AddsTo config t.number t.add t.free (counts_as now t.lines) t.lines new.lines new.watches
adds_shown config now t s after new watches lines more fits shows d =
    subst (λ (q : List Told × List Watched). AddsTo config t.number t.add t.free (counts_as now t.lines) t.lines q.0 q.1)
    (λ i. (sym (shows.lines ∙ lines) i, sym shows.watches i))
    (adds_more config t.number t.add t.free (counts_as now t.lines) t.lines s.lines t.watches after.watches
    (subst (λ (ws : List Watched). SeesMore ws after.watches) watches more) fits d)

-- it was added to what its caller had begun with
pub adds_same : (config : List ItemDef) (now : ℕ) (t u : AddingSeen) (es : List Told) (ws : List Watched)
    → u ≡ record t { watches = u.watches; joined = u.joined }
    → AddsTo config u.number u.add u.free (counts_as now u.lines) u.lines es ws
    → AddsTo config t.number t.add t.free (counts_as now t.lines) t.lines es ws
adds_same config now t u es ws rest d =
    subst (λ (v : AddingSeen). AddsTo config v.number v.add v.free (counts_as now v.lines) v.lines es ws) rest d

-- and to the session that it was begun in
pub adds_begun : (config : List ItemDef) (now : ℕ) (a : Add) (live : Speaking) (t : AddingSeen) (items : List ℕ) (es : List Told) (ws : List Watched)
    → t ≡ record {
      number = live.number;
      place = live.place;
      table = live.table;
      lines = live.lines;
      watches = live.watches;
      add = a;
      free = t.free;
      items = items;
      joined = 0;
    }
    → AddsTo config t.number t.add t.free (counts_as now t.lines) t.lines es ws
    → AddsTo config live.number a t.free (counts_as now live.lines) live.lines es ws
adds_begun config now a live t items es ws begun d =
    subst (λ (v : AddingSeen). AddsTo config v.number v.add v.free (counts_as now v.lines) v.lines es ws) begun d

-- room for the slots that are asked for was claimed
pub has_room : (config : List ItemDef) (a : Add) (es : List Told) (free n : ℕ) (spent : Bool) (t : AddingSeen) (old room new : List Made)
    → IsPrefix old room → free ≡ free_in room → spent ≡ is_spent room → is_spent es ≡ false → spent ≡ false → n ≡ length t.items
    → t.items ≡ map (λ (k : Ask). k.item) (asks_of config a) → new ≡ room ++ Claimed n ∷ [] → HasRoom config a es free old new
has_room config a es free n spent t old room new begins free_is spent_is left unspent count items claimed =
    record {
      room = room;
      begins = begins;
      free_is = free_is;
      left = left;
      unspent = sym spent_is ∙ unspent;
      claimed =
          claimed
          ∙ ap (λ (k : ℕ). room ++ Claimed k ∷ [])
          (count ∙ (ap (λ (l : List ℕ). length l) items ∙ length-map (asks_of config a) (λ (k : Ask). k.item)));
    }

-- all of the register and of a session's items was shown
pub grows_items : (old new : Testified) → old.later ≡ old.lines → new ≡ record old { watches = new.watches } → SeesMore old.watches new.watches
    → Grows old new
grows_items old new both is more =
    record {
      number = ap (λ (t : Testified). t.number) is;
      table = ap (λ (t : Testified). t.table) is;
      lines = subst (IsPrefix old.lines) (sym (ap (λ (t : Testified). t.lines) is)) (prefix_self old.lines);
      later =
          subst (IsPrefix old.later) (both ∙ sym (ap (λ (t : Testified). t.lines) is)) (prefix_self old.later);
      both = ap (λ (t : Testified). t.later) is ∙ (both ∙ sym (ap (λ (t : Testified). t.lines) is));
      watches = more;
      register = subst (IsPrefix old.register) (sym (ap (λ (t : Testified). t.register) is)) (prefix_self old.register);
    }

-- what was gained stays
pub gains_later : (m : Made) (old mid new : List Made) → Gains m old mid → IsPrefix mid new → Gains m old new
gains_later m old mid new g more = (g.0, g.1, prefix_get mid new g.0 m more g.2)

claimed_longer : (m : Made) (old room claimed new : List Made) → IsPrefix old room → claimed ≡ room ++ m ∷ [] → IsPrefix claimed new → Gains m old new
claimed_longer m old room claimed new begins is more =
    (length room, prefix_length old room begins, there)
  where
    at_place : (xs ys : List Made) → slice_get ((xs ++ m ∷ []) ++ ys) (length xs) ≡ Some m
    at_place xs ys = grind (arith, elements)

    there : slice_get new (length room) ≡ Some m
    there = ap (λ (l : List Made). slice_get l (length room)) (sym more.1 ∙ ap (λ (l : List Made). l ++ more.0) is) ∙ at_place room more.0

-- an add that was done, in the words of a caller that saw all of the session
pub adds_on : (config : List ItemDef) (a : Add) (now free : ℕ) (live : Speaking) (old mid new : Testified) → HasRoom config a live.lines free old.register mid.register
    → IsPrefix mid.register new.register
    → AddsTo config live.number a free (counts_as now live.lines) live.lines new.lines new.watches → AddsOn config a now live old new
adds_on config a now free live old mid new room more d =
    record {
      room = room.room;
      room_then =
          (room.begins, prefix_trans room.room mid.register new.register (Claimed (length (asks_of config a)) ∷ [], sym room.claimed) more);
      claims = subst (λ (l : List Made). IsPrefix l new.register) room.claimed more;
      earlier = d.earlier;
      was = lawful_of config live.number live.lines new.watches d.earlier d.was;
      none =
          subst (λ (q : ℕ × Bool). op_code config q.0 q.1 d.earlier (op.Add a) ≡ None)
          (λ i. (room.free_is i, sym (neither (is_spent live.lines) (is_spent room.room) room.left room.unspent) i)) d.none;
      done =
          adds_sub config live.number a free (counts_as now live.lines) live.lines new.lines new.watches new old.register refl refl
          (claimed_longer (Claimed (length (asks_of config a))) old.register room.room mid.register new.register room.begins room.claimed more) d;
    }
  where
    neither : (x y : Bool) → x ≡ false → y ≡ false → (x || y) ≡ false
    neither false y p q = q
    neither true y p q = absurd (let z : true ≡ false = p in cc)

-- and in the words of who asked for it
pub does_add : (config : List ItemDef) (a : Add) (now : ℕ) (old shown new : Testified) (live : Speaking) → old.number ≡ live.number
    → IsPrefix old.later live.lines → IsPrefix old.register shown.register
    → (is_alive (heard live.number live.lines).life ≡ true → InTime (counts_as now live.lines) (heard live.number live.lines))
    → AddsOn config a now live shown new → Does config (op.Add a) now old new
does_add config a now old shown new live named later register in_time c =
    let lives : is_alive (heard live.number live.lines).life ≡ true =
    sym (ap (λ (p : Spoken). is_alive p.life) c.was.told)
    ∙ by_code (is_alive c.earlier.life) (op_refusals config (free_in c.room) (is_spent_for (op.Add a) live.lines c.room) c.earlier (op.Add a)) c.none in
    let done = c.done in
    record {
      before = live.lines;
      begins = later;
      in_time = subst (λ (n : ℕ). InTime (counts_as now live.lines) (heard n live.lines)) (sym named) (in_time lives);
      room = c.room;
      room_then = (prefix_trans old.register shown.register c.room register c.room_then.0, c.room_then.1);
      earlier = c.earlier;
      was = subst (λ (n : ℕ). IsTold config n live.lines new.watches c.earlier) (sym named) c.was;
      none = c.none;
      done =
          subst (λ (n : ℕ). AddsSub config n a (counts_as now live.lines) live.lines new old.register) (sym named)
          (record {
            begun = done.begun;
            schema = done.schema;
            begins = done.begins;
            lines = done.lines;
            session = done.session;
            told = done.told;
            slots = done.slots;
            claimed = gains_earlier (Claimed (length (asks_of config a))) old.register shown.register new.register register done.claimed;
          });
    }
  where
    by_code : (b : Bool) (rows : List (ℕ × Bool)) → first_code ((20, not b) ∷ rows) ≡ None → b ≡ true
    by_code true rows is = refl
    by_code false rows is = absurd (let x : ◌≡◌ {A = Option ℕ} (Some 20) None = is in cc)
