-- A buffer of mode RAW goes on standing for its slot.
use Rattle.std.proofs.Common.{◌≡◌, ℕ, ◌+◌, ◌-◌, ◌<◌, ◌≤◌, List, [], ◌∷◌, ◌++◌, length, take, drop, min, refl, sym, ◌∙◌}
use Rattle.std.proofs.Common.{ap, arith, Bool, true, false, cond, Option, Some, None, nat_lt, subst, slice_get}
use Rattle.std.proofs.Common.{unwrap_or, option_map, append-nil, All}
use Rattle.std.specs.Option.{option_map_or}
use Rattle.std.proofs.lemmas.List.{length-append, length-drop, length-map}
use Rattle.std.proofs.lemmas.List.Elements.{All-append, All-drop}
use Rattle.std.proofs.lemmas.Bool.{ltb-true, ltb-false}
use Rattle.ls_event.specs.declared.event.Event.{Event}
use Rattle.ls_event.specs.declared.event.Event.TheVariants.{Update, Clear}
use Rattle.ls_event.specs.declared.event.Entry.{Entry}
use Rattle.ls_event.specs.declared.event.Stored.{Stored}
use Rattle.ls_event.specs.declared.event.Taken.{Taken}
use Rattle.ls_event.specs.declared.event.Taken.TheVariants as taken
use Rattle.ls_event.specs.declared.updates.OwnRow.{OwnRow}
use Rattle.ls_event.specs.History.{HasFields}
use Rattle.ls_event.specs.Slots.{Plan, Slot, IsNext, enqueued, passed, fresh}
use Rattle.ls_event.specs.Updates.{last_of, updates_between, own_value, own_row, own_of, own_from}
use Rattle.ls_event.specs.OwnCuts.{raw_taken}
use Rattle.ls_event.specs.declared.limits.TheConstants.{RAW_KEEPS}
use Rattle.ls_event.specs.Cuts.{cut, cut_of, is_behind, is_pending, pending_of, waiting_count, waiting_of, Fits}
use Rattle.ls_event.proofs.Cuts.{between_none}
use Rattle.ls_event.proofs.UpdatesBetween.{updates_between-next, updates_between-append, last_of-next, last_of_length}
use Rattle.ls_event.proofs.UpdatesBetween.{last_of_short, slice_get_drop, left_behind, Left}
use Rattle.ls_event.proofs.Conditions.{all_one, all_at}
use Rattle.ls_raw.specs.Raw.{Raw, StandsRaw, IsJoining, raw_head, raw_after, raw_passed, raw_first_no}

lost_next : (k lost m : ℕ) (v : Bool) → nat_lt k RAW_KEEPS ≡ v → k ≡ min RAW_KEEPS m → lost ≡ m - RAW_KEEPS
    → cond v lost (lost + 1) ≡ m + 1 - RAW_KEEPS
lost_next k lost m true t is was = omega (arith, ltb-true k RAW_KEEPS t, is, was)
lost_next k lost m false t is was = omega (arith, ltb-false k RAW_KEEPS t, is, was)

raw_next : (b : Raw) (s : Slot) (h : List Entry) (event : Event) (e : Entry) → StandsRaw b s h → s.last < length h
    → take (s.last + 1) h ≡ take s.last h ++ e ∷ [] → event ≡ e.event → StandsRaw (raw_after b event) (enqueued s) h
raw_next b s h (Update cells) e st more next is =
    let us : List OwnRow = updates_between h s.cursor s.last in
    let u : OwnRow = record { row = own_row cells; no = s.last + 1 } in
    let grown : updates_between h s.cursor (s.last + 1) ≡ us ++ u ∷ [] =
    updates_between-next h s.cursor s.last e st.behind st.within next
    ∙ ap (λ x. us ++ own_of (s.last + 1) x) (sym is) in
    record {
      mode = st.mode;
      owes = st.owes;
      ends = st.ends;
      last = ap (λ n. n + 1) st.last;
      cursor = st.cursor;
      behind = omega (arith, st.behind);
      within = omega (arith, more);
      kept = ap (λ n. last_of RAW_KEEPS (b.kept ++ record { row = own_row cells; no = n + 1 } ∷ [])) st.last
          ∙ ap (λ k. last_of RAW_KEEPS (k ++ u ∷ [])) st.kept ∙ last_of-next RAW_KEEPS us u
          ∙ ap (last_of RAW_KEEPS) (sym grown);
      lost = lost_next (length b.kept) b.lost (length us) (nat_lt (length b.kept) RAW_KEEPS) refl
          (ap length st.kept ∙ last_of_length RAW_KEEPS us) st.lost
          ∙ ap (λ n. n - RAW_KEEPS) (sym (ap length grown ∙ length-append us (u ∷ [])));
    }
raw_next b s h Clear e st more next is =
    let us : List OwnRow = updates_between h s.cursor s.last in
    let same : updates_between h s.cursor (s.last + 1) ≡ us =
    updates_between-next h s.cursor s.last e st.behind st.within next
    ∙ ap (λ x. us ++ own_of (s.last + 1) x) (sym is) ∙ append-nil us in
    record {
      mode = st.mode;
      owes = st.owes;
      ends = st.ends;
      last = ap (λ n. n + 1) st.last;
      cursor = st.cursor;
      behind = omega (arith, st.behind);
      within = omega (arith, more);
      kept = st.kept ∙ ap (last_of RAW_KEEPS) (sym same);
      lost = st.lost ∙ ap (λ xs. length xs - RAW_KEEPS) (sym same);
    }

-- after an enqueue
pub raw_stands_next : (b : Raw) (s : Slot) (h : List Entry) (x : Stored) → StandsRaw b s h → IsNext s h x
    → StandsRaw (raw_after b x.event) (enqueued s) h
raw_stands_next b s h x st next = raw_next b s h x.event next.entry st next.more next.next next.event

-- what the first update is
first_is : (b : Raw) (s : Slot) (h : List Entry) → StandsRaw b s h
    → slice_get b.kept 0 ≡ slice_get (updates_between h s.cursor s.last)
    (length (updates_between h s.cursor s.last) - RAW_KEEPS)
first_is b s h st = ap (λ k. slice_get k 0) st.kept ∙ slice_get_drop
    (length (updates_between h s.cursor s.last) - RAW_KEEPS) (updates_between h s.cursor s.last)

-- its next cut is that of the slot
pub raw_head_is_cut : (b : Raw) (s : Slot) (h : List Entry) → StandsRaw b s h → raw_head b ≡ cut h s
raw_head_is_cut b s h st =
    ap (λ n. option_map (raw_taken n) (slice_get b.kept 0)) st.lost
    ∙ ap (option_map (raw_taken (length (updates_between h s.cursor s.last) - RAW_KEEPS))) (first_is b s h st)
    ∙ ap (λ m. cut_of m h s) (sym st.mode)

-- it is pending where the slot is
pub raw_pending_is : (b : Raw) (s : Slot) (h : List Entry) → StandsRaw b s h → nat_lt b.cursor b.last ≡ is_pending h s
raw_pending_is b s h st =
    let behind : nat_lt b.cursor b.last ≡ is_behind s = rw (st.cursor, st.last, st.owes, st.ends) refl in
    behind ∙ ap (λ m. pending_of m h s) (sym st.mode)

-- it waits for as many updates as the slot
pub raw_waiting_is : (b : Raw) (s : Slot) (h : List Entry) → StandsRaw b s h → length b.kept ≡ waiting_count h s
raw_waiting_is b s h st = ap length st.kept ∙ last_of_length RAW_KEEPS (updates_between h s.cursor s.last)
    ∙ ap (λ m. waiting_of m h s) (sym st.mode)

-- as the history grows
pub raw_longer : (b : Raw) (s : Slot) (h more : List Entry) → StandsRaw b s h → StandsRaw b s (h ++ more)
raw_longer b s h more st =
    let same = updates_between-append h more s.cursor s.last st.within in
    record {
      mode = st.mode;
      owes = st.owes;
      ends = st.ends;
      last = st.last;
      cursor = st.cursor;
      behind = st.behind;
      within = omega (arith, st.within, length-append h more);
      kept = st.kept ∙ ap (last_of RAW_KEEPS) (sym same);
      lost = st.lost ∙ ap (λ xs. length xs - RAW_KEEPS) (sym same);
    }

raw_passed_first : (b : Raw) (s : Slot) (h : List Entry) (u : OwnRow) (v : Bool) → StandsRaw b s h
    → slice_get b.kept 0 ≡ Some u → nat_lt 0 b.lost ≡ v
    → StandsRaw (cond v (record b { lost = 0; cursor = raw_first_no b - 1 })
    (record b { kept = drop 1 b.kept; cursor = raw_first_no b }))
    (passed s (cond v (taken.Lost b.lost (u.no - 1)) (taken.Row u.row u.no))) h
raw_passed_first b s h u true st at t =
    let us : List OwnRow = updates_between h s.cursor s.last in
    let m : ℕ = length us in
    let at_u : Left h s.cursor s.last (m - RAW_KEEPS) u = left_behind h s.cursor s.last (m - RAW_KEEPS) u st.behind
    st.within (sym (first_is b s h st) ∙ at) in
    let short : length (drop (m - RAW_KEEPS) us) ≤ RAW_KEEPS = omega (arith, length-drop (m - RAW_KEEPS) us) in
    record {
      mode = st.mode;
      owes = st.owes;
      ends = st.ends;
      last = st.last;
      cursor = ap (λ o. option_map_or (λ x. x.no) o 0 - 1) at;
      behind = omega (arith, at_u.reached);
      within = st.within;
      kept = st.kept ∙ sym (last_of_short RAW_KEEPS (drop (m - RAW_KEEPS) us) short)
          ∙ ap (last_of RAW_KEEPS) (sym at_u.at_it);
      lost = omega (arith, short, ap length at_u.at_it);
    }
raw_passed_first b s h u false st at t =
    let us : List OwnRow = updates_between h s.cursor s.last in
    let m : ℕ = length us in
    let none : b.lost ≡ 0 = omega (arith, ltb-false 0 b.lost t) in
    let few : m - RAW_KEEPS ≡ 0 = omega (arith, none, st.lost) in
    let at_u : Left h s.cursor s.last (m - RAW_KEEPS) u = left_behind h s.cursor s.last (m - RAW_KEEPS) u st.behind
    st.within (sym (first_is b s h st) ∙ at) in
    let rest : updates_between h u.no s.last ≡ drop 1 us = at_u.after ∙ ap (λ k. drop (k + 1) us) few in
    let short : length (drop 1 us) ≤ RAW_KEEPS = omega (arith, few, length-drop 1 us) in
    record {
      mode = st.mode;
      owes = omega (arith, st.owes);
      ends = st.ends;
      last = st.last;
      cursor = ap (λ o. option_map_or (λ x. x.no) o 0) at;
      behind = omega (arith, at_u.reached);
      within = st.within;
      kept = ap (drop 1) (st.kept ∙ ap (λ k. drop k us) few) ∙ sym (last_of_short RAW_KEEPS (drop 1 us) short)
          ∙ ap (last_of RAW_KEEPS) (sym rest);
      lost = omega (arith, none, short, ap length rest);
    }

raw_passed_at : (b : Raw) (s : Slot) (h : List Entry) (t : Taken) (o : Option OwnRow) → StandsRaw b s h
    → slice_get b.kept 0 ≡ o → option_map (raw_taken b.lost) o ≡ Some t → StandsRaw (raw_passed b) (passed s t) h
raw_passed_at b s h t None st at tells = cc
raw_passed_at b s h t (Some u) st at tells =
    subst (λ x. StandsRaw (raw_passed b) (passed s x) h) (ap (λ o. unwrap_or o t) tells)
    (raw_passed_first b s h u (nat_lt 0 b.lost) st at refl)

-- after a cut
pub raw_stands_passed : (b : Raw) (s : Slot) (h : List Entry) (t : Taken) → StandsRaw b s h → raw_head b ≡ Some t
    → StandsRaw (raw_passed b) (passed s t) h
raw_stands_passed b s h t st tells = raw_passed_at b s h t (slice_get b.kept 0) st refl tells

-- at joining
pub raw_fresh : (base : ℕ) (p : Plan) (h : List Entry) → IsJoining base p h
    → StandsRaw (record { kept = []; lost = 0; cursor = base; last = base }) (fresh p base) h
raw_fresh base p h j =
    let none : updates_between h base p.base ≡ [] = ap (own_from base)
    (between_none h p.base base (omega (arith, j.base)) (omega (arith, j.within, j.base))) in
    record {
      mode = j.mode;
      owes = refl;
      ends = refl;
      last = sym j.base;
      cursor = refl;
      behind = omega (arith, j.base);
      within = omega (arith, j.within, j.base);
      kept = sym (last_of_short RAW_KEEPS [] (omega arith)) ∙ ap (last_of RAW_KEEPS) (sym none);
      lost = ap (λ xs. length xs - RAW_KEEPS) (sym none);
    }

-- each row has so many fields

-- an update's row has so many values
abbrev HasWidth : ℕ → OwnRow → Type 0
HasWidth n u = length u.row ≡ n

pub after_has : (n : ℕ) (b : Raw) (event : Event) → All (HasWidth n) b.kept → HasFields n event
    → All (HasWidth n) (raw_after b event).kept
after_has n b (Update cells) all fits =
    let u : OwnRow = record { row = own_row cells; no = b.last + 1 } in
    All-drop (HasWidth n) (length (b.kept ++ u ∷ []) - RAW_KEEPS) (b.kept ++ u ∷ [])
    (All-append (HasWidth n) b.kept (u ∷ []) all (all_one (HasWidth n) u (length-map cells own_value ∙ fits)))
after_has n b Clear all fits = all

pub passed_has : (n : ℕ) (b : Raw) → All (HasWidth n) b.kept → All (HasWidth n) (raw_passed b).kept
passed_has n b all = by_lost (nat_lt 0 b.lost)
  where
    by_lost : (v : Bool)
        → All (HasWidth n) (cond v (record b { lost = 0; cursor = raw_first_no b - 1 })
        (record b { kept = drop 1 b.kept; cursor = raw_first_no b })).kept
    by_lost true = all
    by_lost false = All-drop (HasWidth n) 1 b.kept all

pub head_fits : (n : ℕ) (b : Raw) → All (HasWidth n) b.kept → Fits n (raw_head b)
head_fits n b all = by_first (slice_get b.kept 0) refl
  where
    by_first : (o : Option OwnRow) → slice_get b.kept 0 ≡ o → Fits n (option_map (raw_taken b.lost) o)
    by_first None is = tt
    by_first (Some u) is = by_lost (nat_lt 0 b.lost)
      where
        by_lost : (v : Bool) → Fits n (Some (cond v (taken.Lost b.lost (u.no - 1)) (taken.Row u.row u.no)))
        by_lost true = tt
        by_lost false = all_at (HasWidth n) b.kept 0 u all is
