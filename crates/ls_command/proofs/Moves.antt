-- A buffer of mode COMMAND goes on standing for its slots as events are enqueued and cuts are taken.
use Rattle.std.proofs.Common.{◌≡◌, ◌==◌, ◌≤◌, ◌<◌, ℕ, ◌+◌, ◌-◌, List, [], ◌∷◌, ◌++◌, length, map, drop, take, refl, sym, ◌∙◌, ap, arith, subst, suc, zero, Bool}
use Rattle.std.proofs.Common.{true, false, ◌&&◌, ◌||◌, cond, if◌then◌else◌, nat_lt, Option, Some, None, is_some, option_map, slice_get, unwrap_or}
use Rattle.std.proofs.lemmas.List.{length-map, length-drop, drop-drop, drop_all}
use Rattle.std.proofs.lemmas.Bool.{ltb-true, ltb-false, eqb-true}
use Rattle.ls_value.specs.declared.row.Value.{Value}
use Rattle.ls_value.specs.Values.{text_eq}
use Rattle.ls_value.proofs.Rows.{text_eq_same}
use Rattle.ls_event.specs.declared.event.Event.{Event}
use Rattle.ls_event.specs.declared.event.Event.TheVariants.{Update, Clear}
use Rattle.ls_event.specs.declared.event.Entry.{Entry}
use Rattle.ls_event.specs.declared.event.Stored.{Stored}
use Rattle.ls_event.specs.declared.event.Taken.{Taken}
use Rattle.ls_event.specs.declared.event.Taken.TheVariants as taken
use Rattle.ls_event.specs.declared.snapshot.KeyedRow.{KeyedRow}
use Rattle.ls_event.specs.Shapes.{Shape}
use Rattle.ls_event.specs.History.{between}
use Rattle.ls_event.specs.Slots.{Slot, IsNext, enqueued, passed}
use Rattle.ls_event.specs.Updates.{last_of, clear_of, last_clear, clear_or}
use Rattle.ls_event.specs.Keyed.{key_of, row_at, keyed_after, keyed_after_all, keyed}
use Rattle.ls_event.specs.States.{state_in, key_row}
use Rattle.ls_event.specs.declared.snapshot.Snapshot.TheVariants as state
use Rattle.ls_event.specs.CommandCuts.{has_key, key_cursor, queue_after, queue_from, queue_since, owed_keys, command_queue, touched_keys}
use Rattle.ls_event.proofs.Cuts.{between-next, between_none}
use Rattle.ls_event.proofs.UpdatesBetween.{ClearIn, between_length, last_clear_is, last_clear-next}
use Rattle.ls_command.specs.declared.kept.Queued.{Queued}
use Rattle.ls_command.specs.Command.{Command, StandsCommand, keys_of, with_queued, is_touched, RowsOf, AreMarked, AreDistinct, command_head_of, key_head}
use Rattle.ls_command.specs.Command.{command_head, command_ended, turn_passed, first_waits, command_passed_of, command_passed, key_touched, command_after}
use Rattle.ls_command.specs.Command.{key_in}
use Rattle.ls_command.proofs.Keys.{or_false, keyed_distinct}
use Rattle.ls_command.proofs.Turns.{with_key, without_key, Among, with_length, touched_before, distinct_from, among_from, queue_from-append, begins, queue_as}
use Rattle.ls_command.proofs.Turns.{same_queue, without_none, without_first, without_length, queue_turned}
use Rattle.ls_command.proofs.Queues.{keys_queued, other_rows, rows_queued, marked_queued, marked_without, found_mark}

-- no key has two turns, and those that were touched have one

last_of_distinct : (n : ℕ) (ks : List (List ℕ)) → AreDistinct ks → AreDistinct (drop n ks)
last_of_distinct zero ks d = d
last_of_distinct (suc n) [] d = tt
last_of_distinct (suc n) (k ∷ ks) d = last_of_distinct n ks d.1

owed_distinct : (h : List Entry) (s : Slot) → AreDistinct (owed_keys h s)
owed_distinct h s = by_clear (is_some (last_clear h s.cursor s.last))
  where
    by_clear : (v : Bool) → AreDistinct (cond v [] (last_of s.owed (map (λ k. k.key) (keyed s.plan.shape h s.plan.base))))
    by_clear true = tt
    by_clear false =
        last_of_distinct (length (map (λ (k : KeyedRow). k.key) (keyed s.plan.shape h s.plan.base)) - s.owed)
        (map (λ k. k.key) (keyed s.plan.shape h s.plan.base)) (keyed_distinct s.plan.shape h s.plan.base)

turns_distinct : (h : List Entry) (s : Slot) → AreDistinct (command_queue h s)
turns_distinct h s = distinct_from s (owed_keys h s) (clear_or h s.cursor s.last) (between h (clear_or h s.cursor s.last) s.last) (owed_distinct h s)

touched_distinct : (h : List Entry) (s : Slot) → AreDistinct (touched_keys h s)
touched_distinct h s = distinct_from s [] (clear_or h s.cursor s.last) (between h (clear_or h s.cursor s.last) s.last) tt

touched_turns : (h : List Entry) (s : Slot) → Among (touched_keys h s) (command_queue h s)
touched_turns h s = among_from s [] (owed_keys h s) (clear_or h s.cursor s.last) (between h (clear_or h s.cursor s.last) s.last) (λ j h. cc)

-- what a Clear leaves

since_within : (h : List Entry) (p l : ℕ) → p ≤ l → l ≤ length h → (p ≤ clear_or h p l) × (clear_or h p l ≤ l)
since_within h p l low high = by_clear (last_clear h p l) refl
  where
    by_clear : (o : Option ℕ) → last_clear h p l ≡ o → (p ≤ unwrap_or o p) × (unwrap_or o p ≤ l)
    by_clear None is = (omega arith, low)
    by_clear (Some c) is = let x : ClearIn h p l c = last_clear_is h p l c low high is in (omega (arith, x.above), x.reached)

ended_each : (s : Slot) (q : List (List ℕ)) (n : ℕ) (event : Event) → queue_after (passed s taken.EndOfSnapshot) q n event ≡ queue_after s q n event
ended_each s q n Clear = refl
ended_each s q n (Update cells) = refl

owed_same : (n : ℕ) (ks : List (List ℕ)) (o : Option ℕ) → (o ≡ None → n ≡ 0) → cond (is_some o) [] (last_of 0 ks) ≡ cond (is_some o) [] (last_of n ks)
owed_same n ks (Some c) f = refl
owed_same n ks None f = ap (λ k. last_of k ks) (sym (f refl))

listed_same : (n : ℕ) (o : Option ℕ) → (o ≡ None → n ≡ 0) → cond (is_some o) 0 n ≡ cond (is_some o) 0 0
listed_same n (Some c) f = refl
listed_same n None f = f refl

command_ended_stands : (b : Command) (s : Slot) (h : List Entry) → StandsCommand b s h → (last_clear h s.cursor s.last ≡ None → s.owed ≡ 0)
    → StandsCommand (command_ended b) (passed s taken.EndOfSnapshot) h
command_ended_stands b s h st none =
    let r : Slot = passed s taken.EndOfSnapshot in
    let from : ℕ = clear_or h s.cursor s.last in
    let queue : command_queue h r ≡ command_queue h s =
    queue_as r s (ended_each s) (owed_keys h r) from (between h from s.last)
    ∙ ap (λ q. queue_from s q from (between h from s.last)) (owed_same s.owed (map (λ k. k.key) (keyed s.plan.shape h s.plan.base))
    (last_clear h s.cursor s.last) none) in
    let touched : touched_keys h r ≡ touched_keys h s = queue_as r s (ended_each s) [] from (between h from s.last) in
    record {
      mode = st.mode;
      kind = st.kind;
      key = st.key;
      last = st.last;
      owed = refl;
      ends = refl;
      based = st.based;
      behind = st.behind;
      within = st.within;
      first = λ some. absurd (omega (arith, some));
      enough = omega arith;
      cleared = st.cleared;
      keys = st.keys ∙ sym queue;
      rows = st.rows;
      marked = subst (λ t. AreMarked t b.queue) (sym touched) st.marked;
      waiting = st.waiting ∙ sym (ap length touched);
      listed = st.listed ∙ listed_same s.owed (last_clear h s.cursor s.last) none;
      placed = st.placed;
    }

command_cleared : (b : Command) (s : Slot) (h : List Entry) (c : ℕ) (v : Bool) → StandsCommand b s h → last_clear h s.cursor s.last ≡ Some c → b.ends ≡ v
    → StandsCommand (cond v (command_ended b) (record b { cleared = None })) (passed s (cond v taken.EndOfSnapshot (taken.Cleared c))) h
command_cleared b s h c true st is t = command_ended_stands b s h st (λ none. no_both (sym is ∙ none))
  where
    no_both : Some c ≡ None → s.owed ≡ 0
    no_both e = cc
command_cleared b s h c false st is t =
    let x : ClearIn h s.cursor s.last c = last_clear_is h s.cursor s.last c st.behind st.within is in
    let r : Slot = passed s (taken.Cleared c) in
    let ks : List (List ℕ) = map (λ k. k.key) (keyed s.plan.shape h s.plan.base) in
    let none_owed : s.owed ≡ 0 = by_owed (nat_lt 0 s.owed) refl in
    let before : queue_from s [] c (between h c s.last) ≡ command_queue h s =
    ap (λ o. queue_from s (cond (is_some o) [] (last_of s.owed ks)) (unwrap_or o s.cursor) (between h (unwrap_or o s.cursor) s.last)) (sym is) in
    let touched_then : queue_from s [] c (between h c s.last) ≡ touched_keys h s =
    ap (λ o. queue_from s [] (unwrap_or o s.cursor) (between h (unwrap_or o s.cursor) s.last)) (sym is) in
    let moved : queue_from r [] c (between h c s.last) ≡ queue_from s [] c (between h c s.last) =
    same_queue r s [] c (between h c s.last) refl (λ k. omega arith) (λ k. omega (arith, st.placed k, ap (λ o. unwrap_or o s.last) is)) in
    let no_keys : last_of s.owed ks ≡ [] = ap (λ n. last_of n ks) none_owed ∙ drop_all (length ks - 0) ks (omega arith) in
    let after : command_queue h r ≡ queue_from r [] c (between h c s.last) =
    ap (λ o. queue_from r (cond (is_some o) [] (last_of s.owed ks)) (unwrap_or o c) (between h (unwrap_or o c) s.last)) x.none
    ∙ ap (λ q. queue_from r q c (between h c s.last)) no_keys in
    let touched_now : touched_keys h r ≡ queue_from r [] c (between h c s.last) =
    ap (λ o. queue_from r [] (unwrap_or o c) (between h (unwrap_or o c) s.last)) x.none in
    let queue : command_queue h r ≡ command_queue h s = after ∙ moved ∙ before in
    let touched : touched_keys h r ≡ touched_keys h s = touched_now ∙ moved ∙ touched_then in
    record {
      mode = st.mode;
      kind = st.kind;
      key = st.key;
      last = st.last;
      owed = st.owed;
      ends = st.ends;
      based = omega (arith, st.based, x.above);
      behind = x.reached;
      within = st.within;
      first = st.first;
      enough = st.enough;
      cleared = sym x.none;
      keys = st.keys ∙ sym queue;
      rows = st.rows;
      marked = subst (λ t. AreMarked t b.queue) (sym touched) st.marked;
      waiting = st.waiting ∙ sym (ap length touched);
      listed = st.listed ∙ ap (λ o. cond (is_some o) 0 s.owed) is ∙ sym (ap (λ o. cond (is_some o) 0 s.owed) x.none ∙ none_owed);
      placed = λ k. omega (arith, x.reached, ap (λ o. unwrap_or o s.last) x.none);
    }
  where
    by_owed : (w : Bool) → nat_lt 0 s.owed ≡ w → s.owed ≡ 0
    by_owed false i = omega (arith, ltb-false 0 s.owed i)
    by_owed true i = no_end (sym t ∙ st.ends ∙ st.first (ltb-true 0 s.owed i))
      where
        no_end : false ≡ true → s.owed ≡ 0
        no_end e = cc

-- the turn of a key

first_part : (xs ys : List (List ℕ)) (k : List ℕ) → has_key (xs ++ ys) k ≡ false → has_key xs k ≡ false
first_part [] ys k h = refl
first_part (x ∷ xs) ys k h = let o = or_false (text_eq x k) (has_key (xs ++ ys) k) h in ap (λ v. v || has_key xs k) o.0 ∙ first_part xs ys k o.1

-- what is owed after the turn of its first key
owed_turned : (k : List ℕ) (n : ℕ) (ks q0 rest added : List (List ℕ)) → n ≤ length ks → q0 ≡ last_of n ks → k ∷ rest ≡ q0 ++ added → AreDistinct (k ∷ rest)
    → without_key k q0 ≡ last_of (n - 1) ks
owed_turned k n ks [] rest added enough is all d = sym (drop_all (length ks - (n - 1)) ks (omega (arith, enough, ap length is, length-drop (length ks - n) ks)))
owed_turned k n ks (x ∷ more) rest added enough is all d =
    let first : k ≡ x = ap (λ z. unwrap_or (slice_get z 0) k) all in
    let others : rest ≡ more ++ added = ap (drop 1) all in
    let e : AreDistinct (k ∷ more ++ added) = subst (λ z. AreDistinct (k ∷ z)) others d in
    ap (λ z. without_key k (z ∷ more)) (sym first)
    ∙ ap (λ v. cond v (without_key k more) (k ∷ without_key k more)) (text_eq_same k)
    ∙ without_none k more (first_part more added k e.0)
    ∙ ap (drop 1) is ∙ drop-drop 1 (length ks - n) ks
    ∙ ap (λ m. drop m ks) {x = length ks - n + 1} {y = length ks - (n - 1)} (omega (arith, enough, ap length is, length-drop (length ks - n) ks))

command_key : (b : Command) (s : Slot) (h : List Entry) (y : Queued) (ys : List Queued) → StandsCommand b s h → last_clear h s.cursor s.last ≡ None
    → b.queue ≡ y ∷ ys → StandsCommand (turn_passed b) (passed s (key_head b y)) h
command_key b s h y ys st is at =
    let k : List ℕ = y.key in
    let r : Slot = passed s (key_head b y) in
    let es : List Entry = between h s.cursor s.last in
    let ks : List (List ℕ) = map (λ x. x.key) (keyed s.plan.shape h s.plan.base) in
    let q0 : List (List ℕ) = last_of s.owed ks in
    let t : List (List ℕ) = touched_keys h s in
    let queue : command_queue h s ≡ queue_from s q0 s.cursor es =
    ap (λ o. queue_from s (cond (is_some o) [] q0) (unwrap_or o s.cursor) (between h (unwrap_or o s.cursor) s.last)) is in
    let queue_then : command_queue h r ≡ queue_from r (last_of r.owed ks) s.cursor es =
    ap (λ o. queue_from r (cond (is_some o) [] (last_of r.owed ks)) (unwrap_or o s.cursor) (between h (unwrap_or o s.cursor) s.last)) is in
    let touched : t ≡ queue_from s [] s.cursor es = ap (λ o. queue_from s [] (unwrap_or o s.cursor) (between h (unwrap_or o s.cursor) s.last)) is in
    let touched_then : touched_keys h r ≡ queue_from r [] s.cursor es =
    ap (λ o. queue_from r [] (unwrap_or o s.cursor) (between h (unwrap_or o s.cursor) s.last)) is in
    let heads : k ∷ keys_of ys ≡ command_queue h s = ap keys_of (sym at) ∙ st.keys in
    let distinct : AreDistinct (k ∷ keys_of ys) = subst AreDistinct (sym heads) (turns_distinct h s) in
    let long : s.cursor + length es ≤ b.last = omega (arith, between_length h s.cursor s.last st.within, st.behind, st.last) in
    let start = begins s q0 s.cursor es in
    let owed : without_key k q0 ≡ last_of r.owed ks = owed_turned k s.owed ks q0 (keys_of ys) start.0
    (omega (arith, st.enough, length-map (keyed s.plan.shape h s.plan.base) (λ x. x.key))) refl (heads ∙ queue ∙ start.1) distinct in
    let rest : command_queue h r ≡ keys_of ys =
    queue_then ∙ ap (λ q. queue_from r q s.cursor es) (sym owed) ∙ queue_turned s k b.last s.cursor q0 es long ∙ ap (without_key k) (sym queue ∙ sym heads)
    ∙ without_first k (keys_of ys) distinct in
    let gone : touched_keys h r ≡ without_key k t = touched_then ∙ queue_turned s k b.last s.cursor [] es long ∙ ap (without_key k) (sym touched) in
    let marks : AreMarked t (y ∷ ys) = subst (AreMarked t) at st.marked in
    record {
      mode = st.mode;
      kind = st.kind;
      key = st.key;
      last = st.last;
      owed = ap (λ n. n - 1) st.owed;
      ends = st.ends;
      based = st.based;
      behind = st.behind;
      within = st.within;
      first = λ some. st.first (omega (arith, some));
      enough = omega (arith, st.enough);
      cleared = st.cleared;
      keys = ap (λ q. keys_of (drop 1 q)) at ∙ sym rest;
      rows = subst (λ q. RowsOf (keyed s.plan.shape h s.last) (drop 1 q)) (sym at) (subst (RowsOf (keyed s.plan.shape h s.last)) at st.rows).1;
      marked = subst (λ q. AreMarked (touched_keys h r) (drop 1 q)) (sym at) (subst (λ z. AreMarked z ys) (sym gone)
          (marked_without t k ys distinct.0 marks.1));
      waiting = ap (λ q. b.waiting - first_waits q) at ∙ ap (λ n. n - (if y.touched then 1 else 0)) st.waiting
          ∙ ap (λ v. length t - (if v then 1 else 0)) marks.0
          ∙ sym (without_length k t (touched_distinct h s)) ∙ sym (ap length gone);
      listed = ap (λ n. n - 1) (st.listed ∙ ap (λ o. cond (is_some o) 0 s.owed) is) ∙ sym (ap (λ o. cond (is_some o) 0 (s.owed - 1)) is);
      placed = λ j. by_same j (text_eq k j);
    }
  where
    by_same : (j : List ℕ) (v : Bool) → cond v b.last (key_cursor s.key_cursors s.cursor j) ≤ unwrap_or (last_clear h s.cursor s.last) s.last
    by_same j true = omega (arith, st.last, ap (λ o. unwrap_or o s.last) is)
    by_same j false = st.placed j

key_from : (b : Command) (s : Slot) (h : List Entry) (t : Taken) (q : List Queued) → StandsCommand b s h → last_clear h s.cursor s.last ≡ None → b.queue ≡ q
    → option_map (key_head b) (slice_get q 0) ≡ Some t → StandsCommand (turn_passed b) (passed s t) h
key_from b s h t [] st is at tells = cc
key_from b s h t (y ∷ ys) st is at tells = subst (λ x. StandsCommand (turn_passed b) (passed s x) h) (ap (λ o. unwrap_or o t) tells)
    (command_key b s h y ys st is at)

ends_now : (e : Bool) (n : ℕ) → (e && (n == 0)) ≡ true → n ≡ 0
ends_now true n h = eqb-true n 0 h
ends_now false n h = cc

passed_unclear : (b : Command) (s : Slot) (h : List Entry) (t : Taken) (v : Bool) → StandsCommand b s h → last_clear h s.cursor s.last ≡ None
    → (b.ends && (b.owed == 0)) ≡ v
    → cond v (Some taken.EndOfSnapshot) (option_map (key_head b) (slice_get b.queue 0)) ≡ Some t
    → StandsCommand (cond v (command_ended b) (turn_passed b)) (passed s t) h
passed_unclear b s h t true st is i tells =
    subst (λ x. StandsCommand (command_ended b) (passed s x) h) (ap (λ o. unwrap_or o t) tells)
    (command_ended_stands b s h st (λ none. sym st.owed ∙ ends_now b.ends b.owed i))
passed_unclear b s h t false st is i tells = key_from b s h t b.queue st is refl tells

some_cond : {A : Type 0} (v : Bool) (x y t : A) → cond v (Some x) (Some y) ≡ Some t → cond v x y ≡ t
some_cond true x y t h = ap (λ o. unwrap_or o t) h
some_cond false x y t h = ap (λ o. unwrap_or o t) h

passed_from : (b : Command) (s : Slot) (h : List Entry) (t : Taken) (o : Option ℕ) → StandsCommand b s h → last_clear h s.cursor s.last ≡ o
    → command_head_of b o ≡ Some t → StandsCommand (command_passed_of b o) (passed s t) h
passed_from b s h t (Some c) st is tells =
    subst (λ x. StandsCommand (cond b.ends (command_ended b) (record b { cleared = None })) (passed s x) h)
    (some_cond b.ends taken.EndOfSnapshot (taken.Cleared c) t tells) (command_cleared b s h c b.ends st is refl)
passed_from b s h t None st is tells = passed_unclear b s h t (b.ends && (b.owed == 0)) st is refl tells

-- after a cut
pub command_stands_passed : (b : Command) (s : Slot) (h : List Entry) (t : Taken) → StandsCommand b s h → command_head b ≡ Some t
    → StandsCommand (command_passed b) (passed s t) h
command_stands_passed b s h t st tells = passed_from b s h t b.cleared st (sym st.cleared) tells

-- an event more

keyed-next : (p : Shape) (h : List Entry) (i : ℕ) (e : Entry) → take (i + 1) h ≡ take i h ++ e ∷ [] → keyed p h (i + 1) ≡ keyed_after p (keyed p h i) e.event
keyed-next p h i e next = ap (keyed_after_all p []) next ∙ all_append [] (take i h)
  where
    all_append : (ks : List KeyedRow) (es : List Entry) → keyed_after_all p ks (es ++ e ∷ []) ≡ keyed_after p (keyed_after_all p ks es) e.event
    all_append ks [] = refl
    all_append ks (x ∷ es) = all_append (keyed_after p ks x.event) es

placed_within : (s : Slot) (h : List Entry) → s.cursor ≤ s.last → s.last ≤ length h → unwrap_or (last_clear h s.cursor s.last) s.last ≤ s.last
placed_within s h low high = by_clear (last_clear h s.cursor s.last) refl
  where
    by_clear : (o : Option ℕ) → last_clear h s.cursor s.last ≡ o → unwrap_or o s.last ≤ s.last
    by_clear None is = omega arith
    by_clear (Some c) is = let x : ClearIn h s.cursor s.last c = last_clear_is h s.cursor s.last c low high is in x.reached

enqueued_each : (s : Slot) (q : List (List ℕ)) (n : ℕ) (event : Event) → queue_after (enqueued s) q n event ≡ queue_after s q n event
enqueued_each s q n Clear = refl
enqueued_each s q n (Update cells) = refl

-- a queue after one entry more
queue_next : (s : Slot) (h : List Entry) (q : List (List ℕ)) (from : ℕ) (e : Entry) → from ≤ s.last → s.last ≤ length h
    → take (s.last + 1) h ≡ take s.last h ++ e ∷ []
    → queue_from (enqueued s) q from (between h from (s.last + 1)) ≡ queue_after s (queue_from s q from (between h from s.last)) (s.last + 1) e.event
queue_next s h q from e low high next =
    let at : from + length (between h from s.last) ≡ s.last = omega (arith, between_length h from s.last high, low) in
    queue_as (enqueued s) s (enqueued_each s) q from (between h from (s.last + 1))
    ∙ ap (queue_from s q from) (between-next h from s.last e low high next)
    ∙ queue_from-append s q from (between h from s.last) (e ∷ [])
    ∙ ap (λ k. queue_after s (queue_from s q from (between h from s.last)) (k + 1) e.event) at

command_next : (b : Command) (s : Slot) (h : List Entry) (event : Event) (row : Option (List Value)) (e : Entry) → StandsCommand b s h → s.last < length h
    → take (s.last + 1) h ≡ take s.last h ++ e ∷ [] → event ≡ e.event
    → row ≡ key_row s.plan.shape (state.Command (keyed s.plan.shape h (s.last + 1))) event → StandsCommand (command_after b event row) (enqueued s) h
command_next b s h (Update cells) row e st more next is after =
    let p : Shape = s.plan.shape in
    let k : List ℕ = key_of p cells in
    let key : key_in b.key cells ≡ k = ap (λ n. key_in n cells) st.key in
    let lc : Option ℕ = last_clear h s.cursor s.last in
    let clear : last_clear h s.cursor (s.last + 1) ≡ lc = last_clear-next h s.cursor s.last e st.behind st.within next
    ∙ ap (clear_of lc (s.last + 1)) (sym is) in
    let from : ℕ = clear_or h s.cursor s.last in
    let low : from ≤ s.last = (since_within h s.cursor s.last st.behind st.within).1 in
    let before : key_cursor s.key_cursors s.cursor k < s.last + 1 = omega (arith, st.placed k, placed_within s h st.behind st.within) in
    let ks : List (List ℕ) = map (λ x. x.key) (keyed p h s.plan.base) in
    let grown : (q : List (List ℕ)) → queue_from (enqueued s) q from (between h from (s.last + 1)) ≡ with_key (queue_since h s q) k =
    λ q. queue_next s h q from e low st.within next ∙ ap (queue_after s (queue_since h s q) (s.last + 1)) (sym is)
    ∙ touched_before s (queue_since h s q) (s.last + 1) k before in
    let queue : command_queue h (enqueued s) ≡ with_key (command_queue h s) k =
    ap (λ o. queue_from (enqueued s) (cond (is_some o) [] (last_of s.owed ks)) (unwrap_or o s.cursor) (between h (unwrap_or o s.cursor) (s.last + 1))) clear
    ∙ grown (owed_keys h s) in
    let t : List (List ℕ) = touched_keys h s in
    let touched : touched_keys h (enqueued s) ≡ with_key t k =
    ap (λ o. queue_from (enqueued s) [] (unwrap_or o s.cursor) (between h (unwrap_or o s.cursor) (s.last + 1))) clear ∙ grown [] in
    let table : keyed p h (s.last + 1) ≡ keyed_after p (keyed p h s.last) (Update cells) =
    keyed-next p h s.last e next ∙ ap (keyed_after p (keyed p h s.last)) (sym is) in
    let new : Queued = record { key = k; row = row; touched = true } in
    let distinct : AreDistinct (keys_of b.queue) = subst AreDistinct (sym st.keys) (turns_distinct h s) in
    let rows : RowsOf (keyed p h (s.last + 1)) (with_queued b.queue new) =
    rows_queued (keyed p h s.last) (keyed p h (s.last + 1)) new b.queue (λ j other. ap (row_at j) table ∙ other_rows p (keyed p h s.last) cells j other) after
    distinct st.rows in
    let mark : is_touched b.queue k ≡ has_key t k = found_mark t k b.queue st.marked (λ none. not_touched (has_key t k) refl none) in
    subst (λ z. StandsCommand (key_touched b z row) (enqueued s) h) (sym key) (record {
      mode = st.mode;
      kind = st.kind;
      key = st.key;
      last = ap (λ n. n + 1) st.last;
      owed = st.owed;
      ends = st.ends;
      based = st.based;
      behind = omega (arith, st.behind);
      within = omega (arith, more);
      first = st.first;
      enough = st.enough;
      cleared = st.cleared ∙ sym clear;
      keys = keys_queued new b.queue ∙ ap (λ q. with_key q k) st.keys ∙ sym queue;
      rows = rows;
      marked = subst (λ z. AreMarked z (with_queued b.queue new)) (sym touched) (marked_queued t new b.queue refl distinct st.marked);
      waiting = ap (λ v. b.waiting + (if v then 0 else 1)) mark ∙ ap (λ n. n + (if has_key t k then 0 else 1)) st.waiting ∙ sym (with_length t k)
          ∙ sym (ap length touched);
      listed = st.listed ∙ sym (ap (λ o. cond (is_some o) 0 s.owed) clear);
      placed = λ j. subst (λ o. key_cursor s.key_cursors s.cursor j ≤ unwrap_or o (s.last + 1)) (sym clear)
          (grow (key_cursor s.key_cursors s.cursor j) s.last lc (st.placed j));
    })
  where
    grow : (a l : ℕ) (o : Option ℕ) → a ≤ unwrap_or o l → a ≤ unwrap_or o (l + 1)
    grow a l None low = omega (arith, low)
    grow a l (Some c) low = low

    not_touched : (v : Bool) → has_key (touched_keys h s) (key_of s.plan.shape cells) ≡ v → has_key (keys_of b.queue) (key_of s.plan.shape cells) ≡ false
        → v ≡ false
    not_touched false is none = refl
    not_touched true is none =
        sym (touched_turns h s (key_of s.plan.shape cells) is) ∙ ap (λ q. has_key q (key_of s.plan.shape cells)) (sym st.keys) ∙ none
command_next b s h Clear row e st more next is after =
    let to : ℕ = s.last + 1 in
    let ks : List (List ℕ) = map (λ x. x.key) (keyed s.plan.shape h s.plan.base) in
    let clear : last_clear h s.cursor to ≡ Some to = last_clear-next h s.cursor s.last e st.behind st.within next
    ∙ ap (clear_of (last_clear h s.cursor s.last) to) (sym is) in
    let none : between h to to ≡ [] = between_none h to to (omega arith) (omega (arith, more)) in
    let queue : command_queue h (enqueued s) ≡ [] =
    ap (λ o. queue_from (enqueued s) (cond (is_some o) [] (last_of s.owed ks)) (unwrap_or o s.cursor) (between h (unwrap_or o s.cursor) to)) clear
    ∙ ap (queue_from (enqueued s) [] to) none in
    let touched : touched_keys h (enqueued s) ≡ [] = ap (λ o. queue_from (enqueued s) [] (unwrap_or o s.cursor) (between h (unwrap_or o s.cursor) to)) clear
    ∙ ap (queue_from (enqueued s) [] to) none in
    record {
      mode = st.mode;
      kind = st.kind;
      key = st.key;
      last = ap (λ n. n + 1) st.last;
      owed = st.owed;
      ends = st.ends;
      based = st.based;
      behind = omega (arith, st.behind);
      within = omega (arith, more);
      first = st.first;
      enough = st.enough;
      cleared = ap (λ n. Some (n + 1)) st.last ∙ sym clear;
      keys = sym queue;
      rows = tt;
      marked = tt;
      waiting = sym (ap length touched);
      listed = sym (ap (λ o. cond (is_some o) 0 s.owed) clear);
      placed = λ j. subst (λ o. key_cursor s.key_cursors s.cursor j ≤ unwrap_or o to) (sym clear)
          (omega (arith, st.placed j, placed_within s h st.behind st.within));
    }

-- after an enqueue
pub command_stands_next : (b : Command) (s : Slot) (h : List Entry) (x : Stored) → StandsCommand b s h → IsNext s h x
    → StandsCommand (command_after b x.event x.after) (enqueued s) h
command_stands_next b s h x st next =
    command_next b s h x.event x.after next.entry st next.more next.next next.event
    (next.after ∙ ap (λ k. key_row s.plan.shape (state_in k s.plan.shape h (s.last + 1)) x.event) st.kind)
