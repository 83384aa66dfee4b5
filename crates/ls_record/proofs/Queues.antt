-- The queue of keys of mode COMMAND, as they have their turns.
use Rattle.std.proofs.Common.{◌≡◌, ◌⊎◌, inl, inr, ℕ, suc, zero, ◌+◌, ◌-◌, ◌<◌, ◌≤◌, List, [], ◌∷◌, ◌++◌, length, map}
use Rattle.std.proofs.Common.{take, drop, refl, sym, ◌∙◌, ap, arith, Bool, true, false, not, ◌&&◌, ◌||◌, cond, subst}
use Rattle.std.proofs.Common.{Option, Some, None, is_some, min, nat_lt, nat_le, slice_get, unwrap_or, append_assoc}
use Rattle.std.proofs.Common.{append-nil}
use Rattle.std.proofs.lemmas.List.{drop-drop, length-drop, length-take}
use Rattle.std.proofs.lemmas.Bool.{leb-true, leb-false}
use Rattle.std.proofs.lemmas.Bool.Decides.{nat_tests}
use Rattle.ls_value.specs.Values.{text_eq}
use Rattle.ls_value.proofs.Rows.{text_eq_same, text_eq_true}
use Rattle.ls_event.specs.declared.event.Event.{Event}
use Rattle.ls_event.specs.declared.event.Event.TheVariants.{Update, Clear}
use Rattle.ls_event.specs.declared.event.Entry.{Entry}
use Rattle.ls_event.specs.declared.snapshot.KeyedRow.{KeyedRow}
use Rattle.ls_event.specs.History.{between}
use Rattle.ls_event.specs.Slots.{Slot}
use Rattle.ls_event.specs.Updates.{last_of, last_clear}
use Rattle.ls_event.specs.Keyed.{key_of, keyed}
use Rattle.ls_event.specs.CommandCuts.{has_key, key_cursor, queue_touched, queue_after, queue_from, command_queue}
use Rattle.ls_event.proofs.UpdatesBetween.{last_of_length}

-- the keys of the snapshot that are owed, where no Clear waits
abbrev pub snapshot_keys : List Entry → Slot → List (List ℕ)
snapshot_keys h s = last_of s.owed (map (λ (x : KeyedRow). x.key) (keyed s.plan.shape h s.plan.base))

-- then the queue begins with them
abbrev pub quiet_queue : List Entry → Slot → List (List ℕ)
quiet_queue h s = queue_from s (snapshot_keys h s) s.cursor (between h s.cursor s.last)

pub queue_is : (h : List Entry) (s : Slot) → last_clear h s.cursor s.last ≡ None → command_queue h s ≡ quiet_queue h s
queue_is h s none =
    ap (λ (c : Option ℕ). queue_from s (cond (is_some c) [] (snapshot_keys h s)) (unwrap_or c s.cursor) (between h (unwrap_or c s.cursor) s.last)) none

-- a slot after the turn of a key
abbrev pub after_turn : Slot → List ℕ → Slot
after_turn s k = record s { owed = s.owed - 1; key_cursors = record { key = k; cursor = s.last } ∷ s.key_cursors }

no_later : (last n : ℕ) → n ≤ last → nat_lt last n ≡ false
no_later last n le = grind (arith, nat_tests)

and_not : (b : Bool) → (b && not true) ≡ false
and_not true = refl
and_not false = refl

-- a key that had its turn isn't touched behind it, and the others are as they were
touched_first : (s : Slot) (k : List ℕ) (q : List (List ℕ)) (n : ℕ) (j : List ℕ) (v : Bool) → text_eq k j ≡ v → n ≤ s.last
    → queue_touched s (k ∷ q) n j ≡ k ∷ queue_touched (after_turn s k) q n j
touched_first s k q n j true same within =
    let here : ((nat_lt (key_cursor s.key_cursors s.cursor j) n) && not (has_key (k ∷ q) j)) ≡ false
    = ap (λ b. nat_lt (key_cursor s.key_cursors s.cursor j) n && not (b || has_key q j)) same ∙ and_not (nat_lt (key_cursor s.key_cursors s.cursor j) n) in
    let there : nat_lt (key_cursor (after_turn s k).key_cursors s.cursor j) n ≡ false =
    ap (λ b. nat_lt (cond b s.last (key_cursor s.key_cursors s.cursor j)) n) same ∙ no_later s.last n within in
    ap (λ b. cond b ((k ∷ q) ++ j ∷ []) (k ∷ q)) here ∙ sym (ap (λ b. k ∷ cond (b && not (has_key q j)) (q ++ j ∷ []) q) there)
touched_first s k q n j false other within =
    ap (λ b. cond (nat_lt (key_cursor s.key_cursors s.cursor j) n && not (b || has_key q j)) ((k ∷ q) ++ j ∷ []) (k ∷ q)) other
    ∙ by_test (nat_lt (key_cursor s.key_cursors s.cursor j) n && not (has_key q j))
    ∙ sym (ap (λ b. k ∷ cond (nat_lt (cond b s.last (key_cursor s.key_cursors s.cursor j)) n && not (has_key q j)) (q ++ j ∷ []) q) other)
  where
    by_test : (b : Bool) → cond b ((k ∷ q) ++ j ∷ []) (k ∷ q) ≡ k ∷ cond b (q ++ j ∷ []) q
    by_test true = refl
    by_test false = refl

after_first : (s : Slot) (k : List ℕ) (q : List (List ℕ)) (n : ℕ) (event : Event) → n ≤ s.last
    → queue_after s (k ∷ q) n event ≡ k ∷ queue_after (after_turn s k) q n event
after_first s k q n (Update cells) within = touched_first s k q n (key_of s.plan.shape cells) (text_eq k (key_of s.plan.shape cells)) refl within
after_first s k q n Clear within = refl

-- so the turn of the first takes it out of the queue
first_out : (s : Slot) (k : List ℕ) (q : List (List ℕ)) (n : ℕ) (es : List Entry) → length es ≤ s.last - n
    → queue_from s (k ∷ q) n es ≡ k ∷ queue_from (after_turn s k) q n es
first_out s k q n [] within = refl
first_out s k q n (e ∷ es) within =
    ap (λ x. queue_from s x (n + 1) es) (after_first s k q (n + 1) e.event (omega (arith, within)))
    ∙ first_out s k (queue_after (after_turn s k) q (n + 1) e.event) (n + 1) es (omega (arith, within))

-- a key that waits goes on waiting
has_appended : (q r : List (List ℕ)) (k : List ℕ) → has_key q k ≡ true → has_key (q ++ r) k ≡ true
has_appended [] r k has = absurd (let x : false ≡ true = has in cc)
has_appended (x ∷ q) r k has = by_test (text_eq x k) has (has_appended q r k)
  where
    by_test : (b : Bool) → (b || has_key q k) ≡ true → (has_key q k ≡ true → has_key (q ++ r) k ≡ true) → (b || has_key (q ++ r) k) ≡ true
    by_test true t more = refl
    by_test false t more = more t

has_touched : (s : Slot) (q : List (List ℕ)) (n : ℕ) (j k : List ℕ) → has_key q k ≡ true → has_key (queue_touched s q n j) k ≡ true
has_touched s q n j k has = by_test (nat_lt (key_cursor s.key_cursors s.cursor j) n && not (has_key q j))
  where
    by_test : (b : Bool) → has_key (cond b (q ++ j ∷ []) q) k ≡ true
    by_test true = has_appended q (j ∷ []) k has
    by_test false = has

has_after : (s : Slot) (q : List (List ℕ)) (n : ℕ) (event : Event) (k : List ℕ) → has_key q k ≡ true → has_key (queue_after s q n event) k ≡ true
has_after s q n (Update cells) k has = has_touched s q n (key_of s.plan.shape cells) k has
has_after s q n Clear k has = has

-- and where it stands in the queue twice, its turn leaves the rest
touched_same : (s : Slot) (k : List ℕ) (q : List (List ℕ)) (n : ℕ) (j : List ℕ) (v : Bool) → text_eq k j ≡ v → has_key q k ≡ true
    → queue_touched s q n j ≡ queue_touched (after_turn s k) q n j
touched_same s k q n j true same has =
    let e : k ≡ j = text_eq_true k j same in
    let f : has_key q j ≡ true = ap (has_key q) (sym e) ∙ has in
    let none : (b : Bool) → cond (b && not (has_key q j)) (q ++ j ∷ []) q ≡ q = λ b. ap (λ v. cond (b && not v) (q ++ j ∷ []) q) f
    ∙ ap (λ v. cond v (q ++ j ∷ []) q) (and_not b) in
    none (nat_lt (key_cursor s.key_cursors s.cursor j) n) ∙ sym (none (nat_lt (key_cursor (after_turn s k).key_cursors s.cursor j) n))
touched_same s k q n j false other has =
    sym (ap (λ b. cond (nat_lt (cond b s.last (key_cursor s.key_cursors s.cursor j)) n && not (has_key q j)) (q ++ j ∷ []) q) other)

after_same : (s : Slot) (k : List ℕ) (q : List (List ℕ)) (n : ℕ) (event : Event) → has_key q k ≡ true
    → queue_after s q n event ≡ queue_after (after_turn s k) q n event
after_same s k q n (Update cells) has = touched_same s k q n (key_of s.plan.shape cells) (text_eq k (key_of s.plan.shape cells)) refl has
after_same s k q n Clear has = refl

rest_same : (s : Slot) (k : List ℕ) (q : List (List ℕ)) (n : ℕ) (es : List Entry) → has_key q k ≡ true
    → queue_from s q n es ≡ queue_from (after_turn s k) q n es
rest_same s k q n [] has = refl
rest_same s k q n (e ∷ es) has =
    ap (λ x. queue_from s x (n + 1) es) (after_same s k q (n + 1) e.event has)
    ∙ rest_same s k (queue_after (after_turn s k) q (n + 1) e.event) (n + 1) es (has_after (after_turn s k) q (n + 1) e.event k has)

-- the first key that was touched has its turn
first_untouched : (s : Slot) (k : List ℕ) (n : ℕ) (j : List ℕ) (v : Bool) → text_eq k j ≡ v → n ≤ s.last
    → (v ≡ false → nat_lt (key_cursor s.key_cursors s.cursor j) n ≡ false) → queue_touched (after_turn s k) [] n j ≡ []
first_untouched s k n j true same within low =
    ap (λ b. cond (nat_lt (cond b s.last (key_cursor s.key_cursors s.cursor j)) n && true) (j ∷ []) []) same
    ∙ ap (λ b. cond (b && true) (j ∷ []) []) (no_later s.last n within)
first_untouched s k n j false other within low =
    ap (λ b. cond (nat_lt (cond b s.last (key_cursor s.key_cursors s.cursor j)) n && true) (j ∷ []) []) other
    ∙ ap (λ b. cond (b && true) (j ∷ []) []) (low refl)

touched_out : (s : Slot) (k : List ℕ) (rest : List (List ℕ)) (n : ℕ) (event : Event) (es : List Entry) → n + length es ≤ s.last
    → queue_from s (queue_after s [] n event) n es ≡ k ∷ rest
    → (queue_from s [] n es ≡ k ∷ rest → queue_from (after_turn s k) [] n es ≡ rest)
    → queue_from (after_turn s k) (queue_after (after_turn s k) [] n event) n es ≡ rest
touched_out s k rest n Clear es within is more = more is
touched_out s k rest n (Update cells) es within is more = by_test (nat_lt (key_cursor s.key_cursors s.cursor (key_of s.plan.shape cells)) n) refl is
  where
    here : (v : Bool) → text_eq k (key_of s.plan.shape cells) ≡ v → (v ≡ false → nat_lt (key_cursor s.key_cursors s.cursor (key_of s.plan.shape cells)) n
        ≡ false) → queue_touched (after_turn s k) [] n (key_of s.plan.shape cells) ≡ []
    here v e low = first_untouched s k n (key_of s.plan.shape cells) v e (omega (arith, within)) low

    by_test : (v : Bool) → nat_lt (key_cursor s.key_cursors s.cursor (key_of s.plan.shape cells)) n ≡ v
        → queue_from s (cond (v && true) (key_of s.plan.shape cells ∷ []) []) n es ≡ k ∷ rest
        → queue_from (after_turn s k) (queue_touched (after_turn s k) [] n (key_of s.plan.shape cells)) n es ≡ rest
    by_test false t is = ap (λ q. queue_from (after_turn s k) q n es) (here (text_eq k (key_of s.plan.shape cells)) refl (λ f. t)) ∙ more is
    by_test true t is =
        let out : key_of s.plan.shape cells ∷ queue_from (after_turn s (key_of s.plan.shape cells)) [] n es ≡ k ∷ rest =
        sym (first_out s (key_of s.plan.shape cells) [] n es (omega (arith, within))) ∙ is in
        let same : key_of s.plan.shape cells ≡ k = cc in
        let left : queue_from (after_turn s (key_of s.plan.shape cells)) [] n es ≡ rest = cc in
        let e : text_eq k (key_of s.plan.shape cells) ≡ true = ap (text_eq k) same ∙ text_eq_same k in
        ap (λ q. queue_from (after_turn s k) q n es) (here true e (λ f. absurd (let x : true ≡ false = f in cc)))
        ∙ subst (λ (j : List ℕ). queue_from (after_turn s j) [] n es ≡ rest) same left

front_out : (s : Slot) (k : List ℕ) (rest : List (List ℕ)) (n : ℕ) (es : List Entry) → length es ≤ s.last - n → queue_from s [] n es ≡ k ∷ rest
    → queue_from (after_turn s k) [] n es ≡ rest
front_out s k rest n [] within is = absurd (let x : [] ≡ k ∷ rest = is in cc)
front_out s k rest n (e ∷ es) within is = touched_out s k rest (n + 1) e.event es (omega (arith, within)) is
    (front_out s k rest (n + 1) es (omega (arith, within)))

-- a queue is longer by at most a key an entry
record Adds (s : Slot) (q : List (List ℕ)) (n : ℕ) (es : List Entry) : Type 0 where
  news : List (List ℕ)
  queue : queue_from s q n es ≡ q ++ news
  few : length news ≤ length es

adds_none : (s : Slot) (q : List (List ℕ)) (n : ℕ) (e : Entry) (es : List Entry) → Adds s q (n + 1) es → queue_after s q (n + 1) e.event ≡ q
    → Adds s q n (e ∷ es)
adds_none s q n e es a same = record { news = a.news; queue = ap (λ x. queue_from s x (n + 1) es) same ∙ a.queue; few = omega (arith, a.few) }

adds_one : (s : Slot) (q : List (List ℕ)) (n : ℕ) (e : Entry) (es : List Entry) (j : List ℕ) → Adds s (q ++ j ∷ []) (n + 1) es
    → queue_after s q (n + 1) e.event ≡ q ++ j ∷ [] → Adds s q n (e ∷ es)
adds_one s q n e es j a same =
    record { news = j ∷ a.news; queue = ap (λ x. queue_from s x (n + 1) es) same ∙ a.queue ∙ append_assoc q (j ∷ []) a.news; few = omega (arith, a.few) }

adds_touched : (s : Slot) (q : List (List ℕ)) (n : ℕ) (e : Entry) (es : List Entry) (event : Event) → e.event ≡ event
    → ((r : List (List ℕ)) → Adds s r (n + 1) es) → Adds s q n (e ∷ es)
adds_touched s q n e es Clear is more = adds_none s q n e es (more q) (ap (queue_after s q (n + 1)) is)
adds_touched s q n e es (Update cells) is more = by_test (nat_lt (key_cursor s.key_cursors s.cursor (key_of s.plan.shape cells)) (n + 1)
    && not (has_key q (key_of s.plan.shape cells))) refl
  where
    by_test : (b : Bool) → (nat_lt (key_cursor s.key_cursors s.cursor (key_of s.plan.shape cells)) (n + 1) && not (has_key q (key_of s.plan.shape cells))) ≡ b
        → Adds s q n (e ∷ es)
    by_test true t =
        adds_one s q n e es (key_of s.plan.shape cells) (more (q ++ key_of s.plan.shape cells ∷ []))
        (ap (queue_after s q (n + 1)) is ∙ ap (λ b. cond b (q ++ key_of s.plan.shape cells ∷ []) q) t)
    by_test false t = adds_none s q n e es (more q) (ap (queue_after s q (n + 1)) is ∙ ap (λ b. cond b (q ++ key_of s.plan.shape cells ∷ []) q) t)

adds : (s : Slot) (q : List (List ℕ)) (n : ℕ) (es : List Entry) → Adds s q n es
adds s q n [] = record { news = []; queue = sym (append-nil q); few = omega arith }
adds s q n (e ∷ es) = adds_touched s q n e es e.event refl (λ r. adds s r (n + 1) es)

-- the keys that wait: those owed and others, so many at most
pub record Waits (h : List Entry) (s : Slot) (n : ℕ) : Type 0 where
  pub news : List (List ℕ)
  pub queue : quiet_queue h s ≡ snapshot_keys h s ++ news
  pub few : s.owed + length news ≤ n

between_few : (h : List Entry) (p l : ℕ) → length (between h p l) ≤ l - p
between_few h p l = omega (arith, length-drop p (take l h), length-take l h)

pub waits : (h : List Entry) (s : Slot) → Waits h s (s.owed + s.last)
waits h s =
    let a = adds s (snapshot_keys h s) s.cursor (between h s.cursor s.last) in
    record { news = a.news; queue = a.queue; few = omega (arith, a.few, between_few h s.cursor s.last) }

pub waits_more : (h : List Entry) (s : Slot) (m n : ℕ) → m ≤ n → Waits h s m → Waits h s n
waits_more h s m n le w = record { news = w.news; queue = w.queue; few = omega (arith, w.few, le) }

-- what is owed behind a turn: none
keys_left : (keys : List (List ℕ)) (owed : ℕ) → last_of owed keys ≡ [] → last_of (owed - 1) keys ≡ []
keys_left keys owed none = empty (last_of (owed - 1) keys) (omega (arith, last_of_length (owed - 1) keys, last_of_length owed keys, ap length none))
  where
    empty : (xs : List (List ℕ)) → length xs ≡ 0 → xs ≡ []
    empty [] e = refl
    empty (x ∷ xs) e = absurd (omega (arith, e))

-- or what was owed without its first, or all of it where more are owed than there are
pub keys_next : (keys : List (List ℕ)) (owed : ℕ) (k : List ℕ) (rest : List (List ℕ)) → last_of owed keys ≡ k ∷ rest
    → (last_of (owed - 1) keys ≡ rest) ⊎ (last_of (owed - 1) keys ≡ k ∷ rest)
keys_next keys owed k rest is = by_test (nat_le owed (length keys)) refl
  where
    long : suc (length rest) ≡ min owed (length keys)
    long = sym (ap length is) ∙ last_of_length owed keys

    by_test : (b : Bool) → nat_le owed (length keys) ≡ b → (last_of (owed - 1) keys ≡ rest) ⊎ (last_of (owed - 1) keys ≡ k ∷ rest)
    by_test true t =
        let few : owed ≤ length keys = leb-true owed (length keys) t in
        inl (ap (λ n. drop n keys) {x = length keys - (owed - 1)} {y = length keys - owed + 1} (omega (arith, few, long))
        ∙ sym (drop-drop 1 (length keys - owed) keys) ∙ ap (drop 1) is)
    by_test false t =
        let many : length keys < owed = leb-false owed (length keys) t in
        inr (ap (λ n. drop n keys) {x = length keys - (owed - 1)} {y = length keys - owed} (omega (arith, many)) ∙ is)

-- after a turn fewer wait
pub record Less (h : List Entry) (s : Slot) (k : List ℕ) (n : ℕ) : Type 0 where
  pub rest : ℕ
  pub is : n ≡ suc rest
  pub waits : Waits h (after_turn s k) rest

less : (h : List Entry) (s : Slot) (k : List ℕ) (n : ℕ) (news : List (List ℕ)) → quiet_queue h (after_turn s k) ≡ snapshot_keys h (after_turn s k) ++ news
    → s.owed - 1 + length news < n → Less h s k n
less h s k zero news queue few = absurd (omega (arith, few))
less h s k (suc m) news queue few = record { rest = m; is = refl; waits = record { news = news; queue = queue; few = omega (arith, few) } }

-- by the keys that are owed
owed_less : (h : List Entry) (s : Slot) (k : List ℕ) (n : ℕ) (rest : List (List ℕ)) → length (between h s.cursor s.last) ≤ s.last - s.cursor
    → snapshot_keys h s ≡ k ∷ rest → Waits h s n → Less h s k n
owed_less h s k n rest within is w = by_next (keys_next (map (λ (x : KeyedRow). x.key) (keyed s.plan.shape h s.plan.base)) s.owed k rest is)
  where
    queue : queue_from s (k ∷ rest) s.cursor (between h s.cursor s.last) ≡ k ∷ rest ++ w.news
    queue = ap (λ q. queue_from s q s.cursor (between h s.cursor s.last)) (sym is) ∙ w.queue ∙ ap (λ q. q ++ w.news) is

    some : 1 ≤ s.owed
    some = omega (arith, sym (last_of_length s.owed (map (λ (x : KeyedRow). x.key) (keyed s.plan.shape h s.plan.base))) ∙ ap length is)

    by_next : (snapshot_keys h (after_turn s k) ≡ rest) ⊎ (snapshot_keys h (after_turn s k) ≡ k ∷ rest) → Less h s k n
    by_next (inl e) =
        let out : k ∷ queue_from (after_turn s k) rest s.cursor (between h s.cursor s.last) ≡ k ∷ rest ++ w.news =
        sym (first_out s k rest s.cursor (between h s.cursor s.last) within) ∙ queue in
        let left : queue_from (after_turn s k) rest s.cursor (between h s.cursor s.last) ≡ rest ++ w.news = cc in
        less h s k n w.news (ap (λ q. queue_from (after_turn s k) q s.cursor (between h s.cursor s.last)) e ∙ left ∙ sym (ap (λ q. q ++ w.news) e))
        (omega (arith, w.few, some))
    by_next (inr e) =
        let has : has_key (k ∷ rest) k ≡ true = ap (λ b. b || has_key rest k) (text_eq_same k) in
        less h s k n w.news
        (ap (λ q. queue_from (after_turn s k) q s.cursor (between h s.cursor s.last)) e
        ∙ sym (rest_same s k (k ∷ rest) s.cursor (between h s.cursor s.last) has) ∙ queue ∙ sym (ap (λ q. q ++ w.news) e)) (omega (arith, w.few, some))

touched_less : (h : List Entry) (s : Slot) (k : List ℕ) (n : ℕ) (rest : List (List ℕ)) → length (between h s.cursor s.last) ≤ s.last - s.cursor
    → snapshot_keys h s ≡ [] → queue_from s [] s.cursor (between h s.cursor s.last) ≡ k ∷ rest
    → s.owed + suc (length rest) ≤ n → Less h s k n
touched_less h s k n rest within none is few =
    let e : snapshot_keys h (after_turn s k) ≡ [] = keys_left (map (λ (x : KeyedRow). x.key) (keyed s.plan.shape h s.plan.base)) s.owed none in
    less h s k n rest
    (ap (λ q. queue_from (after_turn s k) q s.cursor (between h s.cursor s.last)) e ∙ front_out s k rest s.cursor (between h s.cursor s.last) within is
    ∙ sym (ap (λ q. q ++ rest) e)) (omega (arith, few))

pub turn_less : (h : List Entry) (s : Slot) (k : List ℕ) (n : ℕ) → slice_get (quiet_queue h s) 0 ≡ Some k → Waits h s n → Less h s k n
turn_less h s k n head w = by_keys (snapshot_keys h s) refl
  where
    by_news : (ns : List (List ℕ)) → w.news ≡ ns → snapshot_keys h s ≡ [] → slice_get ns 0 ≡ Some k → Less h s k n
    by_news [] at none first = absurd (let x : None ≡ Some k = first in cc)
    by_news (x ∷ rest) at none first =
        let same : x ≡ k = cc in
        touched_less h s k n rest (between_few h s.cursor s.last) none
        (ap (λ q. queue_from s q s.cursor (between h s.cursor s.last)) (sym none) ∙ w.queue ∙ ap (λ q. q ++ w.news) none ∙ at ∙ ap (λ y. y ∷ rest) same)
        (omega (arith, w.few, ap length at))

    by_keys : (ks : List (List ℕ)) → snapshot_keys h s ≡ ks → Less h s k n
    by_keys [] is = by_news w.news refl is (sym (ap (λ q. slice_get q 0) (w.queue ∙ ap (λ q. q ++ w.news) is)) ∙ head)
    by_keys (x ∷ rest) is =
        let first : Some x ≡ Some k = sym (ap (λ q. slice_get q 0) (w.queue ∙ ap (λ q. q ++ w.news) is)) ∙ head in
        let same : x ≡ k = cc in
        owed_less h s k n rest (between_few h s.cursor s.last) (is ∙ ap (λ y. y ∷ rest) same) w
