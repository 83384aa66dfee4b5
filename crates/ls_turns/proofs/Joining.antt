-- What is kept of a round, as a slot joins, and as room is taken.
use Rattle.std.proofs.Common.{◌≡◌, ◌||◌, ℕ, suc, zero, ◌+◌, ◌-◌, ◌≤◌, ◌<◌, List, [], ◌∷◌, ◌++◌, length, map, max, set, get_or, replicate, refl, sym, ◌∙◌, ap}
use Rattle.std.proofs.Common.{arith, cond, Bool, true, false, Some, None, Option, subst, length-append, inl, inr}
use Rattle.std.specs.Prelude.{slice_get, ◌⊎◌}
use Rattle.std.specs.List.{list_any, range_with_len}
use Rattle.std.proofs.lemmas.List.{map-append, length_push, length-set, get_or-set_same, get_or-set_other, get_or_append_left, length-replicate}
use Rattle.std.proofs.lemmas.List.FromFn.{length-range_with_len}
use Rattle.std.proofs.lemmas.Option.{slice_get_within}
use Rattle.ls_links.specs.Chains.{In, Link, Chains, Apart, list_of, pushed}
use Rattle.ls_turns.specs.declared.row.Row.{Row}
use Rattle.ls_turns.specs.declared.row.SlotName.{SlotName}
use Rattle.ls_turns.specs.declared.slot_ref.SlotRef.{SlotRef}
use Rattle.ls_turns.specs.Round.{Seat, Round, is_named, Joins, has_slot}
use Rattle.ls_turns.specs.Seats.{is_name}
use Rattle.ls_turns.specs.Kept.{Table, IsOwn, IsTold, IsFree, IsKept, HasRoom, IsSound, links_of, round_of, seat_of, row_of, name_of, no_row}
use Rattle.ls_links.proofs.Members.{nothing_there, differs, map_agree_in, append_in_left, in_push, last_at, in_append, in_range, map_in}
use Rattle.ls_turns.proofs.Reading.{name_named}
use Rattle.ls_turns.proofs.Leaving.{is_name_same, name_is_itself}

-- a slot joins
abbrev pub entered : Table → SlotRef → ℕ → ℕ → List ℕ → ℕ → Table
entered t slot node v free places =
    record {
      chains = pushed 0 (record { node = node; value = v }) t.chains;
      rows = set t.rows v (record { slot = slot; node = node });
      free = free;
      spare = t.spare - 1;
      places = places;
    }

list_set : (ls : List (List Link)) (l : List Link) → length ls ≡ 1 → get_or (set ls 0 l) 0 [] ≡ l
list_set [] l e = absurd (omega (arith, e))
list_set (x ∷ ls) l e = refl

any_true : {A : Type 0} (p : A → Bool) (xs : List A) (i : ℕ) (x : A) → slice_get xs i ≡ Some x → p x ≡ true → list_any p xs ≡ true
any_true p [] i x h t = absurd (nothing_there x None refl h)
any_true p (y ∷ xs) zero x h t = let s : y ≡ x = cc in rw (ap p s ∙ t) refl
any_true p (y ∷ xs) (suc i) x h t = rw (any_true p xs i x h t) (or_true (p y))
  where
    or_true : (b : Bool) → (b || true) ≡ true
    or_true true = refl
    or_true false = refl

-- what a slot that joins meets
pub record Enters (t : Table) (look : SlotName → Option ℕ) (slot : SlotRef) (node v : ℕ) (free : List ℕ) (places : ℕ) : Type 0 where
  pub kept : IsKept t look
  pub last : t.free ≡ free ++ v ∷ []
  pub absent : has_slot slot.sub slot.place (round_of t) ≡ false
  pub apart : Apart (pushed 0 (record { node = node; value = v }) t.chains)
  pub greater : t.places ≤ places
  pub place : slot.place ≤ places

pub free_last : (t : Table) (look : SlotName → Option ℕ) → IsKept t look → (free : List ℕ) (v : ℕ) → t.free ≡ free ++ v ∷ [] → IsFree t v
free_last t look kept free v e = kept.free v (length free, ap (λ (xs : List ℕ). slice_get xs (length free)) e ∙ last_at free v)

entered_list : (t : Table) (look : SlotName → Option ℕ) → IsKept t look → (slot : SlotRef) (node v : ℕ) (free : List ℕ) (places : ℕ)
    → links_of (entered t slot node v free places) ≡ links_of t ++ record { node = node; value = v } ∷ []
entered_list t look kept slot node v free places = list_set t.chains.lists _ kept.lists

pub entered_view : (t : Table) (look : SlotName → Option ℕ) (slot : SlotRef) (node v : ℕ) (free : List ℕ) (places : ℕ)
    → Enters t look slot node v free places → Joins slot (round_of t) (round_of (entered t slot node v free places))
entered_view t look slot node v free places enters =
    let kept : IsKept t look = enters.kept in
    let f : IsFree t v = free_last t look kept free v enters.last in
    let row : Row = record { slot = slot; node = node } in
    let rows = set t.rows v row in
    let l : Link = record { node = node; value = v } in
    let same : map (seat_of rows) (links_of t) ≡ map (seat_of t.rows) (links_of t) =
    map_agree_in (seat_of rows) (seat_of t.rows) (links_of t)
    (λ m i. ap (λ (r : Row). record { node = m.node; value = m.value; slot = r.slot }) (get_or-set_other t.rows v m.value row no_row
    (λ e. f.unlinked m i e))) in
    let new : seat_of rows l ≡ record { node = node; value = v; slot = slot } =
    ap (λ (r : Row). record { node = node; value = v; slot = r.slot }) (get_or-set_same t.rows v row no_row f.within) in
    let all : map (seat_of rows) (links_of (entered t slot node v free places)) ≡ (round_of t).seats ++ record { node = node; value = v; slot = slot } ∷ [] =
    ap (map (seat_of rows)) (entered_list t look kept slot node v free places) ∙ map-append (seat_of rows) (links_of t) (l ∷ [])
    ∙ ap (λ (ss : List Seat). ss ++ seat_of rows l ∷ []) same ∙ ap (λ (s : Seat). (round_of t).seats ++ s ∷ []) new in
    record {
      seat = record { node = node; value = v; slot = slot };
      slot_is = refl;
      after = ap (λ (ss : List Seat). record { seats = ss; spare = t.spare - 1 })
          all;
    }

pub entered_sound : (t : Table) (look : SlotName → Option ℕ) (names most : ℕ) (slot : SlotRef) (node v : ℕ) (free : List ℕ) (places : ℕ)
    → Enters t look slot node v free places → HasRoom t names most → 0 < t.spare
    → (look' : SlotName → Option ℕ) → ((m : SlotName) → look' m ≡ cond (is_name (name_of slot) m) (Some v) (look m))
    → (names' most' : ℕ) → names ≤ names' + 1 → most ≤ most' → IsSound (entered t slot node v free places) look' names' most'
entered_sound t look names most slot node v free places enters room some look' after names' most' more cap =
    let kept : IsKept t look = enters.kept in
    let long : length t.free ≡ length free + 1 = ap length enters.last ∙ length_push free v in
    record {
      kept = record {
        lists = length-set t.chains.lists 0 _ ∙ kept.lists;
        apart = enters.apart;
        own = λ l m. own l m.0 (in_push (links_of t) new m.0 l (subst (λ (xs : List Link). slice_get xs m.0 ≡ Some l) listed m.1));
        told = λ m w g. told m w (is_name (name_of slot) m) refl (sym (after m) ∙ g);
        free = λ w m. freed w m;
        once = λ i j w a b. kept.once i j w (was_free i w a) (was_free j w b);
      };
      room = record {
        links = (let a : t.spare ≤ t.chains.spare = room.links in omega arith);
        names_spare = (let a : t.spare ≤ names = room.names_spare in omega arith);
        seats = (let a : t.spare ≤ length t.free = room.seats in omega arith);
        all = (
            let a : length t.free + length (links_of t) ≡ length t.rows = room.all in
            let b : length (links_of (entered t slot node v free places)) ≡ length (links_of t) + 1 = ap length listed ∙ length_push (links_of t) new in
            let c : length (set t.rows v row) ≡ length t.rows = length-set t.rows v row in
            omega arith
            );
        free_room = (
            let a : length t.rows ≤ most = room.free_room in
            let c : length (set t.rows v row) ≡ length t.rows = length-set t.rows v row in
            omega arith
            );
      };
    }
  where
    new : Link
    new = record { node = node; value = v }

    row : Row
    row = record { slot = slot; node = node }

    listed : links_of (entered t slot node v free places) ≡ links_of t ++ new ∷ []
    listed = entered_list t look enters.kept slot node v free places

    f : IsFree t v
    f = free_last t look enters.kept free v enters.last

    was_free : (i w : ℕ) → slice_get free i ≡ Some w → slice_get t.free i ≡ Some w
    was_free i w a = ap (λ (xs : List ℕ). slice_get xs i) enters.last ∙ append_in_left free (v ∷ []) i w a

    row_same : (w : ℕ) → (w ≡ v → ⊥) → row_of (set t.rows v row) w ≡ row_of t.rows w
    row_same w ne = get_or-set_other t.rows v w row no_row ne

    row_new : row_of (set t.rows v row) v ≡ row
    row_new = get_or-set_same t.rows v row no_row f.within

    rows_long : length (set t.rows v row) ≡ length t.rows
    rows_long = length-set t.rows v row

    other : (l : Link) → In (links_of t) l → (b : Bool) → is_name (name_of slot) (name_of (row_of t.rows l.value).slot) ≡ b → b ≡ false
    other l m true e =
        let s : name_of (row_of t.rows l.value).slot ≡ name_of slot = sym (is_name_same (name_of slot) (name_of (row_of t.rows l.value).slot) e) in
        absurd (differs (has_slot slot.sub slot.place (round_of t))
        (any_true (is_named slot.sub slot.place) (round_of t).seats m.0 (seat_of t.rows l) (map_in (seat_of t.rows) (links_of t) m.0 l m.1)
        (name_named (row_of t.rows l.value).slot slot.sub slot.place s))
        enters.absent)
    other l m false e = refl

    own : (l : Link) (i : ℕ) → (slice_get (links_of t) i ≡ Some l) ⊎ ((i ≡ length (links_of t)) × (new ≡ l)) → IsOwn (entered t slot node v free places) look' l
    own l i (inl a) =
        let o : IsOwn t look l = enters.kept.own l (i, a) in
        let r : row_of (set t.rows v row) l.value ≡ row_of t.rows l.value = row_same l.value (λ e. f.unlinked l (i, a) e) in
        let w : l.value < length t.rows = o.within in
        let n : name_of (row_of (set t.rows v row) l.value).slot ≡ name_of (row_of t.rows l.value).slot = ap (λ (x : Row). name_of x.slot) r in
        let low : (row_of t.rows l.value).slot.place ≤ t.places = o.low in
        let g : t.places ≤ places = enters.greater in
        let low' : (row_of t.rows l.value).slot.place ≤ places = omega arith in
        record {
          within = (let q : length (set t.rows v row) ≡ length t.rows = rows_long in omega arith);
          node = ap (λ (x : Row). x.node) r ∙ o.node;
          named = ap look' n ∙ after (name_of (row_of t.rows l.value).slot)
              ∙ ap (λ (b : Bool). cond b (Some v) (look (name_of (row_of t.rows l.value).slot))) (other l (i, a) (is_name (name_of slot) (name_of
              (row_of t.rows l.value).slot)) refl)
              ∙ o.named;
          low = subst (λ (x : Row). x.slot.place ≤ places) (sym r) low';
        }
    own l i (inr a) =
        subst (λ (k : Link). IsOwn (entered t slot node v free places) look' k) a.1
        (record {
          within = (let w : v < length t.rows = f.within in let q : length (set t.rows v row) ≡ length t.rows = rows_long in omega arith);
          node = ap (λ (x : Row). x.node) row_new;
          named = ap (λ (x : Row). look' (name_of x.slot)) row_new ∙ after (name_of slot) ∙ ap (λ (b : Bool). cond b (Some v) (look (name_of slot)))
              (name_is_itself (name_of slot));
          low = subst (λ (x : Row). x.slot.place ≤ places) (sym row_new) enters.place;
        })

    told : (m : SlotName) (w : ℕ) (b : Bool) → is_name (name_of slot) m ≡ b → cond b (Some v) (look m) ≡ Some w → IsTold (entered t slot node v free places) m w
    told m w true e p =
        let s : v ≡ w = cc in
        record {
          link = new;
          linked = subst (λ (xs : List Link). In xs new) (sym listed) (length (links_of t), last_at (links_of t) new);
          value = s;
          name = ap (λ (k : ℕ). name_of (row_of (set t.rows v row) k).slot) (sym s) ∙ ap (λ (x : Row). name_of x.slot) row_new ∙ is_name_same (name_of slot)
              m e;
        }
    told m w false e p =
        let old : IsTold t m w = enters.kept.told m w p in
        record {
          link = old.link;
          linked = subst (λ (xs : List Link). In xs old.link) (sym listed) (
            old.linked.0,
            append_in_left (links_of t) (new ∷ [])
                old.linked.0 old.link old.linked.1,
          );
          value = old.value;
          name = ap (λ (x : Row). name_of x.slot) (row_same w (λ q. f.unlinked old.link old.linked (old.value ∙ q))) ∙ old.name;
        }

    freed : (w : ℕ) → In free w → IsFree (entered t slot node v free places) w
    freed w m =
        let old : IsFree t w = enters.kept.free w (m.0, was_free m.0 w m.1) in
        let i : m.0 < length free = slice_get_within free m.0 w m.1 in
        let ne : v ≡ w → ⊥ = λ e.
        (let p : slice_get t.free (length free) ≡ Some w = ap (λ (xs : List ℕ). slice_get xs (length free)) enters.last ∙ last_at free v ∙ ap (λ
        (k : ℕ). Some k) e in
        let q : m.0 ≡ length free = enters.kept.once m.0 (length free) w (was_free m.0 w m.1) p in
        omega arith) in
        record {
          within = (let a : w < length t.rows = old.within in let q : length (set t.rows v row) ≡ length t.rows = rows_long in omega arith);
          unlinked = λ l a e. by_case l e old ne a.0 (in_push (links_of t) new a.0 l (subst (λ (xs : List Link). slice_get xs a.0 ≡ Some l) listed a.1));
        }
      where
        by_case : (l : Link) → l.value ≡ w → IsFree t w → (v ≡ w → ⊥) → (i : ℕ)
            → (slice_get (links_of t) i ≡ Some l) ⊎ ((i ≡ length (links_of t)) × (new ≡ l)) → ⊥
        by_case l e old ne i (inl a) = old.unlinked l (i, a) e
        by_case l e old ne i (inr a) = ne (ap (λ (k : Link). k.value) a.1 ∙ e)

-- two lists of which each has a number once, and none both have
split_place : (a b : List ℕ) (i w : ℕ) → slice_get (a ++ b) i ≡ Some w → (slice_get a i ≡ Some w) ⊎ ((k : ℕ) × (i ≡ length a + k) × (slice_get b k ≡ Some w))
split_place [] b i w h = inr (i, omega arith, h)
split_place (x ∷ a) b zero w h = inl h
split_place (x ∷ a) b (suc i) w h = by_case (split_place a b i w h)
  where
    by_case : (slice_get a i ≡ Some w) ⊎ ((k : ℕ) × (i ≡ length a + k) × (slice_get b k ≡ Some w))
        → (slice_get a i ≡ Some w) ⊎ ((k : ℕ) × (suc i ≡ length (x ∷ a) + k) × (slice_get b k ≡ Some w))
    by_case (inl p) = inl p
    by_case (inr p) = let e : i ≡ length a + p.0 = p.1 in inr (p.0, omega arith, p.2)

once_joined : (a b : List ℕ) → ((i j w : ℕ) → slice_get a i ≡ Some w → slice_get a j ≡ Some w → i ≡ j)
    → ((i j w : ℕ) → slice_get b i ≡ Some w → slice_get b j ≡ Some w → i ≡ j) → ((i j w : ℕ) → slice_get a i ≡ Some w → slice_get b j ≡ Some w → ⊥)
    → (i j w : ℕ) → slice_get (a ++ b) i ≡ Some w → slice_get (a ++ b) j ≡ Some w → i ≡ j
once_joined a b oa ob no_both i j w p q = by_cases (split_place a b i w p) (split_place a b j w q)
  where
    by_cases : (slice_get a i ≡ Some w) ⊎ ((k : ℕ) × (i ≡ length a + k) × (slice_get b k ≡ Some w))
        → (slice_get a j ≡ Some w) ⊎ ((k : ℕ) × (j ≡ length a + k) × (slice_get b k ≡ Some w)) → i ≡ j
    by_cases (inl x) (inl y) = oa i j w x y
    by_cases (inl x) (inr y) = absurd (no_both i y.0 w x y.2)
    by_cases (inr x) (inl y) = absurd (no_both j x.0 w y x.2)
    by_cases (inr x) (inr y) =
        let e : i ≡ length a + x.0 = x.1 in
        let f : j ≡ length a + y.0 = y.1 in
        let k : x.0 ≡ y.0 = ob x.0 y.0 w x.2 y.2 in
        omega arith

apart_lists : (c d : Chains) → d.lists ≡ c.lists → Apart c → Apart d
apart_lists c d e a = subst (λ (ls : List (List Link)). Apart (record { lists = ls; spare = d.spare })) (sym e) a

-- room is taken: there are more links and names to spare
pub roomier : (t : Table) (look : SlotName → Option ℕ) (names most : ℕ) → IsSound t look names most → (chains : Chains) → chains.lists ≡ t.chains.lists
    → t.chains.spare ≤ chains.spare → (look' : SlotName → Option ℕ) → ((m : SlotName) → look' m ≡ look m) → (names' most' : ℕ)
    → names ≤ names' → length t.rows ≤ most' → IsSound (record t { chains = chains }) look' names' most'
roomier t look names most sound chains lists spare look' same names' most' more cap =
    let kept : IsKept t look = sound.kept in
    let room : HasRoom t names most = sound.room in
    let is : list_of chains 0 ≡ links_of t = ap (λ (ls : List (List Link)). get_or ls 0 []) lists in
    record {
      kept = record {
        lists = ap length lists ∙ kept.lists;
        apart = apart_lists t.chains chains lists kept.apart;
        own = λ l m. (
            let o : IsOwn t look l = kept.own l (subst (λ (xs : List Link). In xs l) is m) in
            record { within = o.within; node = o.node; named = same (name_of (row_of t.rows l.value).slot) ∙ o.named; low = o.low }
            );
        told = λ m w g. (
            let o : IsTold t m w = kept.told m w (sym (same m) ∙ g) in
            record { link = o.link; linked = subst (λ (xs : List Link). In xs o.link) (sym is) o.linked; value = o.value; name = o.name }
            );
        free = λ w m. (
            let o : IsFree t w = kept.free w m in
            record { within = o.within; unlinked = λ l a e. o.unlinked l (subst (λ (xs : List Link). In xs l) is a) e }
            );
        once = kept.once;
      };
      room = record {
        links = (let a : t.spare ≤ t.chains.spare = room.links in omega arith);
        names_spare = (let a : t.spare ≤ names = room.names_spare in omega arith);
        seats = room.seats;
        all = ap (λ (xs : List Link). length t.free + length xs) is ∙ room.all;
        free_room = cap;
      };
    }

-- and more free seats
abbrev pub wider : Table → ℕ → ℕ → Table
wider t more spare = record t { rows = t.rows ++ replicate more no_row; free = t.free ++ range_with_len (length t.rows) more; spare = spare }

pub wider_sound : (t : Table) (look : SlotName → Option ℕ) (names most : ℕ) → IsSound t look names most → (more spare most' : ℕ) → spare ≤ t.chains.spare
    → spare ≤ names → spare ≤ length t.free + more → length (t.rows ++ replicate more no_row) ≤ most' → IsSound (wider t more spare) look names most'
wider_sound t look names most sound more spare most' a b d cap =
    let kept : IsKept t look = sound.kept in
    let rl : length (t.rows ++ replicate more no_row) ≡ length t.rows + more =
    length-append t.rows (replicate more no_row) ∙ ap (λ (n : ℕ). length t.rows + n) (length-replicate more no_row) in
    let fl : length (t.free ++ range_with_len (length t.rows) more) ≡ length t.free + more =
    length-append t.free (range_with_len (length t.rows) more) ∙ ap (λ (n : ℕ). length t.free + n) (length-range_with_len (length t.rows) more) in
    record {
      kept = record {
        lists = kept.lists;
        apart = kept.apart;
        own = λ l m. (
            let o : IsOwn t look l = kept.own l m in
            let w : l.value < length t.rows = o.within in
            let r : row_of (t.rows ++ replicate more no_row) l.value ≡ row_of t.rows l.value = get_or_append_left t.rows
            (replicate more no_row) no_row l.value w in
            record {
              within = omega arith;
              node = ap (λ (x : Row). x.node) r ∙ o.node;
              named = ap (λ (x : Row). look (name_of x.slot)) r ∙ o.named;
              low = subst (λ (x : Row). x.slot.place ≤ t.places) (sym r) o.low;
            }
            );
        told = λ m w g. (
            let o : IsTold t m w = kept.told m w g in
            let i : o.link.value < length t.rows = (kept.own o.link o.linked).within in
            let j : w < length t.rows = subst (λ (k : ℕ). k < length t.rows) o.value i in
            let r : row_of (t.rows ++ replicate more no_row) w ≡ row_of t.rows w = get_or_append_left t.rows (replicate more no_row) no_row w j in
            record { link = o.link; linked = o.linked; value = o.value; name = ap (λ (x : Row). name_of x.slot) r ∙ o.name }
            );
        free = λ w m. freed w (in_append t.free (range_with_len (length t.rows) more) w m);
        once = λ i j w x y. once_joined t.free (range_with_len (length t.rows) more) kept.once ranged apart_from i j w x y;
      };
      room = record {
        links = a;
        names_spare = b;
        seats = omega arith;
        all = (let q : length t.free + length (links_of t) ≡ length t.rows = sound.room.all in omega arith);
        free_room = cap;
      };
    }
  where
    ranged : (i j w : ℕ) → slice_get (range_with_len (length t.rows) more) i ≡ Some w → slice_get (range_with_len (length t.rows) more) j ≡ Some w → i ≡ j
    ranged i j w x y =
        let e : w ≡ length t.rows + i = (in_range (length t.rows) more i w x).0 in
        let f : w ≡ length t.rows + j = (in_range (length t.rows) more j w y).0 in
        omega arith

    apart_from : (i j w : ℕ) → slice_get t.free i ≡ Some w → slice_get (range_with_len (length t.rows) more) j ≡ Some w → ⊥
    apart_from i j w x y =
        let e : w < length t.rows = (sound.kept.free w (i, x)).within in
        let f : w ≡ length t.rows + j = (in_range (length t.rows) more j w y).0 in
        omega arith

    freed : (w : ℕ) → In t.free w ⊎ In (range_with_len (length t.rows) more) w → IsFree (wider t more spare) w
    freed w (inl m) =
        let o : IsFree t w = sound.kept.free w m in
        let i : w < length t.rows = o.within in
        let rl : length (t.rows ++ replicate more no_row) ≡ length t.rows + length (replicate more no_row) = length-append t.rows (replicate more no_row) in
        record { within = omega arith; unlinked = o.unlinked }
    freed w (inr m) =
        let r = in_range (length t.rows) more m.0 w m.1 in
        let e : w ≡ length t.rows + m.0 = r.0 in
        let i : m.0 < more = r.1 in
        let rl : length (t.rows ++ replicate more no_row) ≡ length t.rows + more =
        length-append t.rows (replicate more no_row) ∙ ap (λ (n : ℕ). length t.rows + n) (length-replicate more no_row) in
        record { within = omega arith; unlinked = λ l a q. (let x : l.value < length t.rows = (sound.kept.own l a).within in omega arith) }

pub wider_view : (t : Table) (look : SlotName → Option ℕ) → IsKept t look → (chains : Chains) → chains.lists ≡ t.chains.lists → (more spare : ℕ)
    → t.spare < spare
    → round_of (wider (record t { chains = chains }) more spare) ≡ record (round_of t) { spare = max t.spare spare }
wider_view t look kept chains lists more spare less =
    let rows = t.rows ++ replicate more no_row in
    let is : list_of chains 0 ≡ links_of t = ap (λ (ls : List (List Link)). get_or ls 0 []) lists in
    let m : max t.spare spare ≡ spare = omega arith in
    let same : map (seat_of rows) (list_of chains 0) ≡ (round_of t).seats =
    ap (map (seat_of rows)) is
    ∙ map_agree_in (seat_of rows) (seat_of t.rows) (links_of t)
    (λ l i. ap (λ (r : Row). record { node = l.node; value = l.value; slot = r.slot })
    (get_or_append_left t.rows (replicate more no_row) no_row l.value (kept.own l i).within)) in
    ap (λ (ss : List Seat). record { seats = ss; spare = spare }) same ∙ ap (λ (n : ℕ). record { seats = (round_of t).seats; spare = n }) (sym m)

pub range_push : (a n x : ℕ) → x ≡ a + n → range_with_len a n ++ x ∷ [] ≡ range_with_len a (suc n)
range_push a zero x e = let s : x ≡ a = omega arith in ap (λ (k : ℕ). k ∷ []) s
range_push a (suc n) x e = ap (λ (xs : List ℕ). a ∷ xs) (range_push (a + 1) n x (omega arith))

pub joins_from : (slot : SlotRef) (r r' q : Round) → r ≡ r' → Joins slot r q → Joins slot r' q
joins_from slot r r' q e j = subst (λ (x : Round). Joins slot x q) e j
