-- Watches of several items, of which one has seen more.
use Rattle.std.proofs.Common.{◌≡◌, ◌≢◌, ◌⊎◌, inl, inr, ℕ, zero, suc, ◌+◌, ◌^◌, ◌<◌, ◌≤◌, List, [], ◌∷◌, ◌++◌, length, set, get_or, refl, sym, ap, ◌∙◌}
use Rattle.std.proofs.Common.{subst, arith, Option, Some, None, IfSome, slice_get, length-set, length-append, take, append-nil}
use mathlib.Core.List.{IsPrefix}
use Rattle.atomic_table.specs.Seated.{TableId}
use Rattle.ls_value.specs.Each.{Each}
use Rattle.ls_event.specs.declared.event.Entry.{Entry}
use Rattle.ls_event.specs.declared.item.ItemDef.{ItemDef}
use Rattle.ls_live.specs.Live.{IsSeenOf, Pass}
use Rattle.ls_record.specs.Records.{Session}
use Rattle.ls_register.specs.Places.{Placed}
use Rattle.ls_register.specs.declared.told.Told.{Told}
use Rattle.ls_register.specs.declared.told.Told.TheVariants.{Gave}
use Rattle.ls_told.specs.Keeping.{KeepsTold}
use Rattle.ls_told.specs.Seen.{Watched, Testified, SeesMore, FitsWatch}
use Rattle.ls_event.specs.Publishes.{IsHistory}
use Rattle.ls_told.proofs.Watching.{sees_twice, sees_appended, keeps_seen}
use Rattle.ls_register.specs.declared.made.Made.TheVariants as made
use Rattle.ls_sight.specs.Sights.{IsOneItem, AreOneItems, SeesOf, SeesOn, MeetsPass, MeetEach, FitsAt, IsSight, GaveAt}
use Rattle.ls_sight.proofs.Shown.{entry_later}
use Rattle.ls_sight.proofs.Reading.{shape_found}

-- each place is the set one or another
pub by_place : (i k : ℕ) → (k ≡ i) ⊎ (k ≢ i)
by_place zero zero = inl refl
by_place zero (suc k) = inr (λ e. let x : suc k ≡ zero = e in omega (arith, x))
by_place (suc i) zero = inr (λ e. let x : zero ≡ suc i = e in omega (arith, x))
by_place (suc i) (suc k) = by_rest (by_place i k)
  where
    by_rest : (k ≡ i) ⊎ (k ≢ i) → (suc k ≡ suc i) ⊎ (suc k ≢ suc i)
    by_rest (inl e) = inl (ap suc e)
    by_rest (inr n) = inr (λ e. n (omega (arith, e)))

module _ {A : Type 0} where
  -- what stands at a place
  pub at_place : (l : List A) (i : ℕ) (a d : A) → i < length l → a ≡ get_or l i d → slice_get l i ≡ Some a
  at_place [] i a d low is = absurd (omega (arith, low))
  at_place (x ∷ xs) zero a d low is = ap (λ y. Some y) (sym is)
  at_place (x ∷ xs) (suc i) a d low is = at_place xs i a d (omega (arith, low)) is

  -- what stands after one was set
  pub set_there : (l : List A) (i : ℕ) (b : A) → i < length l → slice_get (set l i b) i ≡ Some b
  set_there [] i b low = absurd (omega (arith, low))
  set_there (x ∷ xs) zero b low = refl
  set_there (x ∷ xs) (suc i) b low = set_there xs i b (omega (arith, low))

  pub set_other : (l : List A) (i k : ℕ) (b : A) → k ≢ i → slice_get (set l i b) k ≡ slice_get l k
  set_other [] i k b other = refl
  set_other (x ∷ xs) zero zero b other = absurd (other refl)
  set_other (x ∷ xs) zero (suc k) b other = refl
  set_other (x ∷ xs) (suc i) zero b other = refl
  set_other (x ∷ xs) (suc i) (suc k) b other = set_other xs i k b (λ e. other (ap suc e))

  pub below_length : (l : List A) (k : ℕ) (a : A) → slice_get l k ≡ Some a → k < length l
  below_length [] k a is = absurd (let x : None ≡ Some a = is in cc)
  below_length (x ∷ xs) zero a is = omega arith
  below_length (x ∷ xs) (suc k) a is = omega (arith, below_length xs k a is)

  -- two lists of one length that agree at each place are equal
  pub same_lists : (l m : List A) → length l ≡ length m → ((k : ℕ) (a b : A) → slice_get l k ≡ Some a → slice_get m k ≡ Some b → a ≡ b) → l ≡ m
  same_lists [] [] count each = refl
  same_lists [] (y ∷ ys) count each = absurd (omega (arith, count))
  same_lists (x ∷ xs) [] count each = absurd (omega (arith, count))
  same_lists (x ∷ xs) (y ∷ ys) count each =
      ap (λ zs. x ∷ zs) (same_lists xs ys (omega (arith, count)) (λ k a b p q. each (suc k) a b p q))
      ∙ ap (λ z. z ∷ ys) (each zero x y refl refl)

  -- of each place
  pub each_of : (P : A → Type 0) (l : List A) → ((k : ℕ) (a : A) → k < length l → slice_get l k ≡ Some a → P a) → Each P l
  each_of P [] h = tt
  each_of P (x ∷ xs) h = (h zero x (omega arith) refl, each_of P xs (λ k a low is. h (suc k) a (omega (arith, low)) is))

-- a place below the next one is this one or below it
pub split_below : (k i : ℕ) → k < i + 1 → (k ≡ i) ⊎ (k < i)
split_below k i low = by_side (by_place i k)
  where
    by_side : (k ≡ i) ⊎ (k ≢ i) → (k ≡ i) ⊎ (k < i)
    by_side (inl e) = inl e
    by_side (inr n) = inr (less (by_order k i))
      where
        by_order : (k i : ℕ) → (k < i) ⊎ (i ≤ k)
        by_order zero zero = inr (omega arith)
        by_order zero (suc i) = inl (omega arith)
        by_order (suc k) zero = inr (omega arith)
        by_order (suc k) (suc i) = up (by_order k i)
          where
            up : (k < i) ⊎ (i ≤ k) → (suc k < suc i) ⊎ (suc i ≤ suc k)
            up (inl l) = inl (omega (arith, l))
            up (inr l) = inr (omega (arith, l))

        less : (k < i) ⊎ (i ≤ k) → k < i
        less (inl l) = l
        less (inr l) = absurd (n (omega (arith, l, low)))

-- more is seen by one of the watches
pub sees_set : (old ws : List Watched) (i : ℕ) (b : Watched) → i < length ws → ((w : Watched) → slice_get ws i ≡ Some w → SeesOn w b)
    → SeesMore old ws → SeesMore old (set ws i b)
sees_set old ws i b low more all = sees_twice old ws (set ws i b) all (λ k w is. by_side k w is (by_place i k))
  where
    by_side : (k : ℕ) (w : Watched) → slice_get ws k ≡ Some w → (k ≡ i) ⊎ (k ≢ i)
        → (v : Watched) × (slice_get (set ws i b) k ≡ Some v) × (v.item ≡ w.item) × (v.at ≡ w.at) × IsPrefix w.list v.list
    by_side k w is (inl e) =
        let m = more w (subst (λ (n : ℕ). slice_get ws n ≡ Some w) e is) in
        (b, subst (λ (n : ℕ). slice_get (set ws i b) n ≡ Some b) (sym e) (set_there ws i b low), m.item, m.at, m.list)
    by_side k w is (inr n) = (w, set_other ws i k b n ∙ is, refl, refl, ([], append-nil w.list))

-- so the watches stay of the same items
pub one_set : (ws vs : List Watched) (i : ℕ) (b : Watched) → i < length ws → ((w : Watched) → slice_get ws i ≡ Some w → SeesOn w b)
    → ((v : Watched) → slice_get vs i ≡ Some v → SeesOn v b) → AreOneItems ws vs → AreOneItems (set ws i b) (set vs i b)
one_set ws vs i b low more other one =
    record {
      count = length-set ws i b ∙ one.count ∙ sym (length-set vs i b);
      each = λ k w v p q. by_side k w v p q (by_place i k);
    }
  where
    by_side : (k : ℕ) (w v : Watched) → slice_get (set ws i b) k ≡ Some w → slice_get (set vs i b) k ≡ Some v → (k ≡ i) ⊎ (k ≢ i) → IsOneItem w v
    by_side k w v p q (inl e) =
        let x : Some b ≡ Some w = sym (subst (λ (n : ℕ). slice_get (set ws i b) n ≡ Some b) (sym e) (set_there ws i b low)) ∙ p in
        let y : Some b ≡ Some v = sym (subst (λ (n : ℕ). slice_get (set vs i b) n ≡ Some b) (sym e) (set_there vs i b (omega (arith, low, one.count)))) ∙ q in
        let left : b ≡ w = cc in
        let right : b ≡ v = cc in
        subst (λ (u : Watched). IsOneItem u v) left (subst (λ (u : Watched). IsOneItem b u) right (record { item = refl; at = refl; table = refl }))
    by_side k w v p q (inr n) = one.each k w v (sym (set_other ws i k b n) ∙ p) (sym (set_other vs i k b n) ∙ q)

-- the first ones are the same
abbrev pub FirstSame : ℕ → List Watched → List Watched → Type 0
FirstSame i ws vs = (k : ℕ) (w v : Watched) → k < i → slice_get ws k ≡ Some w → slice_get vs k ≡ Some v → w ≡ v

pub first_same : (ws vs : List Watched) (i : ℕ) (b : Watched) → i < length ws → i < length vs → FirstSame i ws vs → FirstSame (i + 1) (set ws i b) (set vs i b)
first_same ws vs i b low high first = λ k w v below p q. by_side k w v p q (split_below k i below)
  where
    by_side : (k : ℕ) (w v : Watched) → slice_get (set ws i b) k ≡ Some w → slice_get (set vs i b) k ≡ Some v → (k ≡ i) ⊎ (k < i) → w ≡ v
    by_side k w v p q (inl e) =
        let x : Some b ≡ Some w = sym (subst (λ (n : ℕ). slice_get (set ws i b) n ≡ Some b) (sym e) (set_there ws i b low)) ∙ p in
        let y : Some b ≡ Some v = sym (subst (λ (n : ℕ). slice_get (set vs i b) n ≡ Some b) (sym e) (set_there vs i b high)) ∙ q in
        let left : b ≡ w = cc in
        let right : b ≡ v = cc in
        sym left ∙ right
    by_side k w v p q (inr l) =
        let n : k ≢ i = (λ e. omega (arith, l, e)) in
        first k w v l (sym (set_other ws i k b n) ∙ p) (sym (set_other vs i k b n) ∙ q)

pub all_same : (ws vs : List Watched) (n : ℕ) → length ws ≡ length vs → length ws ≤ n → FirstSame n ws vs → ws ≡ vs
all_same ws vs n count low first = same_lists ws vs count (λ k a b p q. first k a b (omega (arith, low, below_length ws k a p)) p q)

-- the first ones are of the same items
abbrev pub FirstOne : ℕ → List Watched → List Watched → Type 0
FirstOne i ws vs = (k : ℕ) (w v : Watched) → k < i → slice_get ws k ≡ Some w → slice_get vs k ≡ Some v → IsOneItem w v

pub first_one : (ws vs : List Watched) (i : ℕ) → ((w v : Watched) → slice_get ws i ≡ Some w → slice_get vs i ≡ Some v → IsOneItem w v)
    → FirstOne i ws vs → FirstOne (i + 1) ws vs
first_one ws vs i this first = λ k w v below p q. by_side k w v p q (split_below k i below)
  where
    by_side : (k : ℕ) (w v : Watched) → slice_get ws k ≡ Some w → slice_get vs k ≡ Some v → (k ≡ i) ⊎ (k < i) → IsOneItem w v
    by_side k w v p q (inl e) = this w v (subst (λ (n : ℕ). slice_get ws n ≡ Some w) e p) (subst (λ (n : ℕ). slice_get vs n ≡ Some v) e q)
    by_side k w v p q (inr l) = first k w v l p q

pub all_one : (ws vs : List Watched) (n : ℕ) → length ws ≡ length vs → length ws ≤ n → FirstOne n ws vs → AreOneItems ws vs
all_one ws vs n count low first =
    record { count = count; each = λ k w v p q. first k w v (omega (arith, low, below_length ws k w p)) p q }

-- the first ones have seen what a pass has
abbrev pub FirstSee : ℕ → ℕ → List Entry → List Watched → Type 0
FirstSee i at h ws = (k : ℕ) (w : Watched) → k < i → slice_get ws k ≡ Some w → w.at ≡ at → IsPrefix h w.list

pub first_see : (ws : List Watched) (i at : ℕ) (h : List Entry) (b : Watched) → i < length ws → (b.at ≡ at → IsPrefix h b.list) → FirstSee i at h ws
    → FirstSee (i + 1) at h (set ws i b)
first_see ws i at h b low this first = λ k w below p there. by_side k w p there (split_below k i below)
  where
    by_side : (k : ℕ) (w : Watched) → slice_get (set ws i b) k ≡ Some w → w.at ≡ at → (k ≡ i) ⊎ (k < i) → IsPrefix h w.list
    by_side k w p there (inl e) =
        let x : Some b ≡ Some w = sym (subst (λ (n : ℕ). slice_get (set ws i b) n ≡ Some b) (sym e) (set_there ws i b low)) ∙ p in
        let same : b ≡ w = cc in
        subst (λ (u : Watched). u.at ≡ at → IsPrefix h u.list) same this there
    by_side k w p there (inr l) = first k w l (sym (set_other ws i k b (λ e. omega (arith, l, e))) ∙ p) there

pub all_see : (ws : List Watched) (n at : ℕ) (h : List Entry) → length ws ≤ n → FirstSee n at h ws → SeesOf at h ws
all_see ws n at h low first = λ k w p there. first k w (omega (arith, low, below_length ws k w p)) p there

-- the first ones fit
abbrev pub FirstFit : List ItemDef → ℕ → List Watched → Type 0
FirstFit config i ws = (k : ℕ) (w : Watched) → k < i → slice_get ws k ≡ Some w → FitsWatch config w

pub first_fit : (config : List ItemDef) (ws : List Watched) (i : ℕ) → FitsAt config i ws → FirstFit config i ws → FirstFit config (i + 1) ws
first_fit config ws i this first = λ k w below p. by_side k w p (split_below k i below)
  where
    by_side : (k : ℕ) (w : Watched) → slice_get ws k ≡ Some w → (k ≡ i) ⊎ (k < i) → FitsWatch config w
    by_side k w p (inl e) = this w (subst (λ (n : ℕ). slice_get ws n ≡ Some w) e p)
    by_side k w p (inr l) = first k w l p

pub each_fit : (config : List ItemDef) (ws : List Watched) (n : ℕ) → length ws ≤ n → FirstFit config n ws → Each (FitsWatch config) ws
each_fit config ws n low first = each_of (FitsWatch config) ws (λ k w below p. first k w (omega (arith, low, below)) p)

pub fits_seen : (config : List ItemDef) (w : Watched) → IsSeenOf config w → FitsWatch config w
fits_seen config w s =
    record {
      history = subst (λ p. IsHistory p w.list) (sym (shape_found config w.item s.def s.declared)) s.history;
      textual = s.textual;
    }

-- one watch more
pub sees_pushed : (old ws : List Watched) (w : Watched) → SeesMore old ws → SeesMore old (ws ++ w ∷ [])
sees_pushed old ws w all = sees_twice old ws (ws ++ w ∷ []) all (sees_appended ws w)

-- two lists of which each is a beginning of the other
pub prefix_both : (xs ys : List Entry) → IsPrefix xs ys → IsPrefix ys xs → xs ≡ ys
prefix_both xs ys p q =
    let more : length xs + length p.0 ≡ length ys = sym (length-append xs p.0) ∙ ap length p.1 in
    let back : length ys + length q.0 ≡ length xs = sym (length-append ys q.0) ∙ ap length q.1 in
    by_rest p.0 (omega (arith, more, back)) p.1
  where
    by_rest : (more : List Entry) → length more ≡ 0 → xs ++ more ≡ ys → xs ≡ ys
    by_rest [] none is = sym (append-nil xs) ∙ is
    by_rest (e ∷ more) none is = absurd (omega (arith, none))

-- two watches of one item, of which each took in the other
pub agreed : (w o w1 o2 : Watched) → IsOneItem w o → w1 ≡ record w { list = w1.list } → o2 ≡ record o { list = o2.list }
    → (w.at ≡ o.at → IsPrefix o.list w1.list) → (o.at ≡ w1.at → IsPrefix w1.list o2.list) → (o2.list ≡ o.list) ⊎ (o2.list ≡ w1.list) → w1 ≡ o2
agreed w o w1 o2 one mine theirs has back either =
    mine ∙ (ap (λ (v : Watched). record v { list = w1.list }) same_item ∙ (ap (λ h. record o { list = h }) (lists either) ∙ sym theirs))
  where
    there : o.at ≡ w1.at
    there = sym one.at ∙ ap (λ (v : Watched). v.at) (sym mine)

    lists : (o2.list ≡ o.list) ⊎ (o2.list ≡ w1.list) → w1.list ≡ o2.list
    lists (inl stays) = prefix_both w1.list o2.list (back there) (subst (λ (h : List Entry). IsPrefix h w1.list) (sym stays) (has one.at))
    lists (inr taken) = sym taken

    same_item : record w { list = [] } ≡ record o { list = [] }
    same_item =
        ap (λ n. record w { item = n; list = [] }) one.item
        ∙ (ap (λ n. record w { item = o.item; at = n; list = [] }) one.at
        ∙ ap (λ t. record w { item = o.item; at = o.at; table = t; list = [] }) one.table)

-- what stands at a place of entries stands there in more
entry_more : (es more : List Told) (i : ℕ) (e : Told) → slice_get es i ≡ Some e → slice_get (es ++ more) i ≡ Some e
entry_more [] more i e is = absurd (let x : None ≡ Some e = is in cc)
entry_more (x ∷ es) more zero e is = is
entry_more (x ∷ es) more (suc i) e is = entry_more es more i e is

pub gave_more : (es fs : List Told) (i : ℕ) → IsPrefix es fs → GaveAt es i → GaveAt fs i
gave_more es fs i p gave =
    record {
      epoch = gave.epoch;
      text = gave.text;
      tick = gave.tick;
      entry = subst (λ (l : List Told). slice_get l i ≡ Some (Gave gave.epoch gave.text gave.tick)) p.1 (entry_more es p.0 i _ gave.entry);
    }

pub longer : (es fs : List Told) → IsPrefix es fs → length es ≤ length fs
longer es fs p = let more : length es + length p.0 ≡ length fs = sym (length-append es p.0) ∙ ap length p.1 in omega (arith, more)

-- a sight that sees all that is kept of a session
pub sight_shown : (config : List ItemDef) (p : Placed) (t : Testified) (number : ℕ) (es : List Told) (ws : List Watched) (s : Session) → IsSight config p t
    → t.number ≡ number → IsPrefix t.lines es → length es ≤ 2 ^ 61 → KeepsTold config number es ws s
    → IsSight config p (record t { lines = es; later = es; watches = ws })
sight_shown config p t number es ws s sight named begins few told =
    record {
      later = ([], append-nil es);
      given = record {
        each = λ k place is. gave_more t.lines es place begins (sight.given.each k place is);
        few = omega (arith, sight.given.few, longer t.lines es begins);
      };
      few = few;
      shows = sight.shows;
      session = s;
      told = subst (λ (n : ℕ). KeepsTold config n es ws s) (sym named) told;
    }

-- one that has seen more of the items
pub sight_sees : (config : List ItemDef) (p : Placed) (t : Testified) (ws : List Watched) → IsSight config p t → SeesMore t.watches ws
    → Each (FitsWatch config) ws → IsSight config p (record t { watches = ws })
sight_sees config p t ws sight more fits =
    record {
      later = sight.later;
      given = record { each = sight.given.each; few = sight.given.few };
      few = sight.few;
      shows = sight.shows;
      session = sight.session;
      told = keeps_seen config t.number t.lines t.watches ws sight.session more fits sight.told;
    }

-- one that has seen more of the register
pub sight_placed : (config : List ItemDef) (p q : Placed) (t : Testified) → IsSight config p t → q.at ≡ p.at → IsPrefix p.list q.list
    → IsSight config q (record t { register = q.list })
sight_placed config p q t sight at begins =
    record {
      later = sight.later;
      given = record { each = sight.given.each; few = sight.given.few };
      few = sight.few;
      shows = record {
        entry = subst (λ (n : ℕ). slice_get q.list n ≡ Some (made.Session t.number t.table)) (sym at)
            (entry_later p.list q.list p.at (made.Session t.number t.table) begins sight.shows.entry);
      };
      session = sight.session;
      told = sight.told;
    }

-- a sight that sees all, as it is kept then
pub sight_to : (config : List ItemDef) (p : Placed) (t : Testified) (number : ℕ) (es : List Told) (ws : List Watched) (s : Session) (table : TableId)
    (lines later : List Told) → IsSight config p t → t.number ≡ number → IsPrefix t.lines es → length es ≤ 2 ^ 61 → KeepsTold config number es ws s
    → table ≡ t.table → lines ≡ es → later ≡ es
    → IsSight config p (record t { table = table; lines = lines; later = later; watches = ws })
sight_to config p t number es ws s table lines later sight named begins few told tables first second =
    subst (λ (x : TableId). IsSight config p (record t { table = x; lines = lines; later = later; watches = ws })) (sym tables)
    (subst (λ (h : List Told). IsSight config p (record t { lines = h; later = later; watches = ws })) (sym first)
    (subst (λ (h : List Told). IsSight config p (record t { lines = es; later = h; watches = ws })) (sym second)
    (sight_shown config p t number es ws s sight named begins few told)))

-- one more of the first ones
pub take_next : (xs : List Watched) (i : ℕ) (w : Watched) → slice_get xs i ≡ Some w → take (i + 1) xs ≡ take i xs ++ w ∷ []
take_next xs i w is = subst (λ (n : ℕ). take n xs ≡ take i xs ++ w ∷ []) {x = suc i} {y = i + 1} (omega arith) (at_suc xs i w is)
  where
    at_suc : (xs : List Watched) (i : ℕ) (w : Watched) → slice_get xs i ≡ Some w → take (suc i) xs ≡ take i xs ++ w ∷ []
    at_suc [] i w is = absurd (let x : None ≡ Some w = is in cc)
    at_suc (x ∷ xs) zero w is = let same : x ≡ w = cc in ap (λ (v : Watched). v ∷ []) same
    at_suc (x ∷ xs) (suc i) w is = ap (λ zs. x ∷ zs) (at_suc xs i w is)

-- the same of a pass that may know no place
pub see_next : (ws : List Watched) (i : ℕ) (b : Watched) → i < length ws → (o : Option Placed) (h : List Entry)
    → IfSome o (λ q. b.at ≡ q.at → IsPrefix h b.list) → IfSome o (λ q. FirstSee i q.at h ws) → IfSome o (λ q. FirstSee (i + 1) q.at h (set ws i b))
see_next ws i b low None h this first = tt
see_next ws i b low (Some q) h this first = first_see ws i q.at h b low this first

pub see_all : (ws : List Watched) (n : ℕ) → length ws ≤ n → (o : Option Placed) (h : List Entry) → IfSome o (λ q. FirstSee n q.at h ws)
    → IfSome o (λ q. SeesOf q.at h ws)
see_all ws n low None h first = tt
see_all ws n low (Some q) h first = all_see ws n q.at h low first

-- the first of a longer list stay
pub take_pushed : (n : ℕ) (xs ys : List Watched) (w : Watched) → take n xs ≡ ys → length ys ≡ n → take n (xs ++ w ∷ []) ≡ ys
take_pushed zero xs ys w is count = is
take_pushed (suc n) [] ys w is count = let none : length ys ≡ 0 = ap length (sym is) in absurd (omega (arith, none, count))
take_pushed (suc n) (x ∷ xs) [] w is count = absurd (let e : x ∷ take n xs ≡ [] = is in cc)
take_pushed (suc n) (x ∷ xs) (y ∷ ys) w is count =
    let e : x ∷ take n xs ≡ y ∷ ys = is in
    let first : x ≡ y = cc in
    let rest : take n xs ≡ ys = cc in
    ap (λ (z : Watched). z ∷ take n (xs ++ w ∷ [])) first ∙ ap (λ (l : List Watched). y ∷ l) (take_pushed n xs ys w rest (omega (arith, count)))

-- the first ones have met a pass, and the others are as before
abbrev pub FirstMeet : ℕ → Pass → List Watched → List Watched → Type 0
FirstMeet i p ws xs = (k : ℕ) (w v : Watched) → k < i → slice_get ws k ≡ Some w → slice_get xs k ≡ Some v → MeetsPass p w v

abbrev pub OthersStay : ℕ → List Watched → List Watched → Type 0
OthersStay i ws xs = (k : ℕ) → i ≤ k → slice_get xs k ≡ slice_get ws k

pub meet_next : (p : Pass) (ws xs : List Watched) (i : ℕ) (b : Watched) → i < length xs
    → ((w : Watched) → slice_get xs i ≡ Some w → MeetsPass p w b) → FirstMeet i p ws xs → OthersStay i ws xs
    → FirstMeet (i + 1) p ws (set xs i b)
meet_next p ws xs i b low this first stay = λ k w v below was is. by_side k w v was is (split_below k i below)
  where
    by_side : (k : ℕ) (w v : Watched) → slice_get ws k ≡ Some w → slice_get (set xs i b) k ≡ Some v → (k ≡ i) ⊎ (k < i) → MeetsPass p w v
    by_side k w v was is (inl e) =
        let x : Some b ≡ Some v = sym (subst (λ (n : ℕ). slice_get (set xs i b) n ≡ Some b) (sym e) (set_there xs i b low)) ∙ is in
        let same : b ≡ v = cc in
        subst (λ (y : Watched). MeetsPass p w y) same (this w (stay i (omega arith) ∙ (ap (λ (n : ℕ). slice_get ws n) (sym e) ∙ was)))
    by_side k w v was is (inr l) = first k w v l was (sym (set_other xs i k b (λ e. omega (arith, l, e))) ∙ is)

pub stay_next : (ws xs : List Watched) (i : ℕ) (b : Watched) → OthersStay i ws xs → OthersStay (i + 1) ws (set xs i b)
stay_next ws xs i b stay = λ k far. set_other xs i k b (λ e. omega (arith, far, e)) ∙ stay k (omega (arith, far))

pub all_meet : (p : Pass) (ws xs : List Watched) (n : ℕ) → length xs ≤ n → length xs ≡ length ws → FirstMeet n p ws xs → MeetEach p ws xs
all_meet p ws xs n low count first =
    record { count = count; each = λ k w v was is. first k w v (omega (arith, low, below_length xs k v is)) was is }
