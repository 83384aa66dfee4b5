-- A register that grows: its sessions, the live ones, and the slots that are claimed.
use Rattle.std.proofs.Common.{◌≡◌, ℕ, ◌+◌, ◌≤◌, ◌==◌, List, [], ◌∷◌, ◌++◌, length, Bool, true, false, not, ◌||◌, ◌&&◌, cond}
use Rattle.std.proofs.Common.{refl, sym, ◌∙◌, ap, subst, arith, length-append, append-nil}
use Rattle.std.specs.List.{filter}
use Rattle.std.proofs.lemmas.Bool.{eqb-true}
use Rattle.std.proofs.lemmas.List.Elements.{filter-append}
use mathlib.Core.List.{IsPrefix}
use Rattle.atomic_table.specs.Seated.{TableId}
use Rattle.ls_value.specs.Each.{Each}
use Rattle.ls_event.specs.declared.limits.TheConstants.{MOST_SLOTS}
use Rattle.ls_register.specs.declared.made.Made.{Made}
use Rattle.ls_register.specs.declared.made.Made.TheVariants.{Item, Session, Slot, Gone, Claimed, Freed}
use Rattle.ls_register.specs.Items.{items_of}
use Rattle.ls_register.specs.Sessions.{sessions_of, is_gone, live_of, is_live, is_among, claims_of, frees_of, claimed_of, IsCounted}
use Rattle.ls_register.proofs.Rising.{each_append, each_as, each_first, each_filter, among_above, same_as, not_same}

pub sessions_append : (xs ys : List Made) → sessions_of (xs ++ ys) ≡ sessions_of xs ++ sessions_of ys
sessions_append [] ys = refl
sessions_append (Item i f k o ∷ xs) ys = sessions_append xs ys
sessions_append (Session s o ∷ xs) ys = ap (λ l. s ∷ l) (sessions_append xs ys)
sessions_append (Slot i s o ∷ xs) ys = sessions_append xs ys
sessions_append (Gone s ∷ xs) ys = sessions_append xs ys
sessions_append (Claimed n ∷ xs) ys = sessions_append xs ys
sessions_append (Freed n ∷ xs) ys = sessions_append xs ys

or_assoc : (a b c : Bool) → (a || (b || c)) ≡ ((a || b) || c)
or_assoc true b c = refl
or_assoc false b c = refl

or_none : (a : Bool) → (a || false) ≡ a
or_none true = refl
or_none false = refl

gone_append : (xs ys : List Made) (n : ℕ) → is_gone (xs ++ ys) n ≡ (is_gone xs n || is_gone ys n)
gone_append [] ys n = refl
gone_append (Item i f k o ∷ xs) ys n = gone_append xs ys n
gone_append (Session s o ∷ xs) ys n = gone_append xs ys n
gone_append (Slot i s o ∷ xs) ys n = gone_append xs ys n
gone_append (Gone s ∷ xs) ys n =
    ap (λ b. (s == n) || b) (gone_append xs ys n) ∙ or_assoc (s == n) (is_gone xs n) (is_gone ys n)
gone_append (Claimed m ∷ xs) ys n = gone_append xs ys n
gone_append (Freed m ∷ xs) ys n = gone_append xs ys n

claims_append : (xs ys : List Made) → claims_of (xs ++ ys) ≡ claims_of xs + claims_of ys
claims_append [] ys = omega arith
claims_append (Item i f k o ∷ xs) ys = claims_append xs ys
claims_append (Session s o ∷ xs) ys = claims_append xs ys
claims_append (Slot i s o ∷ xs) ys = claims_append xs ys
claims_append (Gone s ∷ xs) ys = claims_append xs ys
claims_append (Claimed m ∷ xs) ys = omega (arith, claims_append xs ys)
claims_append (Freed m ∷ xs) ys = claims_append xs ys

frees_append : (xs ys : List Made) → frees_of (xs ++ ys) ≡ frees_of xs + frees_of ys
frees_append [] ys = omega arith
frees_append (Item i f k o ∷ xs) ys = frees_append xs ys
frees_append (Session s o ∷ xs) ys = frees_append xs ys
frees_append (Slot i s o ∷ xs) ys = frees_append xs ys
frees_append (Gone s ∷ xs) ys = frees_append xs ys
frees_append (Claimed m ∷ xs) ys = frees_append xs ys
frees_append (Freed m ∷ xs) ys = omega (arith, frees_append xs ys)

-- no item more
pub items_stay : (ms : List Made) (m : Made) → items_of (m ∷ []) ≡ [] → items_of (ms ++ m ∷ []) ≡ items_of ms
items_stay [] m none = none
items_stay (Item i f k o ∷ ms) m none =
    ap (λ l. record { item = i; fields = f; kind = k } ∷ l) (items_stay ms m none)
items_stay (Session s o ∷ ms) m none = items_stay ms m none
items_stay (Slot i s o ∷ ms) m none = items_stay ms m none
items_stay (Gone s ∷ ms) m none = items_stay ms m none
items_stay (Claimed n ∷ ms) m none = items_stay ms m none
items_stay (Freed n ∷ ms) m none = items_stay ms m none

filter_same : (f g : ℕ → Bool) (ns : List ℕ) → ((n : ℕ) → f n ≡ g n) → filter f ns ≡ filter g ns
filter_same f g [] same = refl
filter_same f g (n ∷ ns) same = λ i. cond (same n i) (n ∷ filter_same f g ns same i) (filter_same f g ns same i)

-- a filter of a filter
filter_both : (f g h : ℕ → Bool) (ns : List ℕ) → ((n : ℕ) → f n ≡ (g n && h n)) → filter f ns ≡ filter h (filter g ns)
filter_both f g h [] both = refl
filter_both f g h (n ∷ ns) both = by_test (g n) refl (filter_both f g h ns both)
  where
    by_test : (b : Bool) → g n ≡ b → filter f ns ≡ filter h (filter g ns)
        → cond (f n) (n ∷ filter f ns) (filter f ns) ≡ filter h (cond b (n ∷ filter g ns) (filter g ns))
    by_test true t rest =
        let is : f n ≡ h n = both n ∙ ap (λ b. b && h n) t in
        λ i. cond (is i) (n ∷ rest i) (rest i)
    by_test false t rest =
        ap (λ b. cond b (n ∷ filter f ns) (filter f ns)) (both n ∙ ap (λ b. b && h n) t) ∙ rest

-- an entry that makes no session, and of which none is gone
pub live_stays : (ms : List Made) (m : Made) → sessions_of (m ∷ []) ≡ [] → ((n : ℕ) → is_gone (m ∷ []) n ≡ false)
    → live_of (ms ++ m ∷ []) ≡ live_of ms
live_stays ms m none here =
    ap (filter (λ n. not (is_gone (ms ++ m ∷ []) n)))
    (sessions_append ms (m ∷ []) ∙ (ap (λ l. sessions_of ms ++ l) none ∙ append-nil (sessions_of ms)))
    ∙ filter_same (λ n. not (is_gone (ms ++ m ∷ []) n)) (λ n. not (is_gone ms n)) (sessions_of ms)
    (λ n. ap not (gone_append ms (m ∷ []) n ∙ (ap (λ b. is_gone ms n || b) (here n) ∙ or_none (is_gone ms n))))

-- a session that is made lives
pub live_made : (ms : List Made) (n : ℕ) (o : TableId) → is_gone ms n ≡ false
    → live_of (ms ++ Session n o ∷ []) ≡ live_of ms ++ n ∷ []
live_made ms n o new =
    let f : ℕ → Bool = λ k. not (is_gone ms k) in
    ap (filter (λ k. not (is_gone (ms ++ Session n o ∷ []) k))) (sessions_append ms (Session n o ∷ []))
    ∙ (filter_same (λ k. not (is_gone (ms ++ Session n o ∷ []) k)) f (sessions_of ms ++ n ∷ [])
    (λ k. ap not (gone_append ms (Session n o ∷ []) k ∙ or_none (is_gone ms k)))
    ∙ (filter-append f (sessions_of ms) (n ∷ [])
    ∙ ap (λ b. filter f (sessions_of ms) ++ cond (not b) (n ∷ []) []) new))

bool_apart : true ≡ false → ⊥
bool_apart p = absurd cc

eqb_sym : (m n : ℕ) → (m == n) ≡ (n == m)
eqb_sym m n = by_test (m == n) refl
  where
    by_test : (b : Bool) → (m == n) ≡ b → (m == n) ≡ (n == m)
    by_test true t = t ∙ sym (same_as n m (sym (eqb-true m n t)))
    by_test false t = t ∙ sym (not_same n m (λ is. bool_apart (sym (same_as m n (sym is)) ∙ t)))

-- one that is gone doesn't
pub live_gone : (ms : List Made) (n : ℕ) → live_of (ms ++ Gone n ∷ []) ≡ filter (λ m. not (m == n)) (live_of ms)
live_gone ms n =
    ap (filter (λ k. not (is_gone (ms ++ Gone n ∷ []) k)))
    (sessions_append ms (Gone n ∷ []) ∙ append-nil (sessions_of ms))
    ∙ filter_both (λ k. not (is_gone (ms ++ Gone n ∷ []) k)) (λ k. not (is_gone ms k)) (λ k. not (k == n))
    (sessions_of ms)
    (λ k. ap not (gone_append ms (Gone n ∷ []) k) ∙ (nor (is_gone ms k) ((n == k) || false)
    ∙ ap (λ b. not (is_gone ms k) && not b) (or_none (n == k) ∙ eqb_sym n k)))
  where
    nor : (a b : Bool) → not (a || b) ≡ (not a && not b)
    nor true b = refl
    nor false b = refl

-- the counts behind an entry that makes no session, and of which none is gone
pub counted_other : (made claimed now entries more : ℕ) (live : List ℕ) (ms list : List Made) (m : Made)
    → IsCounted made claimed entries live ms → list ≡ ms ++ m ∷ [] → sessions_of (m ∷ []) ≡ []
    → ((n : ℕ) → is_gone (m ∷ []) n ≡ false) → claimed + claims_of (m ∷ []) ≡ now + frees_of (m ∷ []) → now ≤ MOST_SLOTS
    → more ≡ entries + 1 → IsCounted made now more live list
counted_other made claimed now entries more live ms list m c is none here balance few one =
    let same : sessions_of list ≡ sessions_of ms =
    ap sessions_of is ∙ (sessions_append ms (m ∷ []) ∙ (ap (λ l. sessions_of ms ++ l) none ∙ append-nil (sessions_of ms))) in
    record {
      live_is = c.live_is ∙ sym (ap live_of is ∙ live_stays ms m none here);
      below = subst (Each (λ n. n ≤ made)) (sym same) c.below;
      made_is = c.made_is ∙ ap length (sym same);
      gone = λ n above. ap (λ l. is_gone l n) is ∙ (gone_append ms (m ∷ []) n
          ∙ (ap (λ b. is_gone ms n || b) (here n) ∙ (or_none (is_gone ms n) ∙ c.gone n above)));
      claims = omega (arith, c.claims, balance, ap claims_of is, ap frees_of is, claims_append ms (m ∷ []), frees_append ms (m ∷ []));
      few = few;
      entries_is = omega (arith, one, c.entries_is, ap length is, length-append ms (m ∷ []));
    }

-- behind a session that is made
pub counted_made : (made next claimed entries more : ℕ) (live rows : List ℕ) (ms list : List Made) (o : TableId)
    → IsCounted made claimed entries live ms → list ≡ ms ++ Session next o ∷ [] → next ≡ made + 1 → rows ≡ live ++ next ∷ []
    → more ≡ entries + 1 → IsCounted next claimed more rows list
counted_made made next claimed entries more live rows ms list o c is n_is rows_is one =
    let same : sessions_of list ≡ sessions_of ms ++ next ∷ [] = ap sessions_of is ∙ sessions_append ms (Session next o ∷ []) in
    record {
      live_is = rows_is ∙ (ap (λ l. l ++ next ∷ []) c.live_is
          ∙ sym (ap live_of is ∙ live_made ms next o (c.gone next (omega (arith, n_is)))));
      below = subst (Each (λ n. n ≤ next)) (sym same)
          (each_append (λ n. n ≤ next) (sessions_of ms) (next ∷ [])
          (each_as (λ n. n ≤ made) (λ n. n ≤ next) (sessions_of ms) (λ n low. omega (arith, low, n_is)) c.below)
          (omega arith, tt));
      made_is = omega (arith, n_is, c.made_is, ap length same, length-append (sessions_of ms) (next ∷ []));
      gone = λ n above. ap (λ l. is_gone l n) is ∙ (gone_append ms (Session next o ∷ []) n
          ∙ (or_none (is_gone ms n) ∙ c.gone n (omega (arith, above, n_is))));
      claims = omega (arith, c.claims, ap claims_of is, ap frees_of is, claims_append ms (Session next o ∷ []), frees_append ms (Session next o ∷ []));
      few = c.few;
      entries_is = omega (arith, one, c.entries_is, ap length is, length-append ms (Session next o ∷ []));
    }

-- one among those below a number is below it
among_low : (ns : List ℕ) (n made : ℕ) → Each (λ k. k ≤ made) ns → is_among n ns ≡ true → n ≤ made
among_low [] n made e is = absurd cc
among_low (m ∷ ns) n made e is = by_test (m == n) refl is (among_low ns n made e.1)
  where
    by_test : (b : Bool) → (m == n) ≡ b → (b || is_among n ns) ≡ true → (is_among n ns ≡ true → n ≤ made) → n ≤ made
    by_test true t u rest = let same : m ≡ n = eqb-true m n t in omega (arith, same, e.0)
    by_test false t u rest = rest u

-- a live session was made
live_made_before : (made : ℕ) (ms : List Made) (n : ℕ) → Each (λ k. k ≤ made) (sessions_of ms) → is_live ms n ≡ true → n ≤ made
live_made_before made ms n below lives =
    among_low (live_of ms) n made (each_filter (λ k. k ≤ made) (λ k. not (is_gone ms k)) (sessions_of ms) below) lives

-- behind a live session that is gone
pub counted_gone : (made claimed entries more n : ℕ) (live rows : List ℕ) (ms list : List Made)
    → IsCounted made claimed entries live ms → list ≡ ms ++ Gone n ∷ [] → is_among n live ≡ true
    → rows ≡ filter (λ m. not (m == n)) live → more ≡ entries + 1 → IsCounted made claimed more rows list
counted_gone made claimed entries more n live rows ms list c is lives rows_is one =
    let same : sessions_of list ≡ sessions_of ms =
    ap sessions_of is ∙ (sessions_append ms (Gone n ∷ []) ∙ append-nil (sessions_of ms)) in
    let low : n ≤ made = live_made_before made ms n c.below (ap (is_among n) (sym c.live_is) ∙ lives) in
    record {
      live_is = rows_is ∙ (ap (filter (λ m. not (m == n))) c.live_is ∙ sym (ap live_of is ∙ live_gone ms n));
      below = subst (Each (λ k. k ≤ made)) (sym same) c.below;
      made_is = c.made_is ∙ ap length (sym same);
      gone = λ k above. ap (λ l. is_gone l k) is ∙ (gone_append ms (Gone n ∷ []) k
          ∙ (ap (λ b. is_gone ms k || (b || false)) (not_same n k (λ is_k. omega (arith, low, above, is_k)))
          ∙ (or_none (is_gone ms k) ∙ c.gone k above)));
      claims = omega (arith, c.claims, ap claims_of is, ap frees_of is, claims_append ms (Gone n ∷ []), frees_append ms (Gone n ∷ []));
      few = c.few;
      entries_is = omega (arith, one, c.entries_is, ap length is, length-append ms (Gone n ∷ []));
    }

-- a number that no session has yet doesn't live, nor did it
pub fresh_before : (made claimed entries n : ℕ) (live : List ℕ) (before ms : List Made) → IsCounted made claimed entries live ms
    → n ≡ made + 1 → IsPrefix before ms → is_live before n ≡ false
fresh_before made claimed entries n live before ms c is begins =
    among_above (live_of before) n made
    (each_filter (λ k. k ≤ made) (λ k. not (is_gone before k)) (sessions_of before)
    (each_first (λ k. k ≤ made) (sessions_of before) (sessions_of begins.0)
    (subst (Each (λ k. k ≤ made)) (ap sessions_of (sym begins.1) ∙ sessions_append before begins.0) c.below)))
    (omega (arith, is))

-- a register of items alone
pub counted_items : (ms : List Made) → length (items_of ms) ≡ length ms → IsCounted 0 0 (length ms) [] ms
counted_items ms only =
    record {
      live_is = sym (ap (filter (λ n. not (is_gone ms n))) (none.0 ms only));
      below = subst (Each (λ n. n ≤ 0)) (sym (none.0 ms only)) tt;
      made_is = sym (ap length (none.0 ms only));
      gone = λ n above. none.1 ms n only;
      claims = none.2 ms only;
      few = omega arith;
      entries_is = refl;
    }
  where
    few_items : (ms : List Made) → length (items_of ms) ≤ length ms
    few_items [] = omega arith
    few_items (Item i f k o ∷ ms) = omega (arith, few_items ms)
    few_items (Session s o ∷ ms) = omega (arith, few_items ms)
    few_items (Slot i s o ∷ ms) = omega (arith, few_items ms)
    few_items (Gone s ∷ ms) = omega (arith, few_items ms)
    few_items (Claimed n ∷ ms) = omega (arith, few_items ms)
    few_items (Freed n ∷ ms) = omega (arith, few_items ms)

    no_sessions : (ms : List Made) → length (items_of ms) ≡ length ms → sessions_of ms ≡ []
    no_sessions [] only = refl
    no_sessions (Item i f k o ∷ ms) only = no_sessions ms (omega (arith, only))
    no_sessions (Session s o ∷ ms) only = absurd (omega (arith, only, few_items ms))
    no_sessions (Slot i s o ∷ ms) only = absurd (omega (arith, only, few_items ms))
    no_sessions (Gone s ∷ ms) only = absurd (omega (arith, only, few_items ms))
    no_sessions (Claimed n ∷ ms) only = absurd (omega (arith, only, few_items ms))
    no_sessions (Freed n ∷ ms) only = absurd (omega (arith, only, few_items ms))

    no_gone : (ms : List Made) (n : ℕ) → length (items_of ms) ≡ length ms → is_gone ms n ≡ false
    no_gone [] n only = refl
    no_gone (Item i f k o ∷ ms) n only = no_gone ms n (omega (arith, only))
    no_gone (Session s o ∷ ms) n only = absurd (omega (arith, only, few_items ms))
    no_gone (Slot i s o ∷ ms) n only = absurd (omega (arith, only, few_items ms))
    no_gone (Gone s ∷ ms) n only = absurd (omega (arith, only, few_items ms))
    no_gone (Claimed m ∷ ms) n only = absurd (omega (arith, only, few_items ms))
    no_gone (Freed m ∷ ms) n only = absurd (omega (arith, only, few_items ms))

    no_claims : (ms : List Made) → length (items_of ms) ≡ length ms → claims_of ms ≡ frees_of ms + 0
    no_claims [] only = refl
    no_claims (Item i f k o ∷ ms) only = no_claims ms (omega (arith, only))
    no_claims (Session s o ∷ ms) only = absurd (omega (arith, only, few_items ms))
    no_claims (Slot i s o ∷ ms) only = absurd (omega (arith, only, few_items ms))
    no_claims (Gone s ∷ ms) only = absurd (omega (arith, only, few_items ms))
    no_claims (Claimed n ∷ ms) only = absurd (omega (arith, only, few_items ms))
    no_claims (Freed n ∷ ms) only = absurd (omega (arith, only, few_items ms))

    none : ((ms : List Made) → length (items_of ms) ≡ length ms → sessions_of ms ≡ [])
        × ((ms : List Made) (n : ℕ) → length (items_of ms) ≡ length ms → is_gone ms n ≡ false)
        × ((ms : List Made) → length (items_of ms) ≡ length ms → claims_of ms ≡ frees_of ms + 0)
    none = (no_sessions, no_gone, no_claims)

-- how many slots are free, by the count of those that are claimed
pub free_is : (made claimed entries : ℕ) (live : List ℕ) (ms : List Made) → IsCounted made claimed entries live ms
    → claimed_of ms ≡ claimed
free_is made claimed entries live ms c = omega (arith, c.claims)
