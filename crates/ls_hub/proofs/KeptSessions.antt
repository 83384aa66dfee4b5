-- The sessions of a hub, of which one of the world changes alone, and the slot of a rank in a round.
use Rattle.std.proofs.Common.{◌≡◌, ◌==◌, ◌&&◌, ℕ, zero, suc, List, [], ◌∷◌, ◌++◌, map, refl, sym, ◌∙◌, ap, subst, cond, Bool, true, false}
use Rattle.std.proofs.Common.{slice_get, Some, None}
use Rattle.std.proofs.lemmas.Bool.{eqb-true}
use Rattle.ls_value.proofs.Rows.{and_left, and_right}
use Rattle.ls_value.specs.Each.{Each}
use Rattle.ls_record.specs.Apart.{Apart}
use Rattle.ls_record.specs.Records.{Item, LiveSlot, Session, change, is_at, live_at, enqueue_slot, enqueue_at, history_of}
use Rattle.ls_session.specs.declared.session.Session.{Session as Kept}
use Rattle.ls_hub.specs.Hub.{IsSession, AreSessions}

-- one of the world changes, for which the kept one stands as it is
pub are_same : (now : ℕ) (kept : List Kept) (sessions : List Session) (n : ℕ) (s : Session) (f : Session → Session) → slice_get sessions n ≡ Some s
    → ((k : Kept) → IsSession now k s → IsSession now k (f s)) → AreSessions now kept sessions → AreSessions now kept (change n f sessions)
are_same now [] [] n s f found keeps are = tt
are_same now [] (x ∷ sessions) n s f found keeps are = absurd are
are_same now (y ∷ kept) [] n s f found keeps are = absurd are
are_same now (y ∷ kept) (x ∷ sessions) zero s f found keeps are =
    let same : x ≡ s = cc in (subst (λ (z : Session). IsSession now y z → IsSession now y (f z)) (sym same) (keeps y) are.0, are.1)
are_same now (y ∷ kept) (x ∷ sessions) (suc n) s f found keeps are = (are.0, are_same now kept sessions n s f found keeps are.1)

-- a change of the n-th to what it is
pub change_same : {A : Type 0} (n : ℕ) (xs : List A) (x : A) → slice_get xs n ≡ Some x → change n (λ y. x) xs ≡ xs
change_same n [] x found = refl
change_same zero (y ∷ xs) x found = let same : y ≡ x = cc in ap (λ z. z ∷ xs) (sym same)
change_same (suc n) (y ∷ xs) x found = ap (λ ys. y ∷ ys) (change_same n xs x found)

-- a change of the n-th by what becomes of it
pub change_as : {A : Type 0} (n : ℕ) (xs : List A) (x : A) (f g : A → A) → slice_get xs n ≡ Some x → f x ≡ g x → change n f xs ≡ change n g xs
change_as n [] x f g found is = refl
change_as zero (y ∷ xs) x f g found is =
    let same : y ≡ x = cc in
    ap (λ z. f z ∷ xs) same ∙ ap (λ z. z ∷ xs) is ∙ ap (λ z. g z ∷ xs) (sym same)
change_as (suc n) (y ∷ xs) x f g found is = ap (λ ys. y ∷ ys) (change_as n xs x f g found is)

-- the slot of a rank in a subscription, among those of a round
pub record LiveAt (vs : List LiveSlot) (sub rank : ℕ) (v : LiveSlot) : Type 0 where
  pub before : List LiveSlot
  pub behind : List LiveSlot
  pub round : vs ≡ before ++ v ∷ behind
  pub enqueued : (items : List Item) → map (enqueue_at items sub rank) vs ≡ before ++ enqueue_slot (history_of items v.item) v ∷ behind

-- a slot of another rank or subscription doesn't move
other_at : (sub rank : ℕ) (u v : LiveSlot) → is_at sub rank v ≡ true → is_at v.sub v.rank u ≡ false → is_at sub rank u ≡ false
other_at sub rank u v is other =
    let s : sub ≡ v.sub = eqb-true sub v.sub (and_left (sub == v.sub) (rank == v.rank) is) in
    let r : rank ≡ v.rank = eqb-true rank v.rank (and_right (sub == v.sub) (rank == v.rank) is) in
    ap (λ k. (k == u.sub) && (rank == u.rank)) s ∙ ap (λ k. (v.sub == u.sub) && (k == u.rank)) r ∙ other

others_stay : (items : List Item) (sub rank : ℕ) (v : LiveSlot) (vs : List LiveSlot) → is_at sub rank v ≡ true → Each (λ u. is_at v.sub v.rank u ≡ false) vs
    → map (enqueue_at items sub rank) vs ≡ vs
others_stay items sub rank v [] is e = refl
others_stay items sub rank v (u ∷ vs) is e =
    ap (λ b. cond b (enqueue_slot (history_of items u.item) u) u ∷ map (enqueue_at items sub rank) vs) (other_at sub rank u v is e.0)
    ∙ ap (λ us. u ∷ us) (others_stay items sub rank v vs is e.1)

pub live_found : (vs : List LiveSlot) (sub rank : ℕ) (v : LiveSlot) → Apart vs → live_at sub rank vs ≡ Some v → LiveAt vs sub rank v
live_found [] sub rank v apart found = absurd (let x : None ≡ Some v = found in cc)
live_found (u ∷ vs) sub rank v apart found = by_test (is_at sub rank u) refl found (λ f. live_found vs sub rank v apart.1 f)
  where
    by_test : (b : Bool) → is_at sub rank u ≡ b → cond b (Some u) (live_at sub rank vs) ≡ Some v
        → (live_at sub rank vs ≡ Some v → LiveAt vs sub rank v) → LiveAt (u ∷ vs) sub rank v
    by_test true is found rest =
        let same : u ≡ v = cc in
        subst (LiveAt (u ∷ vs) sub rank) same
        (record {
          before = [];
          behind = vs;
          round = refl;
          enqueued = λ items. ap (λ b. cond b (enqueue_slot (history_of items u.item) u) u ∷ map (enqueue_at items sub rank) vs) is
              ∙ ap (λ us. enqueue_slot (history_of items u.item) u ∷ us) (others_stay items sub rank u vs is apart.0);
        })
    by_test false is found rest =
        let at = rest found in
        record {
          before = u ∷ at.before;
          behind = at.behind;
          round = ap (λ us. u ∷ us) at.round;
          enqueued = λ items. ap (λ b. cond b (enqueue_slot (history_of items u.item) u) u ∷ map (enqueue_at items sub rank) vs) is
              ∙ ap (λ us. u ∷ us) (at.enqueued items);
        }

-- the slots of a session stand apart
pub apart_at : (now : ℕ) (kept : List Kept) (sessions : List Session) (n : ℕ) (s : Session) → slice_get sessions n ≡ Some s → AreSessions now kept sessions
    → Apart s.board.round
apart_at now [] [] n s found are = absurd (let x : None ≡ Some s = found in cc)
apart_at now [] (x ∷ sessions) n s found are = absurd are
apart_at now (k ∷ kept) [] n s found are = absurd are
apart_at now (k ∷ kept) (x ∷ sessions) zero s found are =
    let same : x ≡ s = cc in
    subst (λ (y : Session). Apart y.board.round) (are.0.session ∙ same) are.0.stands.subs.apart
apart_at now (k ∷ kept) (x ∷ sessions) (suc n) s found are = apart_at now kept sessions n s found are.1
