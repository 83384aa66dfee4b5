-- The updates of a history as it grows, and behind one of them.
use Rattle.std.proofs.Common.{◌≡◌, ℕ, ◌+◌, ◌-◌, ◌<◌, ◌≤◌, List, [], ◌∷◌, ◌++◌, length, take, drop, refl, sym, ◌∙◌, ap, arith, suc, zero, Option, Some, None}
use Rattle.std.proofs.Common.{slice_get, min, unwrap_or, inl, inr, ◌⊎◌}
use Rattle.std.proofs.lemmas.List.{length-take-le, length-drop, length-append, append_assoc, drop-drop, drop-append-le}
use Rattle.std.proofs.lemmas.Option.{slice_get_within}
use Rattle.ls_event.specs.declared.event.Event.{Event}
use Rattle.ls_event.specs.declared.event.Event.TheVariants.{Update, Clear}
use Rattle.ls_event.specs.declared.event.Entry.{Entry}
use Rattle.ls_event.specs.declared.updates.OwnRow.{OwnRow}
use Rattle.ls_event.specs.History.{between}
use Rattle.ls_event.specs.Updates.{own_of, own_from, updates_between, last_of, clear_of, clear_from, last_clear}
use Rattle.ls_event.proofs.Cuts.{between-next, between-append}

pub own_from-append : (n : ℕ) (xs ys : List Entry) → own_from n (xs ++ ys) ≡ own_from n xs ++ own_from (n + length xs) ys
own_from-append n [] ys = ap (λ k. own_from k ys) {x = n} {y = n + 0} (omega arith)
own_from-append n (x ∷ xs) ys =
    ap (λ z. own_of (n + 1) x.event ++ z) (own_from-append (n + 1) xs ys ∙ ap (λ k. own_from (n + 1) xs ++ own_from k ys) {x = n + 1 + length xs}
    {y = n + suc (length xs)} (omega arith))
    ∙ sym (append_assoc (own_of (n + 1) x.event) (own_from (n + 1) xs) (own_from (n + length (x ∷ xs)) ys))

pub between_length : (h : List Entry) (p l : ℕ) → l ≤ length h → length (between h p l) ≡ l - p
between_length h p l within = length-drop p (take l h) ∙ ap (λ k. k - p) (length-take-le l h within)

own_one : (n : ℕ) (event : Event) → own_of n event ++ [] ≡ own_of n event
own_one n (Update cells) = refl
own_one n Clear = refl

-- one entry more
pub updates_between-next : (h : List Entry) (p l : ℕ) (e : Entry) → p ≤ l → l ≤ length h → take (l + 1) h ≡ take l h ++ e ∷ []
    → updates_between h p (l + 1) ≡ updates_between h p l ++ own_of (l + 1) e.event
updates_between-next h p l e low high next =
    let at : p + length (between h p l) ≡ l = omega (arith, between_length h p l high, low) in
    ap (own_from p) (between-next h p l e low high next)
    ∙ own_from-append p (between h p l) (e ∷ [])
    ∙ ap (λ k. updates_between h p l ++ own_from k (e ∷ [])) at
    ∙ ap (λ z. updates_between h p l ++ z) (own_one (l + 1) e.event)

-- later entries leave them
pub updates_between-append : (h more : List Entry) (p l : ℕ) → l ≤ length h → updates_between (h ++ more) p l ≡ updates_between h p l
updates_between-append h more p l within = ap (own_from p) (between-append h more p l within)

-- at and behind one of them
pub record Behind (n : ℕ) (es : List Entry) (us : List OwnRow) (j : ℕ) (u : OwnRow) : Type 0 where
  pub above : n < u.no
  pub reached : u.no ≤ n + length es
  pub after : own_from u.no (drop (u.no - n) es) ≡ drop (j + 1) us
  pub at_it : own_from (u.no - 1) (drop (u.no - 1 - n) es) ≡ drop j us

drop_past : (n to : ℕ) (e : Entry) (es : List Entry) → n < to → drop (to - n) (e ∷ es) ≡ drop (to - (n + 1)) es
drop_past n to e es low = ap (λ k. drop k (e ∷ es)) {x = to - n} {y = suc (to - (n + 1))} (omega (arith, low))

behind_later : (n : ℕ) (e : Entry) (es : List Entry) (us vs : List OwnRow) (i j : ℕ) (u : OwnRow) → drop j vs ≡ drop i us → drop (j + 1) vs ≡ drop (i + 1) us
    → Behind (n + 1) es us i u → Behind n (e ∷ es) vs j u
behind_later n e es us vs i j u at after b =
    let above : n + 1 < u.no = b.above in
    record {
      above = omega (arith, above);
      reached = omega (arith, b.reached);
      after = ap (own_from u.no) (drop_past n u.no e es (omega (arith, above))) ∙ b.after ∙ sym after;
      at_it = ap (own_from (u.no - 1)) (drop_past n (u.no - 1) e es (omega (arith, above))) ∙ b.at_it ∙ sym at;
    }

behind_first : (n : ℕ) (e : Entry) (es : List Entry) (x u : OwnRow) → own_of (n + 1) e.event ≡ x ∷ [] → x.no ≡ n + 1 → Some x ≡ Some u
    → Behind n (e ∷ es) (x ∷ own_from (n + 1) es) 0 u
behind_first n e es x u is no_is same =
    let no' : u.no ≡ n + 1 = ap (λ o. (unwrap_or o x).no) (sym same) ∙ no_is in
    record {
      above = omega (arith, no');
      reached = omega (arith, no');
      after = ap (λ k. own_from k (drop (k - n) (e ∷ es))) no' ∙ ap (λ k. own_from (n + 1) (drop k (e ∷ es))) {x = n + 1 - n} {y = 1} (omega arith);
      at_it = ap (λ k. own_from (k - 1) (drop (k - 1 - n) (e ∷ es))) no' ∙ ap (λ k. own_from k (drop (k - n) (e ∷ es))) {x = n + 1 - 1} {y = n} (omega arith)
          ∙ ap (λ k. own_from n (drop k (e ∷ es))) {x = n - n} {y = 0} (omega arith) ∙ ap (λ z. z ++ own_from (n + 1) es) is;
    }

behind_step : (n : ℕ) (e : Entry) (event : Event) (es : List Entry) → e.event ≡ event
    → ((j : ℕ) (u : OwnRow) → slice_get (own_from (n + 1) es) j ≡ Some u → Behind (n + 1) es (own_from (n + 1) es) j u)
    → (j : ℕ) (u : OwnRow) → slice_get (own_of (n + 1) event ++ own_from (n + 1) es) j ≡ Some u
    → Behind n (e ∷ es) (own_of (n + 1) event ++ own_from (n + 1) es) j u
behind_step n e Clear es is rest j u at = behind_later n e es (own_from (n + 1) es) (own_from (n + 1) es) j j u refl refl (rest j u at)
behind_step n e (Update cells) es is rest zero u at = behind_first n e es _ u (ap (own_of (n + 1)) is) refl at
behind_step n e (Update cells) es is rest (suc i) u at =
    let vs : List OwnRow = own_of (n + 1) (Update cells) ++ own_from (n + 1) es in
    behind_later n e es (own_from (n + 1) es) vs i (suc i) u refl (ap (λ k. drop k vs) {x = suc i + 1} {y = suc (i + 1)} (omega arith)) (rest i u at)

pub behind : (n : ℕ) (es : List Entry) (j : ℕ) (u : OwnRow) → slice_get (own_from n es) j ≡ Some u → Behind n es (own_from n es) j u
behind n [] j u at = let far : j < 0 = slice_get_within [] j u at in absurd (omega (arith, far))
behind n (e ∷ es) j u at = behind_step n e e.event es refl (behind (n + 1) es) j u at

-- what is left at and behind an update
pub record Left (h : List Entry) (p l j : ℕ) (u : OwnRow) : Type 0 where
  pub above : p < u.no
  pub reached : u.no ≤ l
  pub after : updates_between h u.no l ≡ drop (j + 1) (updates_between h p l)
  pub at_it : updates_between h (u.no - 1) l ≡ drop j (updates_between h p l)

drop_between : (h : List Entry) (p to l : ℕ) → p ≤ to → drop (to - p) (between h p l) ≡ between h to l
drop_between h p to l low = drop-drop (to - p) p (take l h) ∙ ap (λ k. drop k (take l h)) {x = p + (to - p)} {y = to} (omega (arith, low))

pub left_behind : (h : List Entry) (p l j : ℕ) (u : OwnRow) → p ≤ l → l ≤ length h → slice_get (updates_between h p l) j ≡ Some u → Left h p l j u
left_behind h p l j u low high at =
    let b : Behind p (between h p l) (updates_between h p l) j u = behind p (between h p l) j u at in
    let above : p < u.no = b.above in
    record {
      above = above;
      reached = omega (arith, b.reached, between_length h p l high, low);
      after = ap (own_from u.no) (sym (drop_between h p u.no l (omega (arith, above)))) ∙ b.after;
      at_it = ap (own_from (u.no - 1)) (sym (drop_between h p (u.no - 1) l (omega (arith, above)))) ∙ b.at_it;
    }

-- the last n, and one more
pub last_of-next : {A : Type 0} (n : ℕ) (xs : List A) (x : A) → last_of n (last_of n xs ++ x ∷ []) ≡ last_of n (xs ++ x ∷ [])
last_of-next n xs x =
    let k = length xs - n in
    let moved : drop k xs ++ x ∷ [] ≡ drop k (xs ++ x ∷ []) = sym (drop-append-le k xs (x ∷ []) (omega arith)) in
    let long : length (xs ++ x ∷ []) ≡ length xs + 1 = length-append xs (x ∷ []) in
    ap (last_of n) moved
    ∙ ap (λ m. drop (m - n) (drop k (xs ++ x ∷ []))) (length-drop k (xs ++ x ∷ []))
    ∙ drop-drop (length (xs ++ x ∷ []) - k - n) k (xs ++ x ∷ [])
    ∙ ap (λ m. drop m (xs ++ x ∷ [])) {x = k + (length (xs ++ x ∷ []) - k - n)} {y = length (xs ++ x ∷ []) - n} (omega (arith, long))

-- the last n are n at most
pub last_of_length : {A : Type 0} (n : ℕ) (xs : List A) → length (last_of n xs) ≡ min n (length xs)
last_of_length n xs = length-drop (length xs - n) xs ∙ omega arith

-- and all of a shorter list
pub last_of_short : {A : Type 0} (n : ℕ) (xs : List A) → length xs ≤ n → last_of n xs ≡ xs
last_of_short n xs short = ap (λ k. drop k xs) {x = length xs - n} {y = 0} (omega (arith, short))

-- the first behind k is the one at k
pub slice_get_drop : {A : Type 0} (k : ℕ) (xs : List A) → slice_get (drop k xs) 0 ≡ slice_get xs k
slice_get_drop zero xs = refl
slice_get_drop (suc k) [] = refl
slice_get_drop (suc k) (x ∷ xs) = slice_get_drop k xs

pub clear_from-append : (c : Option ℕ) (n : ℕ) (xs ys : List Entry) → clear_from c n (xs ++ ys) ≡ clear_from (clear_from c n xs) (n + length xs) ys
clear_from-append c n [] ys = ap (λ k. clear_from c k ys) {x = n} {y = n + 0} (omega arith)
clear_from-append c n (x ∷ xs) ys = clear_from-append (clear_of c (n + 1) x.event) (n + 1) xs ys
    ∙ ap (λ k. clear_from (clear_from c n (x ∷ xs)) k ys) {x = n + 1 + length xs} {y = n + suc (length xs)} (omega arith)

pub last_clear-next : (h : List Entry) (p l : ℕ) (e : Entry) → p ≤ l → l ≤ length h → take (l + 1) h ≡ take l h ++ e ∷ []
    → last_clear h p (l + 1) ≡ clear_of (last_clear h p l) (l + 1) e.event
last_clear-next h p l e low high next =
    let at : p + length (between h p l) ≡ l = omega (arith, between_length h p l high, low) in
    ap (clear_from None p) (between-next h p l e low high next)
    ∙ clear_from-append None p (between h p l) (e ∷ [])
    ∙ ap (λ k. clear_of (last_clear h p l) (k + 1) e.event) at

-- without a Clear there is none behind a later number
pub no_clear : (c : Option ℕ) (n to : ℕ) (es : List Entry) → clear_from c n es ≡ None → (c ≡ None) × (clear_from None to es ≡ None)
no_clear c n to [] none = (none, refl)
no_clear c n to (e ∷ es) none = by_event e.event (no_clear (clear_of c (n + 1) e.event) (n + 1) (to + 1) es none)
  where
    by_event : (event : Event) → (clear_of c (n + 1) event ≡ None) × (clear_from None (to + 1) es ≡ None)
        → (c ≡ None) × (clear_from (clear_of None (to + 1) event) (to + 1) es ≡ None)
    by_event (Update cells) h = h
    by_event Clear h = absurd_some h.0
      where
        absurd_some : Some (n + 1) ≡ None → (c ≡ None) × (clear_from (Some (to + 1)) (to + 1) es ≡ None)
        absurd_some h = cc

pub no_clear_behind : (c : Option ℕ) (n to k : ℕ) (es : List Entry) → clear_from c n es ≡ None → clear_from None to (drop k es) ≡ None
no_clear_behind c n to zero es none = (no_clear c n to es none).1
no_clear_behind c n to (suc k) [] none = refl
no_clear_behind c n to (suc k) (e ∷ es) none = no_clear_behind (clear_of c (n + 1) e.event) (n + 1) to k es none

-- behind the last Clear there is none
pub record LastClear (n : ℕ) (es : List Entry) (c : ℕ) : Type 0 where
  pub above : n < c
  pub reached : c ≤ n + length es
  pub none : clear_from None c (drop (c - n) es) ≡ None

abbrev pub ClearAt : Option ℕ → ℕ → List Entry → ℕ → Type 0
ClearAt c0 n es c = ((c0 ≡ Some c) × (clear_from None n es ≡ None)) ⊎ LastClear n es c

clear_step : (c0 : Option ℕ) (n : ℕ) (e : Entry) (event : Event) (es : List Entry) (c : ℕ) → e.event ≡ event → ClearAt (clear_of c0 (n + 1) event) (n + 1) es c
    → ClearAt c0 n (e ∷ es) c
clear_step c0 n e (Update cells) es c is (inl h) = inl (h.0, ap (λ v. clear_from (clear_of None (n + 1) v) (n + 1) es) is ∙ h.1)
clear_step c0 n e Clear es c is (inl h) =
    let at : n + 1 ≡ c = ap (λ o. unwrap_or o c) h.0 in
    inr (record {
      above = omega (arith, at);
      reached = omega (arith, at);
      none = ap (λ k. clear_from None k (drop (k - n) (e ∷ es))) (sym at) ∙ ap (λ k. clear_from None (n + 1) (drop k (e ∷ es))) {x = n + 1 - n} {y = 1}
          (omega arith) ∙ h.1;
    })
clear_step c0 n e event es c is (inr l) =
    let above : n + 1 < c = l.above in
    inr (record {
      above = omega (arith, above);
      reached = omega (arith, l.reached);
      none = ap (clear_from None c) (drop_past n c e es (omega (arith, above))) ∙ l.none;
    })

pub clear_at : (c0 : Option ℕ) (n : ℕ) (es : List Entry) (c : ℕ) → clear_from c0 n es ≡ Some c → ClearAt c0 n es c
clear_at c0 n [] c is = inl (is, refl)
clear_at c0 n (e ∷ es) c is = clear_step c0 n e e.event es c refl (clear_at (clear_of c0 (n + 1) e.event) (n + 1) es c is)

pub record ClearIn (h : List Entry) (p l c : ℕ) : Type 0 where
  pub above : p < c
  pub reached : c ≤ l
  pub none : last_clear h c l ≡ None

pub last_clear_is : (h : List Entry) (p l c : ℕ) → p ≤ l → l ≤ length h → last_clear h p l ≡ Some c → ClearIn h p l c
last_clear_is h p l c low high is = by_case (clear_at None p (between h p l) c is)
  where
    by_case : ClearAt None p (between h p l) c → ClearIn h p l c
    by_case (inl x) = none_some x.0
      where
        none_some : None ≡ Some c → ClearIn h p l c
        none_some x = cc
    by_case (inr x) =
        let above : p < c = x.above in
        record {
          above = above;
          reached = omega (arith, x.reached, between_length h p l high, low);
          none = ap (clear_from None c) (sym (drop_between h p c l (omega (arith, above)))) ∙ x.none;
        }

pub last_clear_none : (h : List Entry) (p q l : ℕ) → p ≤ q → last_clear h p l ≡ None → last_clear h q l ≡ None
last_clear_none h p q l low none = ap (clear_from None q) (sym (drop_between h p q l low)) ∙ no_clear_behind None p q (q - p) (between h p l) none
