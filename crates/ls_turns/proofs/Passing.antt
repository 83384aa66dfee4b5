-- No slot is passed over in a round.
use Rattle.std.proofs.Common.{◌≡◌, ◌==◌, ℕ, suc, zero, ◌<◌, List, [], ◌∷◌, ◌++◌, length, refl, sym, ◌∙◌, ap, arith, cond, Bool, true, false, not, subst, inl}
use Rattle.std.proofs.Common.{inr}
use Rattle.std.specs.Prelude.{◌⊎◌}
use Rattle.std.specs.List.{filter, Contains}
use Rattle.std.proofs.lemmas.Bool.{eqb-true, eq-eqb}
use Rattle.ls_turns.specs.declared.slot_ref.SlotRef.{SlotRef}
use Rattle.ls_turns.specs.Moves.{Move, Gave, Joined, Left, is_same, after_move, MayMoveAll, Stays, HasGiven}
use Rattle.ls_links.proofs.Members.{differs}

contains_here : {A : Type 0} (y x : A) (xs : List A) → y ≡ x → Contains (y ∷ xs) x
contains_here y x xs e = (0, omega arith, e)

contains_later : {A : Type 0} (y x : A) (xs : List A) → Contains xs x → Contains (y ∷ xs) x
contains_later y x xs c = (suc c.0, (let l : c.0 < length xs = c.1 in omega arith), c.2)

contains_cases : {A : Type 0} (y x : A) (xs : List A) → Contains (y ∷ xs) x → (y ≡ x) ⊎ Contains xs x
contains_cases y x xs (zero, l, e) = inl e
contains_cases y x xs (suc k, l, e) = inr (k, omega arith, e)

same_itself : (a : SlotRef) → is_same a a ≡ true
same_itself a = rw (eq-eqb a.sub a.sub refl) (eq-eqb a.place a.place refl)

-- a slot is in the round, and none before it is another one
abbrev Leads : SlotRef → SlotRef → List SlotRef → Type 0
Leads b a [] = ⊥
Leads b a (x ∷ xs) = (x ≡ b) ⊎ ((is_same a x ≡ false) × Leads b a xs)

leads_append : (b a : SlotRef) (xs ys : List SlotRef) → Leads b a xs → Leads b a (xs ++ ys)
leads_append b a [] ys l = absurd l
leads_append b a (x ∷ xs) ys (inl e) = inl e
leads_append b a (x ∷ xs) ys (inr l) = inr (l.0, leads_append b a xs ys l.1)

leads_kept : (b a : SlotRef) (p : SlotRef → Bool) (xs : List SlotRef) → p b ≡ true → Leads b a xs → Leads b a (filter p xs)
leads_kept b a p [] t l = absurd l
leads_kept b a p (x ∷ xs) t (inl e) = rw (ap p e ∙ t) (inl e)
leads_kept b a p (x ∷ xs) t (inr l) = by_test (p x) (leads_kept b a p xs t l.1)
  where
    by_test : (v : Bool) → Leads b a (filter p xs) → Leads b a (cond v (x ∷ filter p xs) (filter p xs))
    by_test true r = inr (l.0, r)
    by_test false r = r

-- once the other one gave, each that stays leads
leads_first : (b a : SlotRef) (xs : List SlotRef) → Contains xs b → is_same a b ≡ false → Leads b a (filter (λ x. not (is_same a x)) xs)
leads_first b a [] c f = (let l : c.0 < 0 = c.1 in absurd (omega arith))
leads_first b a (x ∷ xs) c f = by_case (contains_cases x b xs c) (λ d. leads_first b a xs d f)
  where
    by_test : (v : Bool) → is_same a x ≡ v → Leads b a (filter (λ x. not (is_same a x)) xs)
        → Leads b a (cond (not v) (x ∷ filter (λ x. not (is_same a x)) xs) (filter (λ x. not (is_same a x)) xs))
    by_test true e r = r
    by_test false e r = inr (e, r)

    by_case : (x ≡ b) ⊎ Contains xs b → (Contains xs b → Leads b a (filter (λ x. not (is_same a x)) xs))
        → Leads b a (filter (λ x. not (is_same a x)) (x ∷ xs))
    by_case (inl e) rec = rw (ap (is_same a) e ∙ f) (inl e)
    by_case (inr d) rec = by_test (is_same a x) refl (rec d)

-- one that leads when the other gives was asked
asked_then : (b a : SlotRef) (asked behind : List SlotRef) → is_same a b ≡ false → Leads b a (asked ++ a ∷ behind) → Contains asked b
asked_then b a [] behind f (inl e) = absurd (differs (is_same a b) (ap (is_same a) (sym e) ∙ same_itself a) f)
asked_then b a [] behind f (inr l) = absurd (differs (is_same a a) (same_itself a) l.0)
asked_then b a (x ∷ asked) behind f (inl e) = contains_here x b asked e
asked_then b a (x ∷ asked) behind f (inr l) = contains_later x b asked (asked_then b a asked behind f l.1)

-- over all moves
pub passes_none : (b a : SlotRef) (round asked : List SlotRef) (moves : List Move) → Leads b a round → is_same a b ≡ false → Stays b moves
    → MayMoveAll round (moves ++ Gave a asked ∷ []) → HasGiven b moves ⊎ Contains asked b
passes_none b a round asked [] l f stays may = inr (asked_then b a asked may.0.0 f (subst (Leads b a) may.0.1 l))
passes_none b a round asked (m ∷ ms) l f stays may =
    by_move (λ r. rest (passes_none b a (after_move round m) asked ms r f (λ c. stays (contains_later m (Left b.sub) ms c)) may.1)) m refl
  where
    rest : HasGiven b ms ⊎ Contains asked b → HasGiven b (m ∷ ms) ⊎ Contains asked b
    rest (inl g) = inl (g.0, g.1, contains_later m (Gave g.0 g.1) ms g.2, g.3)
    rest (inr c) = inr c

    by_move : (Leads b a (after_move round m) → HasGiven b (m ∷ ms) ⊎ Contains asked b) → (k : Move) → m ≡ k → HasGiven b (m ∷ ms) ⊎ Contains asked b
    by_move go (Gave c these) e = by_same (is_same c b) refl
      where
        by_same : (v : Bool) → is_same c b ≡ v → HasGiven b (m ∷ ms) ⊎ Contains asked b
        by_same true s = inl (c, these, contains_here m (Gave c these) ms e, s)
        by_same false s =
            go (subst (λ (k : Move). Leads b a (after_move round k)) (sym e)
            (leads_append b a (filter (λ x. not (is_same c x)) round) (c ∷ []) (leads_kept b a (λ x. not (is_same c x)) round (ap not s) l)))
    by_move go (Joined c) e = go (subst (λ (k : Move). Leads b a (after_move round k)) (sym e) (leads_append b a round (c ∷ []) l))
    by_move go (Left sub) e = by_sub (b.sub == sub) refl
      where
        by_sub : (v : Bool) → (b.sub == sub) ≡ v → HasGiven b (m ∷ ms) ⊎ Contains asked b
        by_sub true s = absurd (stays (contains_here m (Left b.sub) ms (e ∙ ap (λ (k : ℕ). Left k) (sym (eqb-true b.sub sub s)))))
        by_sub false s =
            go (subst (λ (k : Move). Leads b a (after_move round k)) (sym e) (leads_kept b a (λ x. not (x.sub == sub)) round (ap not s) l))

pub not_passed_over : (round before asked : List SlotRef) (a b : SlotRef) (moves : List Move) → MayMoveAll round (Gave a before ∷ moves ++ Gave a asked ∷ [])
    → Contains round b → is_same a b ≡ false → Stays b moves → HasGiven b moves ⊎ Contains asked b
not_passed_over round before asked a b moves may in' f stays =
    passes_none b a (filter (λ x. not (is_same a x)) round ++ a ∷ []) asked moves
    (leads_append b a (filter (λ x. not (is_same a x)) round) (a ∷ []) (leads_first b a round in' f)) f stays may.1
