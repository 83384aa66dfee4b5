-- The last member of a list.
use Rattle.std.proofs.Common.{◌≡◌, ◌<◌, ◌↔◌, ℕ, List, [], ◌∷◌, ◌++◌, inl, inr, length, refl, sym, ap, subst, ◌∙◌, append-nil, arith}
use Rattle.std.proofs.Common.{true, false, Option, None, Some, IsSome, MatchOption}
use Rattle.std.specs.Option.{option_to_list}
use Rattle.ls_told.specs.Heard.{counts_as}
use Rattle.ls_told.specs.Seen.{Testified}
use Rattle.ls_told.specs.Turns.{IsUnbound}
use Rattle.ls_session.specs.declared.session.Lost.{Lost}
use Rattle.ls_session.specs.declared.session.Lost.TheVariants as lost
use Rattle.ls_shared.specs.Answers.{Loses}
use Rattle.ls_conn.specs.Lasting.{HasLast, IsLost, IsLostAt, LastBecomes}

head_is : (x y : Testified) (xs ys : List Testified) → x ∷ xs ≡ y ∷ ys → x ≡ y
head_is x y xs ys e = cc

tail_is : (x y : Testified) (xs ys : List Testified) → x ∷ xs ≡ y ∷ ys → xs ≡ ys
tail_is x y xs ys e = cc

none_last : (xs : List Testified) (x : Testified) → [] ≡ xs ++ x ∷ [] → ⊥
none_last [] x e = cc
none_last (y ∷ ys) x e = cc

-- two lists that are one have one last member, and one front
pub one_last : (xs ys : List Testified) (x y : Testified) → xs ++ x ∷ [] ≡ ys ++ y ∷ [] → x ≡ y
one_last [] [] x y e = head_is x y [] [] e
one_last [] (b ∷ ys) x y e = absurd (none_last ys y (tail_is x b [] (ys ++ y ∷ []) e))
one_last (a ∷ xs) [] x y e = absurd (none_last xs x (sym (tail_is a y (xs ++ x ∷ []) [] e)))
one_last (a ∷ xs) (b ∷ ys) x y e = one_last xs ys x y (tail_is a b (xs ++ x ∷ []) (ys ++ y ∷ []) e)

-- what holds of the last one
pub last_holds : (ts front : List Testified) (t : Testified) (P : Testified → Type 0) → HasLast ts P → ts ≡ front ++ t ∷ [] → P t
last_holds ts front t P h are = subst P (one_last h.front front h.last t (sym h.are ∙ are)) h.holds

-- there is one
pub has_none : (ts : List Testified) (P : Testified → Type 0) → HasLast ts P → ts ≡ [] → ⊥
has_none ts P h is = none_last h.front h.last (sym is ∙ h.are)

-- none was there, where the last one was to be taken out and wasn't
pub none_there : (ts : List Testified) (count : ℕ) → (IsSome {T = Testified} None ↔ (0 < count)) → count ≡ length ts → ts ≡ []
none_there [] count some is = refl
none_there (t ∷ ts) count some is = absurd (let x : false ≡ true = some.1 (omega (arith, is)) in cc)

-- the last one was taken out, where there is one
pub popped : (ts front : List Testified) (count : ℕ) (r : Option Testified) → ts ≡ front ++ option_to_list r → (IsSome r ↔ (0 < count))
    → count ≡ length ts → MatchOption r ((ts ≡ []) × (front ≡ [])) (λ t. ts ≡ front ++ t ∷ [])
popped ts front count None are some is =
    let none : ts ≡ [] = none_there ts count some is in
    (none, sym (append-nil front) ∙ sym are ∙ none)
popped ts front count (Some t) are some is = are

-- a stream that was lost at a tick is lost
lost_by : (epoch now : ℕ) (t u : Testified) (how : Lost) → u.number ≡ t.number → Loses epoch now t u how → IsLost epoch u
lost_by epoch now t u lost.Unbound same p = inl (counts_as now p.0, p.0, p.2)
lost_by epoch now t u (lost.Superseded e) same p = inr (inl (e, p.0, p.1))
lost_by epoch now t u lost.NotBound same p = inr (inr (subst (λ (n : ℕ). IsUnbound n u.later) (sym same) p.0))

pub last_lost : (epoch now : ℕ) (ts us : List Testified) → LastBecomes ts us (IsLostAt epoch now) → HasLast us (IsLost epoch)
last_lost epoch now ts us b =
    record { front = b.front; last = b.after; are = b.are; holds = lost_by epoch now b.before b.after b.holds.1 b.holds.0 b.holds.2 }
