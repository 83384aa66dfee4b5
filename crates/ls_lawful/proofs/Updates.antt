-- The updates of a history, by pieces.
use Rattle.std.proofs.Common.{◌≡◌, ℕ, zero, suc, ◌+◌, ◌-◌, ◌<◌, ◌≤◌, List, [], ◌∷◌, ◌++◌, length, take, drop, sym}
use Rattle.std.proofs.Common.{◌∙◌, ap, arith, subst, Some, slice_get}
use Rattle.std.proofs.lemmas.List.{length-append, length-drop, take-take, take_at, drop-drop, drop-take}
use Rattle.std.proofs.lemmas.List.{take-append-drop, length-take-le}
use Rattle.std.proofs.lemmas.Option.{slice_get_within}
use Rattle.ls_event.specs.declared.event.Event.{Event}
use Rattle.ls_event.specs.declared.event.Event.TheVariants.{Update, Clear}
use Rattle.ls_event.specs.declared.event.Entry.{Entry}
use Rattle.ls_event.specs.declared.updates.OwnRow.{OwnRow}
use Rattle.ls_event.specs.History.{between}
use Rattle.ls_event.specs.Updates.{own_of, own_from, updates_between}
use Rattle.ls_event.proofs.Cuts.{between_none}
use Rattle.ls_event.proofs.UpdatesBetween.{Left, left_behind, own_from-append, between_length}

pub between-front : (h : List Entry) (p k l : ℕ) → p + k ≤ l → between h p (p + k) ≡ take k (between h p l)
between-front h p k l le = ap (drop p) (sym (take-take (p + k) l h le)) ∙ drop-take p k (take l h)

pub between-back : (h : List Entry) (p k l : ℕ) → between h (p + k) l ≡ drop k (between h p l)
between-back h p k l = sym (drop-drop k p (take l h))

join_by : (h : List Entry) (p k l : ℕ) → p + k ≤ l → l ≤ length h → updates_between h p l ≡ updates_between h p (p + k) ++ updates_between h (p + k) l
join_by h p k l le within =
    let n : length (take k (between h p l)) ≡ k = length-take-le k (between h p l) (omega (arith, between_length h p l within, le)) in
    ap (own_from p) (sym (take-append-drop k (between h p l)))
    ∙ own_from-append p (take k (between h p l)) (drop k (between h p l))
    ∙ ap (λ r. own_from p r ++ own_from (p + length (take k (between h p l))) (drop k (between h p l))) (sym (between-front h p k l le))
    ∙ ap (λ r. updates_between h p (p + k) ++ own_from (p + length (take k (between h p l))) r) (sym (between-back h p k l))
    ∙ ap (λ r. updates_between h p (p + k) ++ own_from (p + r) (between h (p + k) l)) n

-- those up to a number, and those behind it
pub updates-join : (h : List Entry) (p m l : ℕ) → p ≤ m → m ≤ l → l ≤ length h → updates_between h p l ≡ updates_between h p m ++ updates_between h m l
updates-join h p m l low high within =
    let e : p + (m - p) ≡ m = omega (arith, low) in
    subst (λ (x : ℕ). updates_between h p l ≡ updates_between h p x ++ updates_between h x l) e (join_by h p (m - p) l (omega (arith, e, high)) within)

-- there are none in nothing
pub updates_none : (h : List Entry) (p : ℕ) → p ≤ length h → updates_between h p p ≡ []
updates_none h p within = ap (own_from p) (between_none h p p (omega arith) within)

-- there are no more updates than events
own_few : (n : ℕ) (event : Event) → length (own_of n event) ≤ 1
own_few n (Update cells) = omega arith
own_few n Clear = omega arith

from_few : (n : ℕ) (es : List Entry) → length (own_from n es) ≤ length es
from_few n [] = omega arith
from_few n (e ∷ es) = omega (arith, length-append (own_of (n + 1) e.event) (own_from (n + 1) es), own_few (n + 1) e.event, from_few (n + 1) es)

pub updates_few : (h : List Entry) (p l : ℕ) → l ≤ length h → length (updates_between h p l) ≤ l - p
updates_few h p l within = omega (arith, from_few p (between h p l), between_length h p l within)

-- before and at an update of a piece
pub record Reached (h : List Entry) (p l j : ℕ) (u : OwnRow) : Type 0 where
  pub low : p < u.no
  pub high : u.no ≤ l
  pub at : updates_between h (u.no - 1) u.no ≡ u ∷ []
  pub before : updates_between h p (u.no - 1) ≡ take j (updates_between h p l)
  pub through : updates_between h p u.no ≡ take (j + 1) (updates_between h p l)
  pub behind : updates_between h u.no l ≡ drop (j + 1) (updates_between h p l)

front_of : {A : Type 0} (us xs ys : List A) (k : ℕ) → us ≡ xs ++ ys → ys ≡ drop k us → k ≤ length us → xs ≡ take k us
front_of us xs ys k is rest few =
    let n : length xs ≡ k = omega (arith, ap length is ∙ length-append xs ys, ap length rest ∙ length-drop k us, few) in
    sym (ap (take k) is ∙ take_at xs ys k n)

take_next : {A : Type 0} (j : ℕ) (us : List A) (u : A) → slice_get us j ≡ Some u → take 1 (drop j us) ≡ u ∷ []
take_next zero (x ∷ us) u at = let e : x ≡ u = cc in ap (λ y. y ∷ []) e
take_next zero [] u at = absurd (let far : 0 < 0 = slice_get_within [] 0 u at in omega (arith, far))
take_next (suc j) (x ∷ us) u at = take_next j us u at
take_next (suc j) [] u at = absurd (let far : suc j < 0 = slice_get_within [] (suc j) u at in omega (arith, far))

pub reached : (h : List Entry) (p l j : ℕ) (u : OwnRow) → p ≤ l → l ≤ length h → slice_get (updates_between h p l) j ≡ Some u → Reached h p l j u
reached h p l j u le within at =
    let r : Left h p l j u = left_behind h p l j u le within at in
    let low : p < u.no = r.above in
    let few : j < length (updates_between h p l) = slice_get_within (updates_between h p l) j u at in
    record {
      low = low;
      high = r.reached;
      at = front_of (updates_between h (u.no - 1) l) (updates_between h (u.no - 1) u.no) (updates_between h u.no l) 1
          (updates-join h (u.no - 1) u.no l (omega arith) r.reached within)
          (r.after ∙ sym (drop-drop 1 j (updates_between h p l)) ∙ ap (drop 1) (sym r.at_it))
          (omega (arith, ap length r.at_it ∙ length-drop j (updates_between h p l), few))
          ∙ ap (take 1) r.at_it ∙ take_next j (updates_between h p l) u at;
      before = front_of (updates_between h p l) (updates_between h p (u.no - 1)) (updates_between h (u.no - 1) l) j
          (updates-join h p (u.no - 1) l (omega (arith, low)) (omega (arith, r.reached)) within) r.at_it (omega (arith, few));
      through = front_of (updates_between h p l) (updates_between h p u.no) (updates_between h u.no l) (j + 1)
          (updates-join h p u.no l (omega (arith, low)) r.reached within) r.after (omega (arith, few));
      behind = r.after;
    }

-- the first one alone is told up to its number
pub reached_first : (h : List Entry) (p l : ℕ) (u : OwnRow) → p ≤ l → l ≤ length h → slice_get (updates_between h p l) 0 ≡ Some u
    → updates_between h p u.no ≡ u ∷ []
reached_first h p l u le within at =
    let r : Reached h p l 0 u = reached h p l 0 u le within at in
    r.through ∙ take_next 0 (updates_between h p l) u at
