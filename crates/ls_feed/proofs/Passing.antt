-- Passes of which one is taken out and put in again.
use Rattle.std.proofs.Common.{◌≡◌, ℕ, zero, suc, ◌<◌, List, [], ◌∷◌, ◌++◌, length, set, Some, None, Option, slice_get, refl, ap, sym, ◌∙◌, subst}
use Rattle.std.proofs.Common.{arith, ◌⊎◌, inl, inr, ⊎_elim, append_assoc}
use mathlib.Core.List.{IsPrefix}
use Rattle.ls_event.specs.declared.item.ItemDef.{ItemDef}
use Rattle.std.specs.Prelude.{Ok}
use Rattle.ls_event.specs.declared.event.Event.{Event}
use Rattle.ls_event.specs.declared.event.Entry.{Entry}
use Rattle.ls_event.specs.declared.event.PublishRefused.{PublishRefused}
use Rattle.ls_event.specs.EventText.{event_of}
use Rattle.ls_event.specs.History.{HasFields}
use Rattle.ls_live.specs.Live.{Pass, IsCause, cause_in, entry_of}
use Rattle.ls_feed.specs.declared.offer.Offer.{Offer}
use Rattle.ls_feed.specs.declared.reply.FeedReply.{FeedReply}
use Rattle.ls_feed.specs.Offers.{fields_of, FitsItem}
use Rattle.ls_feed.specs.Replies.{pass_at, seen_by, ArePasses, IsPassOf, Unchanged, Offered, TrueOf, cause_of}
use Rattle.ls_feed.proofs.Cells.{event_fits}

-- beginnings of beginnings
prefix_trans : {A : Type 0} (xs ys zs : List A) → IsPrefix xs ys → IsPrefix ys zs → IsPrefix xs zs
prefix_trans xs ys zs p q = (p.0 ++ q.0, sym (append_assoc xs p.0 q.0) ∙ (ap (λ w. w ++ q.0) p.1 ∙ q.1))

-- at its own place stands what was put there
pub at_set : (ps : List (Option Pass)) (i : ℕ) (p : Option Pass) → i < length ps → pass_at (set ps i p) i ≡ p
at_set [] i p l = absurd (omega (arith, l))
at_set (x ∷ ps) zero p l = refl
at_set (x ∷ ps) (suc i) p l = at_set ps i p (omega (arith, l))

-- at another place what stood there
pub at_other : (ps : List (Option Pass)) (i j : ℕ) (p : Option Pass) → (j ≡ i → ⊥) → pass_at (set ps i p) j ≡ pass_at ps j
at_other [] i j p n = refl
at_other (x ∷ ps) zero zero p n = absurd (n refl)
at_other (x ∷ ps) zero (suc j) p n = refl
at_other (x ∷ ps) (suc i) zero p n = refl
at_other (x ∷ ps) (suc i) (suc j) p n = at_other ps i j p (λ e. n (ap suc e))

-- one more place without a pass
pub at_snoc : (ps : List (Option Pass)) (j : ℕ) → pass_at (ps ++ None ∷ []) j ≡ pass_at ps j
at_snoc [] zero = refl
at_snoc [] (suc j) = refl
at_snoc (x ∷ ps) zero = refl
at_snoc (x ∷ ps) (suc j) = at_snoc ps j

pub snoc_unchanged : (ps qs : List (Option Pass)) → Unchanged ps qs → Unchanged ps (qs ++ None ∷ [])
snoc_unchanged ps qs u j = at_snoc qs j ∙ u j

set_length : (ps : List (Option Pass)) (i : ℕ) (p : Option Pass) → length (set ps i p) ≡ length ps
set_length [] i p = refl
set_length (x ∷ ps) zero p = refl
set_length (x ∷ ps) (suc i) p = ap suc (set_length ps i p)

-- a pass was taken out, and one put in
pub at_put : (ps : List (Option Pass)) (i : ℕ) (p : Pass) → i < length ps → pass_at (set (set ps i None) i (Some p)) i ≡ Some p
at_put ps i p l = at_set (set ps i None) i (Some p) (omega (arith, l, set_length ps i None))

pub others_put : (ps : List (Option Pass)) (i : ℕ) (p : Pass) → (j : ℕ) → (j ≡ i → ⊥) → pass_at (set (set ps i None) i (Some p)) j ≡ pass_at ps j
others_put ps i p j n = at_other (set ps i None) i j (Some p) n ∙ at_other ps i j None n

decide : (i j : ℕ) → (j ≡ i) ⊎ (j ≡ i → ⊥)
decide zero zero = inl refl
decide zero (suc j) = inr (λ e. omega arith)
decide (suc i) zero = inr (λ e. omega arith)
decide (suc i) (suc j) = ⊎_elim (λ e. inl (ap suc e)) (λ n. inr (λ e. n (omega arith))) (decide i j)

-- each is still the adapter's pass of its item
pub are_put : (items : List ItemDef) (adapter : ℕ) (ps qs : List (Option Pass)) (i : ℕ) (p : Pass) → ArePasses items adapter ps
    → IsPassOf items adapter i p → pass_at qs i ≡ Some p → ((j : ℕ) → (j ≡ i → ⊥) → pass_at qs j ≡ pass_at ps j)
    → ArePasses items adapter qs
are_put items adapter ps qs i p are is at others j q found =
    ⊎_elim
    (λ (e : j ≡ i). let here : pass_at qs i ≡ Some q = subst (λ k. pass_at qs k ≡ Some q) e found in
    let same : p ≡ q = cc (here, at) in
    subst (λ k. IsPassOf items adapter k q) (sym e) (subst (λ (x : Pass). IsPassOf items adapter i x) same is))
    (λ (n : j ≡ i → ⊥). are j q (sym (others j n) ∙ found))
    (decide i j)

pub are_unchanged : (items : List ItemDef) (adapter : ℕ) (ps qs : List (Option Pass)) → ArePasses items adapter ps → Unchanged ps qs
    → ArePasses items adapter qs
are_unchanged items adapter ps qs are same j q found = are j q (sym (same j) ∙ found)

-- no pass at all
pub none_are : (items : List ItemDef) (adapter : ℕ) → ArePasses items adapter []
none_are items adapter j q found = absurd (cc found)

-- what stands in a list below its length
pub some_at : {A : Type 0} (xs : List A) (i : ℕ) → i < length xs → (x : A) × (slice_get xs i ≡ Some x)
some_at [] i l = absurd (omega (arith, l))
some_at (x ∷ xs) zero l = (x, refl)
some_at (x ∷ xs) (suc i) l = some_at xs i (omega (arith, l))

-- an item's event, as it was read
pub fits_item : (items : List ItemDef) (item seq : ℕ) (e : Event) (text : List ℕ) (fields : List (List ℕ)) → item < length items
    → fields ≡ fields_of (slice_get items item) → event_of fields text ≡ Ok e
    → FitsItem items (record { item = item; seq = seq; event = e })
fits_item items item seq e text fields l is read =
    let d = some_at items item l in
    let same : fields ≡ d.0.fields = is ∙ ap fields_of d.1 in
    record { def = d.0; declared = d.1; fits = subst (λ (fs : List (List ℕ)). HasFields (length fs) e) same (event_fits fields text e read) }

-- a pass that has moved on is still that of its item
pub same_item : (p q : Pass) → q.adapter ≡ p.adapter
    → (q.table ≡ p.table) × (q.shape ≡ p.shape) × (q.item ≡ p.item) × (q.place ≡ p.place)
    → q ≡ record p { list = q.list }
same_item p q a e = λ i. record {
  adapter = a i;
  item = e.2 i;
  place = e.3 i;
  table = e.0 i;
  shape = e.1 i;
  list = q.list;
}

same_pass : (items : List ItemDef) (adapter item : ℕ) (p q : Pass) → IsPassOf items adapter item p
    → q ≡ record p { list = q.list } → IsPassOf items adapter item q
same_pass items adapter item p q is same =
    subst (λ (x : Pass). IsPassOf items adapter item x) (sym same) (record {
      of = record {
        number = is.of.number;
        place = is.of.place;
        place_is = is.of.place_is;
        shows = is.of.shows;
      };
      adapter_is = is.adapter_is;
    })

-- a pass was taken out, has moved on, and was put in again
pub offered_so : (items : List ItemDef) (adapter : ℕ) (o : Offer) (r : FeedReply) (ps ms qs : List (Option Pass)) (p q : Pass) → o.item < length ps
    → IsPassOf items adapter o.item p → IsPrefix (seen_by (pass_at ps o.item)) p.list → ms ≡ set ps o.item None → IsPrefix p.list q.list
    → q ≡ record p { list = q.list } → TrueOf o q r → qs ≡ set ms o.item (Some q) → Offered items adapter o r ps qs
offered_so items adapter o r ps ms qs p q l is seen out grows same says in' =
    let all : qs ≡ set (set ps o.item None) o.item (Some q) = in' ∙ ap (λ (x : List (Option Pass)). set x o.item (Some q)) out in
    record {
      pass = q;
      is = ap (λ (x : List (Option Pass)). pass_at x o.item) all ∙ at_put ps o.item q l;
      of = same_pass items adapter o.item p q is same;
      grows = prefix_trans (seen_by (pass_at ps o.item)) p.list q.list seen grows;
      says = says;
      others = λ j n. ap (λ (x : List (Option Pass)). pass_at x j) all ∙ others_put ps o.item q j n;
    }

-- each pass is then still the adapter's
pub are_offered : (items : List ItemDef) (adapter : ℕ) (o : Offer) (r : FeedReply) (ps qs : List (Option Pass)) → ArePasses items adapter ps
    → Offered items adapter o r ps qs → ArePasses items adapter qs
are_offered items adapter o r ps qs are one = are_put items adapter ps qs o.item one.pass are one.of one.is one.others

-- a cause behind a pass that has moved on
pub caused : (o : Offer) (p q : Pass) (cause : PublishRefused) → q ≡ record p { list = q.list }
    → IsCause (cause_in p.shape q.list (entry_of p.adapter o.seq o.event)) cause → IsCause (cause_of o q) cause
caused o p q cause same is =
    subst (λ (x : Pass). IsCause (cause_in x.shape q.list (entry_of x.adapter o.seq o.event)) cause) (sym same) is

-- where there was no pass, nothing was seen
pub from_none : (ps : List (Option Pass)) (item : ℕ) (list : List Entry) → pass_at ps item ≡ None → IsPrefix (seen_by (pass_at ps item)) list
from_none ps item list none = rw none (list, refl)
