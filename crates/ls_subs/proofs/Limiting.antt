-- What is kept stands for the round as a subscription gets another greatest frequency.
use Rattle.std.proofs.Common.{◌≡◌, ◌==◌, ℕ, zero, suc, List, ◌∷◌, map, refl, sym, ◌∙◌, ap, subst, cond, Bool, true, false, Option, Some, None}
use Rattle.std.proofs.Common.{is_some, option_map}
use Rattle.std.specs.Prelude.{option_and_then}
use Rattle.std.proofs.lemmas.Bool.{eqb-true}
use Rattle.std.proofs.lemmas.Option.{slice_get-map}
use Rattle.ls_record.specs.Lines.{Line, Configures}
use Rattle.ls_record.specs.Records.{LiveSlot, is_of, live_at, with_frequency}
use Rattle.ls_subs.specs.declared.plan.PlanItem.{PlanItem}
use Rattle.ls_subs.specs.declared.subs.Subs.{Subs}
use Rattle.ls_subs.specs.Kept.{items_of, item_at, kept_at, has_sub, count_of, limited}
use Rattle.ls_subs.specs.Standing.{StandsKeptAt, StandsSubs}
use Rattle.ls_subs.proofs.Frequencies.{limited_stands}
use Rattle.ls_subs.proofs.Keeping.{is_some_map}
use Rattle.ls_subs.proofs.Mapped.{SameName, mapped_stands}
use Rattle.ls_subs.proofs.Rounds.{found_is}

-- the items of a subscription have another greatest frequency
pub record Limited (k k' : Subs) (sub : ℕ) (f : Option ℕ) : Type 0 where
  pub items : (q : ℕ) → items_of k' q ≡ cond (sub == q) (option_map (map (limited f)) (items_of k q)) (items_of k q)
  pub count : count_of k' ≡ count_of k

item_limited : (f : Option ℕ) (rank : ℕ) (items : List PlanItem) → item_at (map (limited f) items) rank ≡ option_map (limited f) (item_at items rank)
item_limited f zero items = refl
item_limited f (suc n) items = slice_get-map (limited f) items n

-- what is kept at each place
kept_limited : (k k' : Subs) (sub : ℕ) (f : Option ℕ) → Limited k k' sub f → (q rank : ℕ) → kept_at k' q rank
    ≡ cond (sub == q) (option_map (limited f) (kept_at k q rank)) (kept_at k q rank)
kept_limited k k' sub f l q rank = ap (option_and_then (λ items. item_at items rank)) (l.items q) ∙ by_test (sub == q) (items_of k q)
  where
    by_test : (b : Bool) (o : Option (List PlanItem)) → option_and_then (λ items. item_at items rank) (cond b (option_map (map (limited f)) o) o)
        ≡ cond b (option_map (limited f) (option_and_then (λ items. item_at items rank) o)) (option_and_then (λ items. item_at items rank) o)
    by_test true None = refl
    by_test true (Some items) = item_limited f rank items
    by_test false o = refl

pub limited_some : (k k' : Subs) (sub : ℕ) (f : Option ℕ) → Limited k k' sub f → (q rank : ℕ) → is_some (kept_at k' q rank) ≡ is_some (kept_at k q rank)
limited_some k k' sub f l q rank = ap is_some (kept_limited k k' sub f l q rank) ∙ by_test (sub == q) (kept_at k q rank)
  where
    by_test : (b : Bool) (o : Option PlanItem) → is_some (cond b (option_map (limited f) o) o) ≡ is_some o
    by_test true o = is_some_map (limited f) o
    by_test false o = refl

limited_has : (k k' : Subs) (sub : ℕ) (f : Option ℕ) → Limited k k' sub f → (q : ℕ) → has_sub k' q ≡ has_sub k q
limited_has k k' sub f l q = ap is_some (l.items q) ∙ by_test (sub == q) (items_of k q)
  where
    by_test : (b : Bool) (o : Option (List PlanItem)) → is_some (cond b (option_map (map (limited f)) o) o) ≡ is_some o
    by_test true o = is_some_map (map (limited f)) o
    by_test false o = refl

-- a slot keeps its name
named : (sub : ℕ) (f : Option ℕ) (v : LiveSlot) → SameName v (with_frequency sub f v)
named sub f v = by_test (is_of sub v)
  where
    by_test : (b : Bool) → SameName v (cond b (record v { frequency = f }) v)
    by_test true = record { sub = refl; rank = refl }
    by_test false = record { sub = refl; rank = refl }

-- what is kept of it stands for it, by lines that bring it what they brought
kept_stands : (sub q : ℕ) (f told : Option ℕ) (filtered : Bool) (lines : List Line) (o : Option PlanItem) (w : Option LiveSlot)
    → ((v : LiveSlot) → w ≡ Some v → q ≡ v.sub) → StandsKeptAt o lines w
    → StandsKeptAt (cond (sub == q) (option_map (limited f) o) o) (Configures sub told filtered ∷ lines) (option_map (with_frequency sub f) w)
kept_stands sub q f told filtered lines None None is s = by_test (sub == q)
  where
    by_test : (b : Bool) → StandsKeptAt (cond b None None) (Configures sub told filtered ∷ lines) None
    by_test true = tt
    by_test false = tt
kept_stands sub q f told filtered lines None (Some v) is s = absurd s
kept_stands sub q f told filtered lines (Some p) None is s = absurd s
kept_stands sub q f told filtered lines (Some p) (Some v) is s =
    subst (λ n. StandsKeptAt (cond (sub == q) (Some (limited f p)) (Some p)) (Configures sub told filtered ∷ lines)
    (Some (cond (sub == n) (record v { frequency = f }) v))) (is v refl) (by_test (sub == q))
  where
    by_test : (b : Bool) → StandsKeptAt (cond b (Some (limited f p)) (Some p)) (Configures sub told filtered ∷ lines)
        (Some (cond b (record v { frequency = f }) v))
    by_test true =
        record {
          sub = s.sub;
          rank = s.rank;
          item = s.item;
          number = s.number;
          mode = s.mode;
          allowed = s.allowed;
          frequency = limited_stands p.frequency v.frequency f _ s.frequency;
          narrow = s.narrow;
          client = s.client;
        }
    by_test false =
        record {
          sub = s.sub;
          rank = s.rank;
          item = s.item;
          number = s.number;
          mode = s.mode;
          allowed = s.allowed;
          frequency = s.frequency;
          narrow = s.narrow;
          client = s.client;
        }

pub limited_subs : (k k' : Subs) (sub : ℕ) (f : Option ℕ) → Limited k k' sub f → (lines : List Line) (round : List LiveSlot) (told : Option ℕ) (filtered : Bool)
    → StandsSubs k lines round → StandsSubs k' (Configures sub told filtered ∷ lines) (map (with_frequency sub f) round)
limited_subs k k' sub f l lines round told filtered s =
    mapped_stands (with_frequency sub f) (named sub f) k k' lines (Configures sub told filtered ∷ lines) round (limited_has k k' sub f l) l.count
    (λ q rank st. subst (λ (o : Option PlanItem). StandsKeptAt o (Configures sub told filtered ∷ lines)
    (option_map (with_frequency sub f) (live_at q rank round)))
    (sym (kept_limited k k' sub f l q rank))
    (kept_stands sub q f told filtered lines (kept_at k q rank) (live_at q rank round) (λ v e. (found_is q rank round v e).0) st)) s

-- by the entries of the map
pub limited_of : (k k' : Subs) (sub : ℕ) (f : Option ℕ) (items items' : List PlanItem) → items_of k sub ≡ Some items → items' ≡ map (limited f) items
    → ((q : ℕ) → items_of k' q ≡ cond (sub == q) (Some items') (items_of k q)) → count_of k' ≡ count_of k → Limited k k' sub f
limited_of k k' sub f items items' is set changed count = record { items = λ q. changed q ∙ by_test q (sub == q) refl; count = count }
  where
    by_test : (q : ℕ) (b : Bool) → (sub == q) ≡ b
        → cond b (Some items') (items_of k q) ≡ cond b (option_map (map (limited f)) (items_of k q)) (items_of k q)
    by_test q true same = ap Some set ∙ ap (option_map (map (limited f))) (sym is ∙ ap (items_of k) (eqb-true sub q same))
    by_test q false other = refl

-- where no such subscription is live
pub none_limited : (k k' : Subs) (sub : ℕ) (f : Option ℕ) → items_of k sub ≡ None → k' ≡ k → Limited k k' sub f
none_limited k k' sub f none same = subst (λ (x : Subs). Limited k x sub f) (sym same) (record { items = λ q. by_test q (sub == q) refl; count = refl })
  where
    by_test : (q : ℕ) (b : Bool) → (sub == q) ≡ b → items_of k q ≡ cond b (option_map (map (limited f)) (items_of k q)) (items_of k q)
    by_test q true here =
        let gone : items_of k q ≡ None = sym (ap (items_of k) (eqb-true sub q here)) ∙ none in
        gone ∙ sym (ap (option_map (map (limited f))) gone)
    by_test q false other = refl
