use Rattle.std.proofs.Common.{◌≡◌, ◌==◌, ◌∙◌, ap, sym, refl, subst, cond, ℕ, Option, Some, None, option_map, IfOk, OnOk, OnErr}
use Rattle.std.specs.Prelude.{option_and_then}
use Rattle.ls_subs.specs.declared.plan.PlanItem.{PlanItem}
use Rattle.ls_subs.specs.declared.subs.Subs.{Subs}
use Rattle.ls_subs.specs.declared.cut_line.CutLine.TheVariants as tells
use Rattle.ls_subs.specs.Subscription.{Appends}
use Rattle.ls_subs.specs.Kept.{items_of, item_at, kept_at, line_of, AreAlike}
use Rattle.ls_subs.proofs.Keeping.{map_cond, is_some_of, ok_then, ok_both, either, err_then}
use Rattle.ls_subs.proofs.Accepting.{Heard, accepted, heard_of, heard_some, alike_of, alike_some, none_heard, absent_alike, no_line}
use Rattle.ls_subs.proofs.subs.Subs.accept.Goals as goal

pub returns-in-None-clause-accepted : goal.returns-in-None-clause-accepted
returns-in-None-clause-accepted c =
    let k : Subs = c.args.self.now in
    let k' : Subs = record { alloc = k.alloc; items = c.get_mut.follows.lender-at-none } in
    let same : k' ≡ k = ap (λ m. record { alloc = k.alloc; items = m }) c.get_mut.follows.holds-at-none in
    let alike : AreAlike k k' = subst (λ (x : Subs). AreAlike k x) (sym same) ((λ q. refl), refl) in
    let none : items_of k c.args.slot.now.sub ≡ None = sym (ap (option_map (λ v. v.items)) c.in-None.ensures.value) in
    let text : Appends (record { told = tells.Nothing; before = c.args.text.now.items; after = c.args.text.now.items })
    (line_of (kept_at k c.args.slot.now.sub c.args.slot.now.place) c.args.taken) = no_line k c.args.slot.now.sub c.args.slot.now.place c.args.taken _ none in
    accepted k k' c.args.slot.now c.args.now c.args.taken (record { told = tells.Nothing; before = c.args.text.now.items; after = c.args.text.now.items })
    (none_heard k k' c.args.slot.now.sub c.args.slot.now.place c.args.now c.args.taken none alike) text

abbrev after : goal.After-self-in-Some-1 → Subs
after c = record { alloc = c.args.self.now.alloc; items = c.get_mut.follows.lender c.accept_at.new.items }

found : (c : goal.After-self-in-Some-1) → items_of c.args.self.now c.args.slot.now.sub ≡ Some c.in-Some.items.now.items
found c = sym (ap (option_map (λ v. v.items)) c.in-Some.ensures.value)

changed : (c : goal.After-self-in-Some-1) (q : ℕ) → items_of (after c) q
    ≡ cond (c.args.slot.now.sub == q) (Some c.accept_at.new.items.items) (items_of c.args.self.now q)
changed c q = ap (option_map (λ v. v.items)) (((c.get_mut.follows.holds c.accept_at.new.items).3 (is_some_of _ _ c.in-Some.ensures.value)).0 q)
    ∙ map_cond (λ v. v.items) (c.args.slot.now.sub == q) (Some c.accept_at.new.items) _

heard : (c : goal.After-self-in-Some-1) → OnOk c.accept_at.result (Heard c.args.self.now (after c) c.args.slot.now.sub c.args.slot.now.place c.args.now
    c.args.taken)
heard c = ok_then c.accept_at.result _ _
    (λ e. heard_of c.args.self.now (after c) c.args.slot.now.sub c.args.slot.now.place c.args.now c.args.taken c.in-Some.items.now.items
    c.accept_at.new.items.items (found c) e (changed c) (c.get_mut.follows.holds c.accept_at.new.items).2) c.accept_at.ensures.ok

alike : (c : goal.After-self-in-Some-1) → OnErr c.accept_at.result (AreAlike c.args.self.now (after c))
alike c = err_then c.accept_at.result _ _
    (λ e. alike_of c.args.self.now (after c) c.args.slot.now.sub c.in-Some.items.now.items c.accept_at.new.items.items
    (found c) e (changed c) (c.get_mut.follows.holds c.accept_at.new.items).2) c.accept_at.ensures.err

pub returns-in-Some-clause-accepted : goal.returns-in-Some-clause-accepted
returns-in-Some-clause-accepted c =
    let k = c.args.self.now in
    let kept : kept_at k c.args.slot.now.sub c.args.slot.now.place ≡ item_at c.in-Some.items.now.items c.args.slot.now.place =
    ap (option_and_then (λ items. item_at items c.args.slot.now.place)) (found c) in
    ok_both c.accept_at.result
    (λ told. Appends (record { told = told; before = c.args.text.now.items; after = c.accept_at.new.text.items })
    (line_of (kept_at k c.args.slot.now.sub c.args.slot.now.place) c.args.taken))
    (Heard k (after c) c.args.slot.now.sub c.args.slot.now.place c.args.now c.args.taken) _
    (λ told line h. accepted k (after c) c.args.slot.now c.args.now c.args.taken
    (record { told = told; before = c.args.text.now.items; after = c.accept_at.new.text.items }) h line)
    (subst (λ (o : Option PlanItem). IfOk c.accept_at.result (λ told. Appends (record {
      told = told;
      before = c.args.text.now.items;
      after = c.accept_at.new.text.items;
    }) (line_of o c.args.taken))) (sym kept) c.accept_at.ensures.line)
    (heard c)

pub returns-in-Some-clause-absent : goal.returns-in-Some-clause-absent
returns-in-Some-clause-absent c = λ none.
    let k = c.args.self.now in
    let kept : kept_at k c.args.slot.now.sub c.args.slot.now.place ≡ item_at c.in-Some.items.now.items c.args.slot.now.place =
    ap (option_and_then (λ items. item_at items c.args.slot.now.place)) (found c) in
    let stays = c.accept_at.ensures.absent (sym kept ∙ none) in (
      stays.0,
      either c.accept_at.result _ _ _
          (λ h. absent_alike k (after c) c.args.slot.now.sub c.args.slot.now.place c.args.now c.args.taken h none) (λ a. a) (heard c) (alike c),
      stays.1,
    )

pub returns-in-Some-clause-kept : goal.returns-in-Some-clause-kept
returns-in-Some-clause-kept c =
    either c.accept_at.result _ _ _
    (heard_some c.args.self.now (after c) c.args.slot.now.sub c.args.slot.now.place c.args.now c.args.taken)
    (λ a. alike_some c.args.self.now (after c) a) (heard c) (alike c)
