use Rattle.std.proofs.Common.{◌≡◌, ◌==◌, ◌∙◌, ap, sym, Some, None, option_map}
use Rattle.ls_subs.specs.declared.subs.Subs.{Subs}
use Rattle.ls_subs.specs.Kept.{items_of}
use Rattle.ls_subs.proofs.Keeping.{map_cond, is_some_of}
use Rattle.ls_subs.proofs.Limiting.{Limited, limited_of, limited_some, limited_subs, none_limited}
use Rattle.ls_subs.proofs.subs.Subs.set_frequency.Goals as goal

pub returns-in-None-clause-stands : goal.returns-in-None-clause-stands
returns-in-None-clause-stands c = λ lines round f filtered s.
    let k : Subs = c.args.self.now in
    let k' : Subs = record { alloc = k.alloc; items = c.get_mut.follows.lender-at-none } in
    let none : items_of k c.args.sub ≡ None = sym (ap (option_map (λ v. v.items)) c.in-None.ensures.value) in
    limited_subs k k' c.args.sub c.args.frequency
    (none_limited k k' c.args.sub c.args.frequency none (ap (λ m. record { alloc = k.alloc; items = m }) c.get_mut.follows.holds-at-none))
    lines round f filtered s

abbrev after : goal.After-self-in-Some-1 → Subs
after c = record { alloc = c.args.self.now.alloc; items = c.get_mut.follows.lender c.set_all.new.items }

limited : (c : goal.After-self-in-Some-1) → Limited c.args.self.now (after c) c.args.sub c.args.frequency
limited c = limited_of c.args.self.now (after c) c.args.sub c.args.frequency c.in-Some.items.now.items c.set_all.new.items.items
    (sym (ap (option_map (λ v. v.items)) c.in-Some.ensures.value)) c.set_all.ensures
    (λ q. ap (option_map (λ v. v.items)) (((c.get_mut.follows.holds c.set_all.new.items).3 (is_some_of _ _ c.in-Some.ensures.value)).0 q)
    ∙ map_cond (λ v. v.items) (c.args.sub == q) (Some c.set_all.new.items) _)
    (c.get_mut.follows.holds c.set_all.new.items).2

pub returns-in-Some-clause-stands : goal.returns-in-Some-clause-stands
returns-in-Some-clause-stands c = limited_subs c.args.self.now (after c) c.args.sub c.args.frequency (limited c)

pub returns-in-Some-clause-kept : goal.returns-in-Some-clause-kept
returns-in-Some-clause-kept c = limited_some c.args.self.now (after c) c.args.sub c.args.frequency (limited c)
