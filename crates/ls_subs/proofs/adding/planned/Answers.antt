use Rattle.std.proofs.Common.{◌∙◌, ap, refl, sym, subst, length, map, List, ℕ, ◌<◌, ◌≤◌}
use Rattle.ls_value.specs.Each.{Each}
use Rattle.ls_subs.specs.Plans.{ArePlanItems, first_keys}
use Rattle.ls_subs.proofs.Asks.{ask_at, group_within, group_some, schema_few, first_few, begins_are, configures_are}
use Rattle.ls_subs.proofs.adding.planned.Goals as goal

pub plan_items-requires-clause-declared : goal.plan_items-requires-clause-declared
plan_items-requires-clause-declared c =
    subst (λ (ns : List ℕ). Each (λ n. n < length c.args.defs.now) ns) (sym c.requires.group)
    (group_within c.args.defs.now c.args.add.now.group c.requires.is_group)

pub begin_text-requires : goal.begin_text-requires
begin_text-requires c = λ k is.
    first_few c.args.defs.now c.args.add.now c.args.group.now c.in_ok-items.items.items
    (schema_few c.args.defs.now c.args.add.now.mode c.args.group.now c.args.add.now.schema c.requires.is_schema) c.in_ok-items.ensures k
    (sym (c.first_keys.ensures ∙ ap first_keys c.deref.ensures.value) ∙ is)

pub returns : goal.returns
returns c =
    let defs = c.args.defs.now in
    let a = c.args.add.now in
    record {
      sub = refl;
      items = subst (λ (ns : List ℕ). ArePlanItems defs a.sub 1 (map (ask_at defs a) ns) c.in_ok-items.items.items) c.requires.group c.in_ok-items.ensures;
      begins = c.in_ok-begins.ensures ∙ begins_are defs a c.args.group.now c.in_ok-items.items.items _ _ _ c.requires.group refl c.len.ensures
          (c.first_keys.ensures ∙ ap first_keys c.deref.ensures.value) c.in_ok-items.ensures;
      configures = c.in_ok-configures.ensures ∙ configures_are defs a c.args.group.now _ _ c.requires.group
          (subst (λ (ns : List ℕ). 1 ≤ length ns) (sym c.requires.group) (group_some defs a.group c.requires.is_group)) c.frequency_in.ensures
          c.is_filtered.ensures;
    }
