use Rattle.std.proofs.Common.{◌==◌, ◌∙◌, ap, sym, cond, Some, option_map}
use Rattle.ls_subs.specs.Kept.{items_of}
use Rattle.ls_subs.proofs.Keeping.{map_cond, is_some_map, on_ok, inserted_count, finished_stands}
use Rattle.ls_subs.proofs.subs.Subs.finish.Goals as goal

pub returns : goal.returns
returns c =
    let ok = c.insert-none.ensures.succeeds c.requires.room in
    finished_stands c.args.self.now (record { alloc = c.args.self.now.alloc; items = c.insert-none.new.self }) c.args.sub c.args.items.items c.args.slots.now
    (λ q. ap (option_map (λ items. items.items)) ((on_ok _ _ ok c.insert-none.ensures.updates).0 q)
    ∙ map_cond (λ items. items.items) (c.args.sub == q) (Some _) _
    ∙ ap (λ xs. cond (c.args.sub == q) (Some xs) (items_of c.args.self.now q)) c.with_slots-items.ensures)
    (inserted_count _ _ _ _ ok c.insert-none.ensures.old c.insert-none.ensures.len (sym (is_some_map (λ items. items.items) _) ∙ c.requires.new))
    c.requires.new c.requires.ready
