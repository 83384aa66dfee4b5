use Rattle.std.proofs.Common.{◌≡◌, ◌+◌, ◌==◌, ◌∙◌, ap, sym, subst, cond, None, option_map, is_some, hash_map_len}
use Rattle.ls_subs.proofs.Keeping.{map_cond, is_some_map, removed_stands}
use Rattle.ls_subs.proofs.subs.Subs.remove.Goals as goal

pub returns-clause-stands : goal.returns-clause-stands
returns-clause-stands c =
    removed_stands c.args.self.now (record { alloc = c.args.self.now.alloc; items = c.swap_remove.new.self }) c.args.sub
    (λ q. ap (option_map (λ items. items.items)) (c.swap_remove.ensures.updates.0 q) ∙ map_cond (λ items. items.items) (c.args.sub == q) None _)
    (subst (λ b. hash_map_len c.swap_remove.new.self + cond b 1 0 ≡ hash_map_len c.args.self.now.items)
    (ap is_some c.swap_remove.ensures.value ∙ sym (is_some_map (λ items. items.items) _)) c.swap_remove.ensures.len)
