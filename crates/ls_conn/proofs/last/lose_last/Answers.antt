use Rattle.std.proofs.Common.{◌≡◌, ◌∙◌, sym, vec_len, arith}
use Rattle.ls_conn.proofs.Lasts.{last_holds, has_none, none_there}
use Rattle.ls_conn.proofs.last.lose_last.Goals as goal

pub unreachable-requires : goal.unreachable-requires
unreachable-requires g c =
    let v = c.seen.inside.tokens in
    has_none _ _ c.requires.last (sym c.seen.view_is ∙ none_there v.items (vec_len v) c.in_default.ensures.variant (omega (arith, v.ok.0)))

pub lose-requires-clause-bound : goal.lose-requires-clause-bound
lose-requires-clause-bound g c = last_holds _ _ c.in-Some.token _ c.requires.last (sym c.seen.view_is ∙ c.in-Some.ensures.items)
