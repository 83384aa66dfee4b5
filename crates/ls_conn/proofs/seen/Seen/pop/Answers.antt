use Rattle.std.proofs.Common.{◌≡◌, List, [], ◌∷◌, ◌++◌, MatchOption, length, vec_len, arith, subst}
use Rattle.ls_told.specs.Seen.{Testified}
use Rattle.ls_conn.proofs.Lasts.{popped}
use Rattle.ls_conn.proofs.seen.Seen.pop.Goals as goal

pub returns : goal.returns
returns g c =
    let v = c.self.inside.tokens in
    subst (λ (ts : List Testified). MatchOption c.pop.result ((ts ≡ []) × (c.pop.new.self.items ≡ [])) (λ t. ts ≡ c.pop.new.self.items ++ t ∷ []))
    c.self.view_is (popped v.items c.pop.new.self.items (vec_len v) c.pop.result c.pop.ensures.items c.pop.ensures.variant (omega (arith, v.ok.0)))
