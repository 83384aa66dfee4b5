use Rattle.std.proofs.Common.{subst, sym, ◌∙◌, ap, length, ◌∷◌, []}
use Rattle.ls_run.specs.Replay.{KeptReplay, StandsFor}
use Rattle.ls_run.proofs.PieceLines.{last_line-some, last_line-none}
use Rattle.ls_run.proofs.Feeding.{none_left, last_fed}
use Rattle.ls_run.proofs.replay.Replay.finish.Goals as goal

pub returns-clause-feeds : goal.returns-clause-feeds
returns-clause-feeds g c = λ p st.
    let inside = subst (λ (v : KeptReplay). StandsFor v p) (sym c.self.view_is) st in
    let some = ap (λ t. t ∷ []) (c.rest-2.ensures.rest ∙ inside.within.carry)
    ∙ last_line-some p.carry _ (ap (λ bytes. length bytes) (c.rest.ensures.rest ∙ inside.within.carry))
    (sym c.is_empty.ensures ∙ c.if-is_empty.false) in
    last_fed c.write.result c.done-fed.result p _ _ _ _ _ some inside.unwritten (c.done-fed.ensures.holds p.world inside.within.engine) c.write.ensures.writes

pub returns-then-is_empty-clause-feeds : goal.returns-then-is_empty-clause-feeds
returns-then-is_empty-clause-feeds g c = λ p st.
    let inside = subst (λ (v : KeptReplay). StandsFor v p) (sym c.self.view_is) st in
    none_left p _ (last_line-none p.carry _ (ap (λ bytes. length bytes) (c.rest.ensures.rest ∙ inside.within.carry))
    (sym c.is_empty.ensures ∙ c.if-is_empty.true))
