use Rattle.std.proofs.Common.{◌≡◌, IfSome, List, ◌++◌, ◌∷◌, [], sym, ap, ◌∙◌, subst, false}
use Rattle.ls_register.specs.declared.told.Told.{Told}
use Rattle.ls_register.specs.declared.told.Told.TheVariants.{Rate, Bound}
use Rattle.ls_joining.specs.Sights.{ShowsIt}
use Rattle.ls_joining.specs.Lives.{Lives}
use Rattle.ls_joining.proofs.Living.{lives_opened}
use Rattle.ls_live_session.proofs.live.LiveSession.open.Goals as goal

pub invariant_of-result : goal.invariant_of-result
invariant_of-result g c =
    let config = g.N.House.deed.config in
    let a = c.args.create.now in
    let first : List Told = Rate a.bandwidth c.args.now ∷ [] in
    let second : List Told = Bound 1 0 false a.keepalive a.length ∷ [] in
    let lines : c.tell-2.new.self.list ≡ Rate a.bandwidth c.args.now ∷ Bound 1 0 false a.keepalive a.length ∷ [] =
    ap (λ h. h.list) c.tell-2.ensures ∙ ap (λ (h : List Told). h ++ second) (ap (λ h. h.list) c.tell.ensures)
    ∙ ap (λ (h : List Told). (h ++ first) ++ second) c.in_ok-history.ensures in
    subst (λ p. Lives config p.number p.history.list p.watches.items p.subs.items p.session
    × IfSome p.place (λ q. ShowsIt q p.number p.history.table)) (sym c.in_ok-new.ensures.ok) (
      subst (λ (ws : List _). Lives config c.args.number c.tell-2.new.self.list ws c.new-3.result.items c.in_ok-session.session) (sym c.new-2.ensures.items)
          (subst (λ (xs : List _). Lives config c.args.number c.tell-2.new.self.list [] xs c.in_ok-session.session) (sym c.new-3.ensures.items)
          (subst (λ (h : List Told). Lives config c.args.number h [] [] c.in_ok-session.session) (sym lines)
          (lives_opened config c.args.number a.keepalive c.args.now a.bandwidth a.length c.in_ok-session.session c.requires.items c.requires.tick
          (c.in_ok-session.ensures c.requires.tick)))),
      tt,
    )

pub returns-clause-lines : goal.returns-clause-lines
returns-clause-lines g c =
    let a = c.args.create.now in
    ap (λ p. p.history.list) c.in_ok-new.ensures.ok
    ∙ ap (λ h. h.list) c.tell-2.ensures
    ∙ ap (λ (h : List Told). h ++ Bound 1 0 false a.keepalive a.length ∷ []) (ap (λ h. h.list) c.tell.ensures)
    ∙ ap (λ (h : List Told). (h ++ Rate a.bandwidth c.args.now ∷ []) ++ Bound 1 0 false a.keepalive a.length ∷ []) c.in_ok-history.ensures
