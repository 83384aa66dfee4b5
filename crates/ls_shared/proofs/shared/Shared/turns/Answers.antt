use Rattle.std.proofs.Common.{◌≡◌, ℕ, ◌∙◌, sym, ap, subst, List}
use Rattle.std.specs.Result.{IfOk}
use mathlib.Core.List.{IsPrefix}
use Rattle.ls_register.specs.declared.told.Told.{Told}
use Rattle.ls_told.specs.Seen.{Watched, SeesMore}
use Rattle.ls_live_session.specs.Groups.{SubSeen}
use Rattle.ls_shared.specs.Asking.{GoesRound}
use Rattle.ls_shared.specs.Taking.{EndsTurn}
use Rattle.ls_shared.proofs.shared.Shared.turns.Goals as goal

pub steps-requires-clause-goes : goal.steps-requires-clause-goes
steps-requires-clause-goes g c =
    subst (λ (t : ℕ × List Told × List Watched × List SubSeen). GoesRound g.N.House.deed.config t.0 t.1 t.2 t.2 t.3 c.begin_round.new.parts.session)
    (λ i. (
      sym (ap (λ p. p.number) c.begin_round.ensures.rest) i,
      sym c.begin_round.ensures.same.0 i,
      sym (ap (λ p. p.watches.items) c.begin_round.ensures.rest) i,
      sym (ap (λ p. p.subs.items) c.begin_round.ensures.rest) i,
    )) c.begin_round.ensures.goes

pub steps-requires-clause-lives : goal.steps-requires-clause-lives
steps-requires-clause-lives g c = let goes = steps-requires-clause-goes g c in (goes.r, goes.lives)

pub returns-clause-items : goal.returns-clause-items
returns-clause-items g c =
    subst (λ (ws : List Watched). SeesMore ws c.steps.new.parts.watches.items) (ap (λ p. p.watches.items) c.begin_round.ensures.rest) c.steps.ensures.items

pub returns-clause-begins : goal.returns-clause-begins
returns-clause-begins g c =
    subst (λ (es : List Told). IsPrefix es c.steps.new.parts.history.list) c.begin_round.ensures.same.0 c.steps.ensures.begins

pub returns-clause-turn : goal.returns-clause-turn
returns-clause-turn g c =
    subst
    (λ (t : ℕ × List Told × List Watched). IfOk c.steps.result (EndsTurn g.N.House.deed.config t.0 c.args.epoch c.args.now t.2 t.1
    c.steps.new.parts.history.list c.steps.new.parts.watches.items c.steps.new.into))
    (λ i. (
      ap (λ p. p.number) c.begin_round.ensures.rest i,
      c.begin_round.ensures.same.0 i,
      ap (λ p. p.watches.items) c.begin_round.ensures.rest i,
    )) c.steps.ensures.turn
