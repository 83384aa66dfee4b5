use Rattle.std.proofs.Common.{◌≡◌, ◌∙◌, ◌++◌, ◌∷◌, [], ◌-◌, ℕ, refl, sym, ap, subst, inr, List}
use Rattle.ls_told.specs.Seen.{Testified, Grows}
use Rattle.ls_session.specs.declared.session.Turn.{Turn}
use Rattle.ls_session.specs.declared.session.Turn.TheVariants as turn
use Rattle.ls_shared.specs.Taking.{EndsTurn}
use mathlib.Core.List.{IsPrefix}
use Rattle.ls_shared.proofs.Taken.{owns, took, took_own, taken}
use Rattle.ls_shared.proofs.Turned.{bound_on}
use Rattle.ls_shared.proofs.shared.Shared.take_in.Goals as goal

pub turns-turn-requires-clause-bound : goal.turns-turn-requires-clause-bound
turns-turn-requires-clause-bound g c =
    bound_on c.args.epoch c.args.sight.now.lines c.deref_mut.result.now.history.list
    (subst (IsPrefix c.args.sight.now.lines) (c.in-Ok.ensures.reached.sees.lines ∙ sym (ap (λ p. p.history.list) c.deref_mut.ensures.value ∙ c.into_parts-parts.ensures.history.1))
    c.in-Ok.ensures.reached.grows.lines) c.requires.bound

pub returns-in_default-turn-clause-memory : goal.returns-in_default-turn-clause-memory
returns-in_default-turn-clause-memory g c = (
  inr (took
      g.N.House.deed.config c.deref_mut.result.now.number c.args.epoch c.args.now c.args.sight.now c.reach.new.sight c.reach-2.new.sight c.args.live c.reach.new.live
      c.of_parts-live.result c.reach-2.new.live c.deref_mut.result.now.watches.items c.deref_mut.result.now.history.list c.turns-turn.new.parts.history.list c.turns-turn.new.parts.watches.items c.turns-turn.new.into
      c.in-Ok.ensures.reached c.in-Ok-reach.ensures.reached (ap (λ p. p.number) c.deref_mut.ensures.value ∙ c.into_parts-parts.ensures.number) (ap (λ p. p.history.list) c.deref_mut.ensures.value ∙ c.into_parts-parts.ensures.history.1)
      (ap (λ s. s.lines) c.of_parts-live.ensures) (ap (λ s. s.lines) c.reach-2.ensures.rest) c.turns-turn.ensures.begins),
  c.in-Ok-reach.ensures.reached.mine ∙ c.in-Ok.ensures.reached.mine,
)

pub own-requires-clause-last : goal.own-requires-clause-last
own-requires-clause-last g c = (owns
    g.N.House.deed.config c.deref_mut.result.now.number c.args.epoch c.args.now c.args.sight.now c.reach.new.sight c.reach-2.new.sight c.args.live c.reach.new.live
    c.of_parts-live.result c.reach-2.new.live c.deref_mut.result.now.watches.items c.deref_mut.result.now.history.list c.turns-turn.new.parts.history.list c.turns-turn.new.parts.watches.items c.turns-turn.new.into
    c.in-Ok.ensures.reached c.in-Ok-reach.ensures.reached (ap (λ p. p.number) c.deref_mut.ensures.value ∙ c.into_parts-parts.ensures.number) (ap (λ p. p.history.list) c.deref_mut.ensures.value ∙ c.into_parts-parts.ensures.history.1)
    (ap (λ s. s.lines) c.of_parts-live.ensures) (ap (λ s. s.lines) c.reach-2.ensures.rest) c.turns-turn.ensures.begins
    c.entries.result c.entries.ensures c.vouch.ensures.given (subst
    (λ (t : Turn). EndsTurn g.N.House.deed.config c.deref_mut.result.now.number c.args.epoch c.args.now c.deref_mut.result.now.watches.items
    c.deref_mut.result.now.history.list c.turns-turn.new.parts.history.list c.turns-turn.new.parts.watches.items c.turns-turn.new.into t) c.in-Send.is c.in-Ok-turn.ensures.turn)).0

pub own-requires-clause-gave : goal.own-requires-clause-gave
own-requires-clause-gave g c = (owns
    g.N.House.deed.config c.deref_mut.result.now.number c.args.epoch c.args.now c.args.sight.now c.reach.new.sight c.reach-2.new.sight c.args.live c.reach.new.live
    c.of_parts-live.result c.reach-2.new.live c.deref_mut.result.now.watches.items c.deref_mut.result.now.history.list c.turns-turn.new.parts.history.list c.turns-turn.new.parts.watches.items c.turns-turn.new.into
    c.in-Ok.ensures.reached c.in-Ok-reach.ensures.reached (ap (λ p. p.number) c.deref_mut.ensures.value ∙ c.into_parts-parts.ensures.number) (ap (λ p. p.history.list) c.deref_mut.ensures.value ∙ c.into_parts-parts.ensures.history.1)
    (ap (λ s. s.lines) c.of_parts-live.ensures) (ap (λ s. s.lines) c.reach-2.ensures.rest) c.turns-turn.ensures.begins
    c.entries.result c.entries.ensures c.vouch.ensures.given (subst
    (λ (t : Turn). EndsTurn g.N.House.deed.config c.deref_mut.result.now.number c.args.epoch c.args.now c.deref_mut.result.now.watches.items
    c.deref_mut.result.now.history.list c.turns-turn.new.parts.history.list c.turns-turn.new.parts.watches.items c.turns-turn.new.into t) c.in-Send.is c.in-Ok-turn.ensures.turn)).1

pub own-requires-clause-fresh : goal.own-requires-clause-fresh
own-requires-clause-fresh g c = (owns
    g.N.House.deed.config c.deref_mut.result.now.number c.args.epoch c.args.now c.args.sight.now c.reach.new.sight c.reach-2.new.sight c.args.live c.reach.new.live
    c.of_parts-live.result c.reach-2.new.live c.deref_mut.result.now.watches.items c.deref_mut.result.now.history.list c.turns-turn.new.parts.history.list c.turns-turn.new.parts.watches.items c.turns-turn.new.into
    c.in-Ok.ensures.reached c.in-Ok-reach.ensures.reached (ap (λ p. p.number) c.deref_mut.ensures.value ∙ c.into_parts-parts.ensures.number) (ap (λ p. p.history.list) c.deref_mut.ensures.value ∙ c.into_parts-parts.ensures.history.1)
    (ap (λ s. s.lines) c.of_parts-live.ensures) (ap (λ s. s.lines) c.reach-2.ensures.rest) c.turns-turn.ensures.begins
    c.entries.result c.entries.ensures c.vouch.ensures.given (subst
    (λ (t : Turn). EndsTurn g.N.House.deed.config c.deref_mut.result.now.number c.args.epoch c.args.now c.deref_mut.result.now.watches.items
    c.deref_mut.result.now.history.list c.turns-turn.new.parts.history.list c.turns-turn.new.parts.watches.items c.turns-turn.new.into t) c.in-Send.is c.in-Ok-turn.ensures.turn)).2

pub returns-in-Send-clause-grows : goal.returns-in-Send-clause-grows
returns-in-Send-clause-grows g c =
    subst (Grows c.args.sight.now) (sym c.own.ensures)
    (took_own
    g.N.House.deed.config c.deref_mut.result.now.number c.args.epoch c.args.now c.args.sight.now c.reach.new.sight c.reach-2.new.sight c.args.live c.reach.new.live
    c.of_parts-live.result c.reach-2.new.live c.deref_mut.result.now.watches.items c.deref_mut.result.now.history.list c.turns-turn.new.parts.history.list c.turns-turn.new.parts.watches.items c.turns-turn.new.into
    c.in-Ok.ensures.reached c.in-Ok-reach.ensures.reached (ap (λ p. p.number) c.deref_mut.ensures.value ∙ c.into_parts-parts.ensures.number) (ap (λ p. p.history.list) c.deref_mut.ensures.value ∙ c.into_parts-parts.ensures.history.1)
    (ap (λ s. s.lines) c.of_parts-live.ensures) (ap (λ s. s.lines) c.reach-2.ensures.rest) c.turns-turn.ensures.begins
    (record c.reach-2.new.sight { mine = c.reach-2.new.sight.mine ++ (c.entries.result - 1) ∷ [] }) refl)

pub returns-in-Send-clause-turn : goal.returns-in-Send-clause-turn
returns-in-Send-clause-turn g c =
    let o = (owns
    g.N.House.deed.config c.deref_mut.result.now.number c.args.epoch c.args.now c.args.sight.now c.reach.new.sight c.reach-2.new.sight c.args.live c.reach.new.live
    c.of_parts-live.result c.reach-2.new.live c.deref_mut.result.now.watches.items c.deref_mut.result.now.history.list c.turns-turn.new.parts.history.list c.turns-turn.new.parts.watches.items c.turns-turn.new.into
    c.in-Ok.ensures.reached c.in-Ok-reach.ensures.reached (ap (λ p. p.number) c.deref_mut.ensures.value ∙ c.into_parts-parts.ensures.number) (ap (λ p. p.history.list) c.deref_mut.ensures.value ∙ c.into_parts-parts.ensures.history.1)
    (ap (λ s. s.lines) c.of_parts-live.ensures) (ap (λ s. s.lines) c.reach-2.ensures.rest) c.turns-turn.ensures.begins
    c.entries.result c.entries.ensures c.vouch.ensures.given (subst
    (λ (t : Turn). EndsTurn g.N.House.deed.config c.deref_mut.result.now.number c.args.epoch c.args.now c.deref_mut.result.now.watches.items
    c.deref_mut.result.now.history.list c.turns-turn.new.parts.history.list c.turns-turn.new.parts.watches.items c.turns-turn.new.into t) c.in-Send.is c.in-Ok-turn.ensures.turn)) in
    taken
    g.N.House.deed.config c.deref_mut.result.now.number c.args.epoch c.args.now c.args.sight.now c.reach.new.sight c.reach-2.new.sight c.args.live c.reach.new.live
    c.of_parts-live.result c.reach-2.new.live c.deref_mut.result.now.watches.items c.deref_mut.result.now.history.list c.turns-turn.new.parts.history.list c.turns-turn.new.parts.watches.items c.turns-turn.new.into
    c.in-Ok.ensures.reached c.in-Ok-reach.ensures.reached (ap (λ p. p.number) c.deref_mut.ensures.value ∙ c.into_parts-parts.ensures.number) (ap (λ p. p.history.list) c.deref_mut.ensures.value ∙ c.into_parts-parts.ensures.history.1)
    (ap (λ s. s.lines) c.of_parts-live.ensures) (ap (λ s. s.lines) c.reach-2.ensures.rest) c.turns-turn.ensures.begins
    c.own.new.self turn.Send c.turns-turn.ensures.lives.1.told.counts c.requires.bound (ap (λ t. t.lines) c.own.ensures)
    (ap (λ t. t.watches) c.own.ensures) (ap (λ p. p.watches.items) c.deref_mut.ensures.value ∙ c.into_parts-parts.ensures.watches) (ap (λ s. s.watches) (sym c.of_parts-live.ensures)) c.reach-2.ensures.more c.in-Ok-reach.ensures.fit
    (subst
    (λ (t : Turn). EndsTurn g.N.House.deed.config c.deref_mut.result.now.number c.args.epoch c.args.now c.deref_mut.result.now.watches.items
    c.deref_mut.result.now.history.list c.turns-turn.new.parts.history.list c.turns-turn.new.parts.watches.items c.turns-turn.new.into t) c.in-Send.is c.in-Ok-turn.ensures.turn)
    (λ e. (c.entries.result - 1, o.0, ap (λ t. t.mine) c.own.ensures)) (λ e. absurd (e refl))

pub returns-in_default-ended : goal.returns-in_default-ended
returns-in_default-ended g c =
    record {
      grows = took
          g.N.House.deed.config c.deref_mut.result.now.number c.args.epoch c.args.now c.args.sight.now c.reach.new.sight c.reach-2.new.sight c.args.live c.reach.new.live
          c.of_parts-live.result c.reach-2.new.live c.deref_mut.result.now.watches.items c.deref_mut.result.now.history.list c.turns-turn.new.parts.history.list c.turns-turn.new.parts.watches.items c.turns-turn.new.into
          c.in-Ok.ensures.reached c.in-Ok-reach.ensures.reached (ap (λ p. p.number) c.deref_mut.ensures.value ∙ c.into_parts-parts.ensures.number) (ap (λ p. p.history.list) c.deref_mut.ensures.value ∙ c.into_parts-parts.ensures.history.1)
          (ap (λ s. s.lines) c.of_parts-live.ensures) (ap (λ s. s.lines) c.reach-2.ensures.rest) c.turns-turn.ensures.begins;
      turn = taken
          g.N.House.deed.config c.deref_mut.result.now.number c.args.epoch c.args.now c.args.sight.now c.reach.new.sight c.reach-2.new.sight c.args.live c.reach.new.live
          c.of_parts-live.result c.reach-2.new.live c.deref_mut.result.now.watches.items c.deref_mut.result.now.history.list c.turns-turn.new.parts.history.list c.turns-turn.new.parts.watches.items c.turns-turn.new.into
          c.in-Ok.ensures.reached c.in-Ok-reach.ensures.reached (ap (λ p. p.number) c.deref_mut.ensures.value ∙ c.into_parts-parts.ensures.number) (ap (λ p. p.history.list) c.deref_mut.ensures.value ∙ c.into_parts-parts.ensures.history.1)
          (ap (λ s. s.lines) c.of_parts-live.ensures) (ap (λ s. s.lines) c.reach-2.ensures.rest) c.turns-turn.ensures.begins
          c.reach-2.new.sight c.in-Ok-turn.ended c.turns-turn.ensures.lives.1.told.counts c.requires.bound refl refl
          (ap (λ p. p.watches.items) c.deref_mut.ensures.value ∙ c.into_parts-parts.ensures.watches) (ap (λ s. s.watches) (sym c.of_parts-live.ensures)) c.reach-2.ensures.more c.in-Ok-reach.ensures.fit
          c.in-Ok-turn.ensures.turn (λ e. absurd (c.in_default-ended.not-Send e)) (λ e. refl);
      memory = tt;
    }
