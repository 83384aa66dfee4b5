use Rattle.std.proofs.Common.{◌≡◌, ℕ, sym, subst, IfOk, OnErr}
use Rattle.ls_told.specs.Seen.{Testified}
use Rattle.ls_told.specs.Requests.{HasBound}
use Rattle.ls_session.specs.declared.session.Turn.{Turn}
use Rattle.ls_shared.specs.Answers.{SeesOn, Turns}
use Rattle.ls_shared.proofs.shared.Shared.take.Goals as goal

pub take_in-live-requires-clause-bound : goal.take_in-live-requires-clause-bound
take_in-live-requires-clause-bound g c = subst (λ (t : Testified). HasBound c.args.epoch t.lines) (sym c.seen.view_is) c.requires.bound

pub returns-clause-turn : goal.returns-clause-turn
returns-clause-turn g c =
    subst
    (λ (t : Testified). IfOk c.take_in-live.result.1 (Turns g.N.House.deed.config c.args.epoch c.args.now t c.take_in-live.new.sight
    c.take_in-live.new.into)) c.seen.view_is c.take_in-live.ensures.turn

pub returns-clause-memory : goal.returns-clause-memory
returns-clause-memory g c =
    subst
    (λ (t : Testified). OnErr c.take_in-live.result.1 (SeesOn t c.take_in-live.new.sight × (c.take_in-live.new.sight.mine ≡ t.mine)))
    c.seen.view_is c.take_in-live.ensures.memory
