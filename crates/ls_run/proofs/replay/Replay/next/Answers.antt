use Rattle.std.proofs.Common.{refl, sym, subst, ap}
use Rattle.ls_lines.proofs.Joining.{ends_some, ends_not}
use Rattle.ls_world.specs.Script.{whole_from}
use Rattle.ls_run.specs.Replay.{KeptReplay, StandsWithin}
use Rattle.ls_run.proofs.Feeding.{held_short, holds_from, line_holds, line_stops, line_stands, rest_holds, rest_stands}
use Rattle.ls_run.proofs.replay.Replay.next.Goals as goal

pub returns-in-Ok-None-clause-holds : goal.returns-in-Ok-None-clause-holds
returns-in-Ok-None-clause-holds c = λ p st.
    let s = subst (λ (v : KeptReplay). StandsWithin v p) (sym c.self.view_is) st in
    holds_from _ p.world _ _ _ _ (ap (λ (k : KeptReplay). k.unwritten) c.self.view_is)
    (rest_holds c.self.inside.lines c.take.new.self p c.args.piece.now _ c.self.inside.unwritten.items refl s.carry
    (ends_not _ _ _ _ c.in-Ok-None.field-0-is c.in-Ok-None.ensures.lines))

pub returns-in-Ok-None-clause-ok : goal.returns-in-Ok-None-clause-ok
returns-in-Ok-None-clause-ok c = λ p st.
    let s = subst (λ (v : KeptReplay). StandsWithin v p) (sym c.self.view_is) st in
    rest_stands _ c.self.inside.lines c.take.new.self p c.args.piece.now _ refl s.carry
    (ends_not _ _ _ _ c.in-Ok-None.field-0-is c.in-Ok-None.ensures.lines) refl s.engine

pub returns-in-Err-clause-holds : goal.returns-in-Err-clause-holds
returns-in-Err-clause-holds c = λ p st.
    holds_from _ p.world _ _ _ _ (ap (λ (k : KeptReplay). k.unwritten) c.self.view_is)
    (held_short p.world (whole_from p.carry c.args.piece.now) c.self.inside.unwritten.items _ refl)

pub returns-in_default-clause-holds : goal.returns-in_default-clause-holds
returns-in_default-clause-holds c = λ p st.
    let s = subst (λ (v : KeptReplay). StandsWithin v p) (sym c.self.view_is) st in
    holds_from _ p.world _ _ _ _ (ap (λ (k : KeptReplay). k.unwritten) c.self.view_is)
    (line_stops c.done.result c.self.inside.lines c.take.new.self p c.line.result.now c.args.piece.now c.in-Ok-Some.used _ _ c.in_default.not-All s.carry
    (ends_some _ _ _ _ _ c.in-Ok-Some.field-0-is c.in-Ok-Some.ensures.lines) c.line.ensures (c.done.ensures.holds p.world s.engine))

pub returns-clause-holds : goal.returns-clause-holds
returns-clause-holds c = λ p st.
    let s = subst (λ (v : KeptReplay). StandsWithin v p) (sym c.self.view_is) st in
    holds_from _ p.world _ _ _ _ (ap (λ (k : KeptReplay). k.unwritten) c.self.view_is)
    (line_holds c.self.inside.lines c.take.new.self p c.line.result.now c.args.piece.now c.in-Ok-Some.used _ _ s.carry
    (ends_some _ _ _ _ _ c.in-Ok-Some.field-0-is c.in-Ok-Some.ensures.lines) c.line.ensures (c.in-All.ensures.holds p.world s.engine))

pub returns-clause-ok : goal.returns-clause-ok
returns-clause-ok c = λ p st.
    let s = subst (λ (v : KeptReplay). StandsWithin v p) (sym c.self.view_is) st in
    line_stands _ c.self.inside.lines c.take.new.self p c.line.result.now c.args.piece.now c.in-Ok-Some.used s.carry
    (ends_some _ _ _ _ _ c.in-Ok-Some.field-0-is c.in-Ok-Some.ensures.lines) c.line.ensures refl (c.in-All.ensures.all refl p.world s.engine)
