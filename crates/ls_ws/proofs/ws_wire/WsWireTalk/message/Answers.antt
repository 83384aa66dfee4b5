use Rattle.std.proofs.Common.{ℕ, List, Option, inl, inr, subst}
use Rattle.tungstenite.specs.Socket.{Socket}
use Rattle.ls_ws.specs.Wires.{ClosesOf, Held, WireState}
use Rattle.ls_ws.specs.declared.stream.Stream.{Stream}
use Rattle.ls_ws.proofs.ws_wire.WsWireTalk.message.Goals as goal

-- a socket over a stream, as a clause sees it
abbrev held : {C : Type 0} → Socket (Stream C) → Socket (Held C)
held s = record { stream = record { pipe = s.stream.pipe; unsent = s.stream.unsent }; conn = s.conn; input = s.input; output = s.output }

closes_held : {C : Type 0} (unread : C → Option (List ℕ)) (old new : Socket (Stream C)) → ClosesOf {C = Stream C} (λ s. unread s.pipe) old new
    → ClosesOf {C = Held C} (λ k. unread k.pipe) (held old) (held new)
closes_held unread old new (inl failed) = inl failed
closes_held unread old new (inr (m, mid, kind, reads)) = inr (m, held mid, kind, reads)

pub returns-in-Err-Closed-clause-closed : goal.returns-in-Err-Closed-clause-closed
returns-in-Err-Closed-clause-closed g c = λ _.
    subst (λ (w : WireState g.row.C.Denot). ClosesOf {C = Held g.row.C.Denot} (λ k. g.C.Source.unread k.pipe) w.socket (held c.receive.new.socket)) c.self.view_is
    (closes_held g.C.Source.unread c.self.inside.socket c.receive.new.socket (c.in-Err-Closed.ensures.closed c.in-Err-Closed.field-0-is))
