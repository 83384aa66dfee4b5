use Rattle.std.proofs.Common.{◌≡◌, refl, sym, ◌∙◌, ap, false, arith}
use Rattle.ls_record.specs.Records.{is_to_loop, is_alive}
use Rattle.ls_stream.specs.declared.lines.Lines.{Lines as Kept}
use Rattle.ls_stream.proofs.Queues.{popped_none}
use Rattle.ls_stream.proofs.Turns.{numbered_given, nothing_given, owed_alike}
use Rattle.ls_stream.proofs.lines.Lines.turn_alive.Goals as goal

pub returns-then-sent-last : goal.returns-then-sent-last
returns-then-sent-last c = λ s st alive.
    let none = popped_none c.pop_front.result _ _ c.in_default.is c.pop_front.ensures.items c.pop_front.ensures.rest in
    let k₁ : Kept = record c.args.self.now { owed = c.pop_front.new.self } in
    let goes : is_to_loop s.streams ≡ false = sym (c.is_over.ensures s.streams st.stream) ∙ c.if-is_over.false in
    numbered_given k₁ c.give_numbered.new.self s c.args.now (owed_alike c.args.self.now k₁ s st (none.1 ∙ sym none.0) refl) (ap is_alive alive) none.1 goes
    (omega (arith, c.if-sent-last.true, c.sent.ensures, c.last.ensures)) c.give_numbered.ensures

pub returns : goal.returns
returns c = λ s st alive.
    let none = popped_none c.pop_front.result _ _ c.in_default.is c.pop_front.ensures.items c.pop_front.ensures.rest in
    let k₁ : Kept = record c.args.self.now { owed = c.pop_front.new.self } in
    let goes : is_to_loop s.streams ≡ false = sym (c.is_over.ensures s.streams st.stream) ∙ c.if-is_over.false in
    nothing_given k₁ s c.args.now (owed_alike c.args.self.now k₁ s st (none.1 ∙ sym none.0) refl) (ap is_alive alive) none.1 goes
    (omega (arith, c.if-sent-last.false, c.sent.ensures, c.last.ensures))
