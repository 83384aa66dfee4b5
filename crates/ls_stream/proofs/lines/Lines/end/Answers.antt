use Rattle.std.proofs.Common.{◌⊎◌, ℕ, List, ◌∙◌, ap, sym, subst}
use Rattle.ls_record.specs.Turning.{end_text}
use Rattle.ls_stream.specs.Standing.{IsShort}
use Rattle.ls_stream.specs.declared.lines.Lines.{Lines as Kept}
use Rattle.ls_stream.proofs.GivingBack.{GaveBack, ends_ready, ended_lines, or_else}
use Rattle.ls_stream.proofs.lines.Lines.end.Goals as goal

pub returns-then-code-eq-DESTROYED : goal.returns-then-code-eq-DESTROYED
returns-then-code-eq-DESTROYED c = λ s st alive.
    let k : Kept = c.args.self.now in
    let k₁ : Kept = c.give_back.new.self in
    let e = c.give_back.ensures in
    let b : GaveBack k k₁ = record { owed = e.owed; texts = e.texts; last = e.last; freed = e.freed; sent = e.sent; rest = e.rest } in
    ended_lines k k₁ s c.args.code c.swap.new.y k₁.timed_out c.swap.new.x st alive b
    (c.swap.ensures.x_after ∙ ap (λ (x : Kept). x.destroyed) e.rest ∙ (ends_ready k s st alive).0 ∙ ap end_text (sym c.if-code-eq-DESTROYED.true))
    (subst (λ (t : List ℕ). IsShort t) (sym (c.swap.ensures.y_after ∙ ap (λ (x : Kept). x.end) e.rest)) st.short.end)
    (subst (λ (x : Kept). IsShort x.timed_out) (sym e.rest) st.short.timed_out)
    (subst (λ (t : List ℕ). IsShort t) (sym (c.swap.ensures.x_after ∙ ap (λ (x : Kept). x.destroyed) e.rest)) st.short.destroyed)

pub returns-else-code-eq-DESTROYED : goal.returns-else-code-eq-DESTROYED
returns-else-code-eq-DESTROYED c = λ s st alive.
    let k : Kept = c.args.self.now in
    let k₁ : Kept = c.give_back.new.self in
    let e = c.give_back.ensures in
    let swapped = c.swap-else-code-eq-DESTROYED in
    let b : GaveBack k k₁ = record { owed = e.owed; texts = e.texts; last = e.last; freed = e.freed; sent = e.sent; rest = e.rest } in
    ended_lines k k₁ s c.args.code k₁.destroyed swapped.new.y swapped.new.x st alive b
    (swapped.ensures.x_after ∙ ap (λ (x : Kept). x.timed_out) e.rest ∙ (ends_ready k s st alive).1
    ∙ ap end_text (sym (or_else c.requires c.if-code-eq-DESTROYED.false)))
    (subst (λ (x : Kept). IsShort x.destroyed) (sym e.rest) st.short.destroyed)
    (subst (λ (t : List ℕ). IsShort t) (sym (swapped.ensures.y_after ∙ ap (λ (x : Kept). x.end) e.rest)) st.short.end)
    (subst (λ (t : List ℕ). IsShort t) (sym (swapped.ensures.x_after ∙ ap (λ (x : Kept). x.timed_out) e.rest)) st.short.timed_out)
