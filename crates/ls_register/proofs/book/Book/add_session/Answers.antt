use Rattle.std.proofs.Common.{◌≡◌, ◌+◌, ◌<◌, ◌≤◌, not, length, refl, sym, ap, ◌∙◌, subst, arith}
use Rattle.ls_value.specs.Each.{Each}
use Rattle.ls_register.specs.declared.made.Made.TheVariants.{Session}
use Rattle.ls_register.specs.Items.{items_of}
use Rattle.ls_register.specs.Sessions.{sessions_of, is_among, is_gone, is_live, IsCounted}
use Rattle.ls_register.proofs.Rising.{among_end, each_as, each_filter}
use Rattle.ls_register.proofs.Counting.{counted_made, fresh_before, items_stay}
use Rattle.ls_register.proofs.book.Book.add_session.Goals as goal

pub push-requires : goal.push-requires
push-requires g c =
    let b = c.self.inside in
    let counted = c.self.invariant.2 in
    subst (Each (λ n. n < b.made + 1)) (sym counted.live_is)
    (each_as (λ n. n ≤ b.made) (λ n. n < b.made + 1) _ (λ n low. omega (arith, low))
    (each_filter (λ n. n ≤ b.made) (λ n. not (is_gone b.writer.list n)) (sessions_of b.writer.list) counted.below))

pub returns-in_err-push-clause-fresh : goal.returns-in_err-push-clause-fresh
returns-in_err-push-clause-fresh g c = λ ms begins.
    let b = c.self.inside in
    let counted = c.self.invariant.2 in
    fresh_before b.made b.claimed b.entries (length (sessions_of c.args.self.now) + 1) b.rows ms c.args.self.now
    (subst (IsCounted b.made b.claimed b.entries b.rows) c.self.view_is counted)
    (omega (arith, counted.made_is, ap (λ l. length (sessions_of l)) c.self.view_is)) begins

pub invariant_of-self-2 : goal.invariant_of-self-2
invariant_of-self-2 g c =
    let b = c.self.inside in
    let counted = c.self.invariant.2 in
    let more = ap (λ t. t.list) c.note.ensures.1 ∙ c.append.ensures.added in (
      ap (λ t. t.table) c.note.ensures.1 ∙ (c.append.ensures.table ∙ c.self.invariant.0),
      ap items_of more ∙ (items_stay b.writer.list (Session (b.made + 1) c.args.table) refl ∙ c.self.invariant.1),
      counted_made b.made (b.made + 1) b.claimed b.entries c.append.new.entries b.rows c.push.new.self b.writer.list c.note.new.w.list c.args.table
          counted more refl c.in_ok-push.ensures.ok c.append.ensures.number,
    )

pub returns-clause-live : goal.returns-clause-live
returns-clause-live g c =
    let b = c.self.inside in
    let live = (invariant_of-self-2 g c).2.live_is in
    let n : length (sessions_of c.args.self.now) + 1 ≡ b.made + 1 =
    omega (arith, c.self.invariant.2.made_is, ap (λ l. length (sessions_of l)) c.self.view_is) in
    ap (λ k. is_live c.note.new.w.list k) n
    ∙ (ap (is_among (b.made + 1)) (sym live) ∙ (ap (is_among (b.made + 1)) c.in_ok-push.ensures.ok ∙ among_end b.rows (b.made + 1)))

pub returns-clause-fresh : goal.returns-clause-fresh
returns-clause-fresh g c = λ ms begins.
    let b = c.self.inside in
    let counted = c.self.invariant.2 in
    fresh_before b.made b.claimed b.entries (length (sessions_of c.args.self.now) + 1) b.rows ms c.args.self.now
    (subst (IsCounted b.made b.claimed b.entries b.rows) c.self.view_is counted)
    (omega (arith, counted.made_is, ap (λ l. length (sessions_of l)) c.self.view_is)) begins
