use Rattle.std.proofs.Common.{◌≡◌, ◌+◌, ◌++◌, ◌∷◌, [], length, sym, ap, ◌∙◌}
use Rattle.ls_register.specs.declared.made.Made.TheVariants.{Session}
use Rattle.ls_register.specs.Sessions.{sessions_of}
use Rattle.ls_shared.proofs.Grown.{shows_made}
use Rattle.ls_shared.proofs.creating.open_in.Goals as goal

pub at-live-requires : goal.at-live-requires
at-live-requires g c =
    let still = c.sign-table.ensures.1 in
    shows_made c.args.book.now c.add_session.new.self (length (sessions_of c.args.book.now) + 1) c.sign-table.new.self.number
    c.sign-table.result c.sign-table.new.self.table c.in_ok-place.place c.in_ok-place.ensures.made c.in_ok-place.ensures.place
    (ap (λ s. s.number) still ∙ (c.in_ok-live.ensures.number ∙ c.in-Some.ensures.number.0))
    (ap (λ s. s.table) still ∙ sym c.sign-table.ensures.0)

pub returns-clause-made : goal.returns-clause-made
returns-clause-made g c =
    let table : c.sign-table.result ≡ c.tell_first-sight.result.table =
    c.sign-table.ensures.0 ∙ (sym (ap (λ s. s.table) c.sign-table.ensures.1)
    ∙ (sym (ap (λ s. s.table) c.at-live.ensures) ∙ sym c.tell_first-sight.ensures.sight.0.table)) in
    c.in_ok-place.ensures.made
    ∙ (λ i. c.args.book.now ++ Session (sym c.in-Some.ensures.number.0 i) (table i) ∷ [])
