use Rattle.std.proofs.Common.{◌==◌, ◌≡◌, not, sym, ap, ◌∙◌, subst, arith, length}
use Rattle.std.proofs.lemmas.List.Edits.{length-remove}
use Rattle.std.specs.List.{filter}
use Rattle.ls_register.specs.Sessions.{is_among, AreRising}
use Rattle.ls_register.proofs.Rising.{among_at, found, missed, removed_is, rising_filter}
use Rattle.ls_register.proofs.rows.Rows.remove.Goals as goal

pub invariant_of-self : goal.invariant_of-self
invariant_of-self g c =
    let ns = c.self.inside.numbers.items in
    let f = found ns c.as_slice.result.now c.args.number c.in-Ok.k c.binary_search.result c.as_slice.ensures.value c.self.invariant.0
    c.binary_search.ensures.position c.in-Ok.is in
    let left : c.remove.new.self.items ≡ filter (λ m. not (m == c.args.number)) ns =
    c.remove.ensures.items ∙ removed_is ns c.in-Ok.k c.args.number c.self.invariant.0 f.0 f.1 in
    let fewer = length-remove ns c.in-Ok.k f.0 in (
      subst AreRising (sym left) (rising_filter (λ m. not (m == c.args.number)) ns c.self.invariant.0),
      omega (arith, c.remove-in-Ok.ensures.len, fewer, ap length c.remove.ensures.items, c.self.invariant.1),
    )

pub returns-in-Ok-clause-some : goal.returns-in-Ok-clause-some
returns-in-Ok-clause-some g c =
    let ns = c.self.inside.numbers.items in
    let f = found ns c.as_slice.result.now c.args.number c.in-Ok.k c.binary_search.result c.as_slice.ensures.value c.self.invariant.0
    c.binary_search.ensures.position c.in-Ok.is in
    sym (ap (is_among c.args.number) (sym c.self.view_is) ∙ among_at ns c.in-Ok.k c.args.number f.0 f.1)

pub returns-in-Ok-clause-rest : goal.returns-in-Ok-clause-rest
returns-in-Ok-clause-rest g c =
    let ns = c.self.inside.numbers.items in
    let f = found ns c.as_slice.result.now c.args.number c.in-Ok.k c.binary_search.result c.as_slice.ensures.value c.self.invariant.0
    c.binary_search.ensures.position c.in-Ok.is in
    c.remove.ensures.items ∙ (removed_is ns c.in-Ok.k c.args.number c.self.invariant.0 f.0 f.1
    ∙ ap (filter (λ m. not (m == c.args.number))) c.self.view_is)

pub returns-in-Err-clause-some : goal.returns-in-Err-clause-some
returns-in-Err-clause-some g c =
    let ns = c.self.inside.numbers.items in
    sym (ap (is_among c.args.number) (sym c.self.view_is)
    ∙ missed ns c.as_slice.result.now c.args.number c.in-Err.field-0 c.binary_search.result c.as_slice.ensures.value c.self.invariant.0
    c.binary_search.ensures.position c.in-Err.is)
