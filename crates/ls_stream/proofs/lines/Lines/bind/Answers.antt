use Rattle.std.proofs.Common.{ℕ, List, refl, sym, subst, ◌∙◌, None}
use Rattle.ls_value.specs.Each.{Each}
use Rattle.ls_stream.specs.Standing.{IsShort}
use Rattle.ls_stream.specs.declared.lines.Lines.{Lines as Kept}
use Rattle.ls_stream.proofs.Rebinding.{rebound_stands}
use Rattle.ls_stream.proofs.lines.Lines.bind.Goals as goal

pub returns-clause-ok : goal.returns-clause-ok
returns-clause-ok c = λ s st alive rate.
    let k' : Kept = record c.args.self.now { owed = c.from_vec.result; keep = c.resume.new.keep; stream = c.new-self.result; unbound = None } in
    rebound_stands c.args.self.now k' s c.args.bind.now c.args.limit st alive rate refl
    (c.from_vec.ensures.items ∙ c.in_ok-owed.ensures.lines)
    (subst (λ (ts : List (List ℕ)). Each IsShort ts) (sym c.from_vec.ensures.items) c.in_ok-owed.ensures.short) c.resume.ensures c.new-self.ensures
    c.requires.may.epoch
