use Rattle.std.proofs.Common.{ap, ◌∙◌}
use Rattle.ls_soak.specs.Tallies.{joined, tally_of, lines_in}
use Rattle.ls_soak.proofs.Playing.{played}
use Rattle.ls_soak.proofs.soaking.Soaking.play.Goals as goal

pub returns-in-Ok-with_text-clause-ok : goal.returns-in-Ok-with_text-clause-ok
returns-in-Ok-with_text-clause-ok c = λ lines all l.
    played c.args.self.now.engine _ c.args.self.now.tally _ all c.args.line.now _ _ lines c.clear.ensures.items c.in-Ok.ensures.ok
    (c.in-Ok-with_text.ensures ∙ ap (λ t. joined c.args.self.now.tally (tally_of (lines_in t))) c.deref.ensures.value) l
