use Rattle.std.proofs.Common.{◌≡◌}
use Rattle.ls_keep.proofs.texts.LineTexts.pack.Given as goal

-- all texts are there, whether packed or loose
abbrev pub invariant-loop : goal.invariant-loop
invariant-loop l = l.self ≡ record l.fn.self { spare = l.self.spare }
