use Rattle.std.proofs.Common.{◌≡◌, drop}
use Rattle.ls_line.specs.Forms.{tag_among, tag_of}
use Rattle.ls_line.proofs.table.tag_of.Given as goal

-- the tags left decide
abbrev pub invariant-loop-tag : goal.invariant-loop-tag
invariant-loop-tag l = tag_among (drop l.tag-index l.tag-items) l.text ≡ tag_of l.text
