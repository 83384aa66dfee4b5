use Rattle.std.proofs.Common.{◌≡◌, ◌++◌}
use Rattle.percent_encoding.specs.Iter.{encoded_text}
use Rattle.percent_encoding.specs.Percent.{percent_encode}
use Rattle.ls_update.proofs.writing.append_encoded.Given as goal

-- the text so far, and what is left of the encoded bytes
abbrev pub invariant-loop-piece : goal.invariant-loop-piece
invariant-loop-piece l = l.out.items ++ encoded_text l.piece-iterator ≡ l.initial.out.items
    ++ percent_encode l.fn.set l.bytes
