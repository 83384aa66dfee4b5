use Rattle.std.proofs.Common.{◌≡◌, ◌≤◌, ◌++◌, true, drop}
use Rattle.ls_update.specs.Fields.{changed_fields, tokens_after}
use Rattle.ls_update.specs.Writing.{more_tokens}
use Rattle.ls_update.proofs.writing.append_tokens.Given as goal

-- the text so far and the tokens of the fields left are those of the whole row
abbrev pub invariant-loop-i : goal.invariant-loop-i
invariant-loop-i l = record {
  few : l.unchanged ≤ l.i;
  whole : l.out.items ++ more_tokens l.first (tokens_after l.unchanged
      (changed_fields (drop l.i l.prev) (drop l.i l.row)))
      ≡ l.initial.out.items ++ more_tokens true (tokens_after 0 (changed_fields l.prev l.row));
}
