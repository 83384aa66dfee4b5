use Rattle.std.proofs.Common.{◌≡◌, ℕ, List, ◌++◌, map}
use Rattle.std.specs.BTreeSet.{contains_text}
use Rattle.form_urlencoded.specs.Parse.{raw_pairs_left}
use Rattle.ls_form.specs.Forms.{decoded, decoded_pairs, has_name, first_cause, form_cause}
use Rattle.ls_form.proofs.form.pairs.Given as goal

-- the pairs so far have no cause against them, and those left are still to come
abbrev pub invariant-loop-name : goal.invariant-loop-name
invariant-loop-name l = record {
  all : decoded_pairs l.bytes ≡ l.pairs.items ++ map decoded (raw_pairs_left l.name-iterator);
  cause : form_cause l.bytes ≡ first_cause l.pairs.items (map decoded (raw_pairs_left l.name-iterator));
  names : (q : List ℕ) → contains_text l.names q ≡ has_name l.pairs.items q;
}
