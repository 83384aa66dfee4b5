use Rattle.std.proofs.Common.{◌≡◌, ◌++◌, map, drop}
use Rattle.std.specs.List.{list_any}
use Rattle.ls_request.specs.Values.{is_empty}
use Rattle.ls_request.proofs.add.names_from.Given as goal

-- the words so far are names, and the words left decide
abbrev pub invariant-loop-word : goal.invariant-loop-word
invariant-loop-word l = record {
  all : l.names.items ++ map (λ w. w.now) (drop l.word-index l.words) ≡ map (λ w. w.now) l.words;
  left : list_any is_empty (map (λ w. w.now) (drop l.word-index l.words)) ≡ list_any is_empty (map (λ w. w.now) l.words);
}
