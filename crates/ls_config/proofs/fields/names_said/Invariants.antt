use Rattle.std.proofs.Common.{◌≡◌, ◌++◌, drop, map}
use Rattle.std.specs.List.{list_all}
use Rattle.ls_words.specs.Words.{is_name}
use Rattle.ls_config.proofs.fields.names_said.Given as goal

-- the names so far, and the texts left decide
abbrev pub invariant-loop-text : goal.invariant-loop-text
invariant-loop-text l = record {
  all : l.names.items ++ map (λ n. n.now) (drop l.text-index l.texts) ≡ map (λ n. n.now) l.texts;
  left : list_all is_name (map (λ n. n.now) (drop l.text-index l.texts)) ≡ list_all is_name (map (λ n. n.now) l.texts);
}
