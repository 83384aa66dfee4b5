use Rattle.std.proofs.Common.{◌<◌, ◌++◌, ◌∷◌, [], List, ℕ, length, set, get_or, nat_eq, sym, ap, subst, ◌∙◌}
use Rattle.std.specs.Cmp.Lexicographic.{pointwise}
use Rattle.std.specs.Map.{lookup}
use Rattle.ls_links.specs.Chains.{Link, Chains}
use Rattle.ls_command.specs.declared.kept.Kept.{Kept}
use Rattle.ls_command.proofs.linked.link.Goals as goal

pub push_back-node-requires-clause-list : goal.push_back-node-requires-clause-list
push_back-node-requires-clause-list c =
    subst (λ (ls : List (List Link)). c.args.list < length ls) (sym c.make_room.ensures.lists) c.requires.list

pub put-requires-clause-absent : goal.put-requires-clause-absent
put-requires-clause-absent c = ap (lookup (pointwise nat_eq c.args.new.key)) c.make_room.ensures.entries ∙ c.requires.absent

pub returns-clause-ok : goal.returns-clause-ok
returns-clause-ok c =
    let e = c.make_room.ensures in
    let node : ℕ = c.push_back-node.result in
    let kept : Kept = record { node = node; row = c.args.new.row; touched = c.args.new.touched } in
    record {
      node = node;
      entries = c.put.ensures ∙ ap (λ (es : List (List ℕ × Kept)). es ++ (c.args.new.key, kept) ∷ []) e.entries;
      lists = ap (λ (x : Chains). x.lists) c.push_back-node.ensures.linked
          ∙ ap (λ (ls : List (List Link)). set ls c.args.list (get_or ls c.args.list [] ++ record { node = node; value = c.len.result } ∷ [])) e.lists
          ∙ ap (λ (n : ℕ). set c.args.links.now.lists c.args.list (get_or c.args.links.now.lists c.args.list [] ++ record { node = node; value = n } ∷ []))
          (c.len.ensures.len ∙ ap length e.entries);
      apart = c.are_apart.ensures;
    }
