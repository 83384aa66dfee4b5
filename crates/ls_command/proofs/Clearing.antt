-- A queue of which all keys are taken out.
use Rattle.std.proofs.Common.{◌≡◌, ◌==◌, ℕ, ◌<◌, ◌≤◌, List, [], ◌∷◌, ◌++◌, length, map, get_or, refl, sym, ◌∙◌, ap, arith, cond, Bool, true, false, not, subst}
use Rattle.std.proofs.Common.{Some, None}
use Rattle.std.specs.Prelude.{slice_get}
use Rattle.std.specs.Option.{option_map}
use Rattle.std.proofs.lemmas.Bool.{eq-eqb}
use Rattle.ls_links.specs.Chains.{Link, Chains, Apart, IsLinked, node_at, list_of, without, unlinked}
use Rattle.ls_links.proofs.Members.{nothing_there}
use Rattle.ls_command.specs.declared.kept.Kept.{Kept}
use Rattle.ls_command.specs.Command.{nodes_of}
use Rattle.ls_command.specs.Entries.{IsKept, linked_keys, no_keys, queued_at}
use Rattle.ls_command.proofs.Placing.{chained, same_keys}
use Rattle.ls_command.proofs.Taking.{list_changed}

-- the first node of a list is linked
pub first_there : (c : Chains) (list node : ℕ) → node_at c list 0 ≡ Some node → IsLinked c node
first_there c list node h = by_case (list_of c list) refl h
  where
    by_case : (ls : List Link) → list_of c list ≡ ls → option_map (λ l. l.node) (slice_get ls 0) ≡ Some node → IsLinked c node
    by_case [] is h = absurd (nothing_there node None refl h)
    by_case (l ∷ ls) is h =
        let e : l.node ≡ node = cc in
        subst (IsLinked c) e (record { list = list; place = 0; value = l.value; here = ap (λ (xs : List Link). slice_get xs 0) is })

-- a list without its first node is shorter
no_more : (node : ℕ) (ls : List Link) → length (without node ls) ≤ length ls
no_more node [] = omega arith
no_more node (l ∷ ls) = by_test (l.node == node) (no_more node ls)
  where
    by_test : (t : Bool) → length (without node ls) ≤ length ls → length (cond (not t) (l ∷ without node ls) (without node ls)) ≤ length (l ∷ ls)
    by_test true h = omega (arith, h)
    by_test false h = omega (arith, h)

fewer : (node : ℕ) (ls : List Link) → option_map (λ l. l.node) (slice_get ls 0) ≡ Some node → length (without node ls) < length ls
fewer node [] h = absurd (nothing_there node None refl h)
fewer node (l ∷ ls) h =
    let e : l.node ≡ node = cc in
    let is : without node (l ∷ ls) ≡ without node ls =
    ap (λ (t : Bool). cond (not t) (l ∷ without node ls) (without node ls)) (eq-eqb l.node node e) in
    omega (arith, ap (λ (xs : List Link). length xs) is, no_more node ls)

pub unlinked_fewer : (c : Chains) (list node : ℕ) → node_at c list 0 ≡ Some node
    → length (get_or (unlinked node c).lists list []) < length (get_or c.lists list [])
unlinked_fewer c list node h =
    omega (arith, ap (λ (xs : List Link). length xs) (list_changed (without node) refl c.lists list), fewer node (list_of c list) h)

pub unlinked_empty : (c : Chains) (node other : ℕ) → get_or c.lists other [] ≡ [] → get_or (unlinked node c).lists other [] ≡ []
unlinked_empty c node other h = list_changed (without node) refl c.lists other ∙ ap (without node) h

pub empty_there : (c : Chains) (list : ℕ) → node_at c list 0 ≡ None → get_or c.lists list [] ≡ []
empty_there c list h = by_case (list_of c list) h
  where
    by_case : (ls : List Link) → option_map (λ l. l.node) (slice_get ls 0) ≡ None → ls ≡ []
    by_case [] e = refl
    by_case (l ∷ ls) e = absurd (nothing_there l.node (Some l.node) e refl)

-- what is kept of no key
pub record Clears (es : List (List ℕ × Kept)) (ls : List (List Link)) : Type 0 where
  pub kept : IsKept es ls
  pub keys : linked_keys es ls ≡ no_keys

pub clears : (es : List (List ℕ × Kept)) (ls : List (List Link)) → length ls ≡ 2 → get_or ls 0 [] ≡ [] → get_or ls 1 [] ≡ [] → Apart (chained ls)
    → es ≡ [] → Clears es ls
clears es ls two first second apart none =
    record {
      kept = record {
        lists = two;
        apart = apart;
        own = λ l m. absurd (nothing_there l None refl (ap (λ (ns : List Link). slice_get ns m.0) (sym nodes) ∙ m.1));
        told = λ v w. absurd (omega (arith, w, long));
        count = ap (λ (ns : List Link). length ns) nodes ∙ sym long;
      };
      keys = same_keys _ _ _ _ _ _ (ap (map (queued_at es)) nodes) (ap (map (λ (l : Link). l.value)) nodes) (ap (λ (ns : List Link). length ns) first);
    }
  where
    nodes : nodes_of ls ≡ []
    nodes = ap (λ (a : List Link). a ++ get_or ls 1 []) first ∙ second

    long : length es ≡ 0
    long = ap (λ (xs : List (List ℕ × Kept)). length xs) none
