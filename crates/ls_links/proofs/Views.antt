-- What is seen of the lists, as nodes go from one to another.
use Rattle.std.proofs.Common.{◌≡◌, ◌==◌, ℕ, suc, zero, ◌+◌, ◌<◌, ◌≤◌, List, [], ◌∷◌, ◌++◌, map, refl, ap, arith, cond, true, false, not}
use Rattle.std.specs.List.{filter, range_with_len}
use Rattle.std.proofs.lemmas.Bool.{eq-eqb}
use Rattle.ls_links.specs.declared.node.Node.{Node}
use Rattle.ls_links.specs.Chains.{Link, without, is_node}
use Rattle.ls_links.specs.Nodes.{link_of}
use Rattle.ls_links.proofs.Chaining.{Lacks, but, unlike}

pub map_alike : {A B : Type 0} (f g : A → B) → ((a : A) → f a ≡ g a) → (xs : List A) → map f xs ≡ map g xs
map_alike f g h [] = refl
map_alike f g h (x ∷ xs) = rw (h x) (ap (λ (zs : List _). g x ∷ zs) (map_alike f g h xs))

pub rows_alike : {A : Type 0} (f g : ℕ → A) (a n : ℕ) → ((s : ℕ) → a ≤ s → s < a + n → f s ≡ g s) → map f (range_with_len a n) ≡ map g (range_with_len a n)
rows_alike f g a zero h = refl
rows_alike f g a (suc n) h =
    rw (h a (omega arith) (omega arith)) (ap (λ (zs : List _). g a ∷ zs) (rows_alike f g (a + 1) n (λ s l m. h s (omega arith) (omega arith))))

pub map_rows : {A B : Type 0} (h : A → B) (f : ℕ → A) (a n : ℕ) → map h (map f (range_with_len a n)) ≡ map (λ s. h (f s)) (range_with_len a n)
map_rows h f a zero = refl
map_rows h f a (suc n) = ap (λ (zs : List _). h (f a) ∷ zs) (map_rows h f (a + 1) n)

pub links_but : (ns : List Node) (n : ℕ) (xs : List ℕ) → map (link_of ns) (but n xs) ≡ without n (map (link_of ns) xs)
links_but ns n [] = refl
links_but ns n (x ∷ xs) =
    elim (x == n) as (λ v. map (link_of ns) (cond (not v) (x ∷ but n xs) (but n xs))
    ≡ cond (not v) (link_of ns x ∷ without n (map (link_of ns) xs)) (without n (map (link_of ns) xs))) [
      | true ↦ links_but ns n xs
      | false ↦ ap (λ (zs : List Link). link_of ns x ∷ zs) (links_but ns n xs)
    ]

pub none_there : (ns : List Node) (n : ℕ) (xs : List ℕ) → Lacks n xs → filter (is_node n) (map (link_of ns) xs) ≡ []
none_there ns n [] l = refl
none_there ns n (x ∷ xs) l = rw (unlike x n l.0) (none_there ns n xs l.1)

pub one_there : (ns : List Node) (n : ℕ) (xs ys : List ℕ) → Lacks n xs → Lacks n ys → filter (is_node n) (map (link_of ns) (xs ++ n ∷ ys)) ≡ link_of ns n ∷ []
one_there ns n [] ys l m = rw (eq-eqb n n refl) (ap (λ (zs : List Link). link_of ns n ∷ zs) (none_there ns n ys m))
one_there ns n (x ∷ xs) ys l m = rw (unlike x n l.0) (one_there ns n xs ys l.1 m)
