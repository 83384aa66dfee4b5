-- The items of a register that is being made.
use Rattle.std.proofs.Common.{◌≡◌, ℕ, zero, suc, List, [], ◌∷◌, ◌++◌, length, take, refl, sym, ◌∙◌, ap, arith, Some, slice_get}
use Rattle.ls_event.specs.declared.item.ItemDef.{ItemDef}
use Rattle.ls_register.specs.Items.{ItemFact, facts_of, fact_of}
use Rattle.ls_register.proofs.Showing.{facts_more}

take_more : (ds : List ItemDef) (n : ℕ) (d : ItemDef) → slice_get ds n ≡ Some d → take (suc n) ds ≡ take n ds ++ d ∷ []
take_more [] n d at = absurd cc
take_more (x ∷ ds) zero d at = let same : x ≡ d = cc at in ap (λ (y : ItemDef). y ∷ []) same
take_more (x ∷ ds) (suc n) d at = ap (λ (l : List ItemDef). x ∷ l) (take_more ds n d at)

length_take : (ds : List ItemDef) (n : ℕ) (d : ItemDef) → slice_get ds n ≡ Some d → n ≡ length (take n ds)
length_take [] n d at = absurd cc
length_take (x ∷ ds) zero d at = refl
length_take (x ∷ ds) (suc n) d at = ap suc (length_take ds n d at)

-- one more item of the config, where so many have their places
pub facts_next : (ds : List ItemDef) (n m : ℕ) (d : ItemDef) (before after : List ItemFact) → slice_get ds n ≡ Some d → m ≡ suc n
    → before ≡ facts_of (take n ds) → after ≡ before ++ fact_of n d ∷ [] → after ≡ facts_of (take m ds)
facts_next ds n m d before after at next was is =
    is ∙ (ap (λ (l : List ItemFact). l ++ fact_of n d ∷ []) was
    ∙ (sym (facts_more 0 n (take n ds) d (omega (arith, length_take ds n d at)))
    ∙ ap facts_of (sym (take_more ds n d at) ∙ ap (λ (k : ℕ). take k ds) (sym next))))
