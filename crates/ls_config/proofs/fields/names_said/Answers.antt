use Rattle.std.proofs.Common.{◌≡◌, ℕ, List, [], ◌∷◌, ◌++◌, map, append_assoc, ap, sym, ◌∙◌, refl}
use Rattle.std.proofs.Common.{Bool, true, false, ◌&&◌, None}
use Rattle.std.specs.List.{list_all}
use Rattle.std.proofs.lemmas.List.{at_drop_more}
use Rattle.ls_words.specs.Words.{is_name}
use Rattle.ls_config.specs.Items.{names_said}
use Rattle.ls_config.proofs.fields.names_said.Goals as goal

-- a text goes from the front of those that are left to the end of the others
moved : (front more back left all : List (List ℕ)) (text : List ℕ) → more ≡ front ++ text ∷ [] → back ≡ text ∷ left
    → front ++ back ≡ all → more ++ left ≡ all
moved front more back left all text pushed next whole = rw (pushed, append_assoc, sym next) whole

-- the texts behind a name decide, and one that is no name does
decided : (back left : List (List ℕ)) (text : List ℕ) (is all : Bool) → back ≡ text ∷ left
    → list_all is_name back ≡ all → is ≡ is_name text → is && list_all is_name left ≡ all
decided back left text is all next whole test = ap (λ (v : Bool). v && list_all is_name left) test
    ∙ sym (ap (list_all is_name) next) ∙ whole

-- where one is no name, nothing is said
unnamed : (texts : List (List ℕ)) → false ≡ list_all is_name texts → None ≡ names_said texts
unnamed texts one = rw (sym one) refl

pub loop-text-preserved : goal.loop-text-preserved
loop-text-preserved c =
    let next = at_drop_more (map (λ n. n.now)) c.args.texts.now c.loop-text.text-index _ c.loop-text-test.true in
    let one = c.in_ok-add_name.ensures in
    record {
      all = moved _ _ _ _ _ _ (one.new c.if-not-branch.false) next c.loop-text.invariant.all;
      left = decided _ _ _ true _ next c.loop-text.invariant.left (sym c.if-not-branch.false ∙ one.is);
    }

pub returns-then-not-branch : goal.returns-then-not-branch
returns-then-not-branch c =
    let next = at_drop_more (map (λ n. n.now)) c.args.texts.now c.loop-text.text-index _ c.loop-text-test.true in
    let one = c.in_ok-add_name.ensures in
    unnamed (map (λ n. n.now) c.args.texts.now)
    (decided _ _ _ false _ next c.loop-text.invariant.left (sym c.if-not-branch.true ∙ one.is))
