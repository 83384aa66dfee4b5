use Rattle.std.proofs.Common.{◌≡◌, ◌∙◌, List, [], ◌∷◌, ◌++◌, append_assoc, codes, OnOk, Result, Ok, Err}
use Rattle.std.specs.Fmt.{decimal}
use Rattle.ls_form.specs.declared.form.Pair.{Pair}
use Rattle.ls_step.specs.Adding.{parameter, spaced}
use Rattle.ls_script.proofs.adding.push_needed.Goals as goal

-- six more, one by one
six_more : (xs us bs cs ds es fs : List Pair) (a b c d e f : Pair) → us ≡ xs ++ a ∷ [] → bs ≡ us ++ b ∷ []
    → cs ≡ bs ++ c ∷ [] → ds ≡ cs ++ d ∷ [] → es ≡ ds ++ e ∷ [] → fs ≡ es ++ f ∷ []
    → fs ≡ xs ++ a ∷ b ∷ c ∷ d ∷ e ∷ f ∷ []
six_more xs us bs cs ds es fs a b c d e f p q r s t u =
    u ∙ (λ k. (t k) ++ f ∷ []) ∙ (λ k. ((s k) ++ e ∷ []) ++ f ∷ []) ∙ (λ k. (((r k) ++ d ∷ []) ++ e ∷ []) ++ f ∷ [])
    ∙ (λ k. ((((q k) ++ c ∷ []) ++ d ∷ []) ++ e ∷ []) ++ f ∷ [])
    ∙ (λ k. (((((p k) ++ b ∷ []) ++ c ∷ []) ++ d ∷ []) ++ e ∷ []) ++ f ∷ []) ∙ simp append_assoc

on_ok : {E P Q : Type 0} (r : Result (Unit {0}) E) → (P → Q) → OnOk r P → OnOk r Q
on_ok (Ok u) f p = f p
on_ok (Err e) f p = tt

pub returns : goal.returns
returns c =
    let number : c.from_string-number.result ≡ decimal c.args.line = c.from_string-number.ensures ∙ c.in_ok-format.ensures.ok in
    let words = c.args.words.now in
    on_ok c.push_names-2.result
    (λ last. six_more _ _ _ _ _ _ _ _ _ _ _ _ _ c.in_ok-push.ensures c.in_ok-push_word.ensures c.in_ok-push_text.ensures
    c.in_ok-push_word-2.ensures c.in_ok-push_names.ensures last
    ∙ (λ k. c.args.pairs.now.items
    ++ parameter (codes "LS_reqId") (number k)
    ∷ parameter (codes "LS_op") (codes "add")
    ∷ parameter (codes "LS_subId") words.sub
    ∷ parameter (codes "LS_mode") (c.mode_word.ensures k)
    ∷ parameter (codes "LS_group") (spaced words.items)
    ∷ parameter (codes "LS_schema") (spaced words.fields)
    ∷ []))
    c.push_names-2.ensures
