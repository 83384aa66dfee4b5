-- Requests that open a stream, by their names.
use Rattle.std.proofs.Common.{◌≡◌, ℕ, List, Bool, true, false, Option, Some, None, refl, sym, ap, subst, ◌∙◌, codes, if◌then◌else◌, option_map, option_and_then}
use Rattle.ls_form.specs.declared.form.Pair.{Pair}
use Rattle.ls_form.specs.Forms.{form_of}
use Rattle.ls_request.specs.declared.request.LinkKind.{LinkKind}
use Rattle.ls_request.specs.declared.request.LinkKind.TheVariants as link
use Rattle.ls_request.specs.declared.request.Request.{Request}
use Rattle.ls_request.specs.declared.request.Request.TheVariants as request
use Rattle.ls_request.specs.declared.request.Create.{Create}
use Rattle.ls_request.specs.declared.request.Bind.{Bind}
use Rattle.ls_request.specs.declared.request.Control.{Control}
use Rattle.ls_request.specs.Values.{is_word}
use Rattle.ls_request.specs.Requests.{create_of, bind_of, control_of, wsok_of, request_of, read_of}
use Rattle.ls_record.specs.Acting.{is_opening}
use Rattle.ls_conn.specs.Acting.{is_to_open}

-- neither a control request nor wsok opens one
other_control : (c : Option Control) (r : Request) → option_map (λ (x : Control). request.Control x) c ≡ Some r → is_to_open r ≡ true → ⊥
other_control None r is opens = cc
other_control (Some c) r is opens =
    let e : request.Control c ≡ r = some_is (request.Control c) r is in
    let f : false ≡ true = ap is_to_open e ∙ opens in
    cc
  where
    some_is : (a b : Request) → Some a ≡ Some b → a ≡ b
    some_is a b e = cc

other_wsok : (l : LinkKind) (r : Request) → wsok_of l ≡ Some r → is_to_open r ≡ true → ⊥
other_wsok link.Http r is opens = cc
other_wsok link.Ws r is opens =
    let e : request.Wsok ≡ r = some_is request.Wsok r is in
    let f : false ≡ true = ap is_to_open e ∙ opens in
    cc
  where
    some_is : (a b : Request) → Some a ≡ Some b → a ≡ b
    some_is a b e = cc

by_control : (l : LinkKind) (ps : List Pair) (r : Request) (c w : Bool)
    → (if c then option_map (λ (x : Control). request.Control x) (control_of l ps) else if w then wsok_of l else None) ≡ Some r → is_to_open r ≡ true → ⊥
by_control l ps r true w is opens = other_control (control_of l ps) r is opens
by_control l ps r false true is opens = other_wsok l r is opens
by_control l ps r false false is opens = cc

by_words : (l : LinkKind) (ps : List Pair) (r : Request) (a b c w : Bool)
    → (if a then option_map (λ (x : Create). request.Create x) (create_of l ps)
    else if b then option_map (λ (x : Bind). request.Bind x) (bind_of l ps)
    else if c then option_map (λ (x : Control). request.Control x) (control_of l ps) else if w then wsok_of l else None) ≡ Some r
    → is_to_open r ≡ true → (if a then true else b) ≡ true
by_words l ps r true b c w is opens = refl
by_words l ps r false true c w is opens = refl
by_words l ps r false false c w is opens = absurd (by_control l ps r c w is opens)

by_form : (l : LinkKind) (name : List ℕ) (r : Request) (form : Option (List Pair)) → option_and_then (request_of l name) form ≡ Some r → is_to_open r ≡ true → is_opening name ≡ true
by_form l name r None is opens = absurd (let e : None ≡ Some r = is in cc)
by_form l name r (Some ps) is opens =
    by_words l ps r (is_word (codes "create_session") name) (is_word (codes "bind_session") name) (is_word (codes "control") name) (is_word (codes "wsok") name) is opens

pub opens_by_name : (l : LinkKind) (name params : List ℕ) (r : Request) → read_of l name params ≡ Some r → is_to_open r ≡ true → is_opening name ≡ true
opens_by_name l name params r is opens = by_form l name r (form_of params) is opens
