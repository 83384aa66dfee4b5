-- The words of a line; and the event that a text says of an item has the item's fields.
use Rattle.std.proofs.Common.{◌≡◌, ℕ, zero, suc, ◌+◌, List, [], ◌∷◌, length, refl, ap, sym, ◌∙◌, arith, true, false, cond}
use Rattle.std.specs.Prelude.{◌==◌, Option, None, Some, is_some, Result, Ok, Err, codes}
use Rattle.std.specs.Borrow.{Bor}
use Rattle.std.proofs.lemmas.List.Splits.{length-slice_split}
use Rattle.ls_words.specs.Words.{divided, pieces_behind}
use Rattle.ls_feed.specs.Offers.{words_in, words_of}
use Rattle.ls_value.specs.Values.{text_eq}
use Rattle.ls_event.specs.EventText.{event_of, update_of, cells_of, cell_named, table, first_cause, pairs_of}
use Rattle.ls_event.specs.History.{HasFields}
use Rattle.ls_event.specs.declared.event.Event.{Event}
use Rattle.ls_event.specs.declared.event.Event.TheVariants.{Clear}
use Rattle.ls_event.specs.declared.event_text.EventRefused.{EventRefused}

pub table_length : {A : Type 0} (f : ℕ → A) (from n : ℕ) → length (table f from n) ≡ n
table_length f from zero = refl
table_length f from (suc n) = ap suc (table_length f (from + 1) n)

-- what an answer says of fields, if it is an event
abbrev Fitting : ℕ → Result Event EventRefused → Type 0
Fitting n (Ok e) = HasFields n e
Fitting n (Err cause) = Unit {0}

update_fits : (fields : List (List ℕ)) (text : List ℕ) (o : Option EventRefused)
    → Fitting (length fields) (update_of o (cells_of fields (pairs_of text)))
update_fits fields text None = table_length (cell_named fields (pairs_of text)) 0 (length fields)
update_fits fields text (Some cause) = tt

fits : (fields : List (List ℕ)) (text : List ℕ) → Fitting (length fields) (event_of fields text)
fits fields text =
    elim (text_eq text (codes "!")) as (λ b. Fitting (length fields) (cond b (Ok Clear)
    (update_of (first_cause fields [] (pairs_of text)) (cells_of fields (pairs_of text)))))
    [ true ↦ tt | false ↦ update_fits fields text (first_cause fields [] (pairs_of text)) ]

pub event_fits : (fields : List (List ℕ)) (text : List ℕ) (e : Event) → event_of fields text ≡ Ok e → HasFields (length fields) e
event_fits fields text e is = let f = fits fields text in rw is at f

-- more pieces than three are no three words
four : (a b c : List ℕ) (ps : List (List ℕ)) (n : ℕ) → length ps ≡ n + 1 → words_in (a ∷ b ∷ c ∷ ps) ≡ None
four a b c [] n l = absurd (omega (arith, l))
four a b c (p ∷ ps) n l = refl

behind : (a b c : List ℕ) (o : Option (Bor (List ℕ))) → is_some o ≡ true → words_in (a ∷ b ∷ c ∷ pieces_behind 32 o) ≡ None
behind a b c None is = absurd (cc is)
behind a b c (Some r) is = four a b c (divided 32 r.now) _ (length-slice_split (λ b. b == 32) r.now)

-- a line whose third piece has one behind it
pub too_many : (line : List ℕ) (p q r : Bor (List ℕ) × Option (Bor (List ℕ))) (x y : Bor (List ℕ)) → divided 32 line ≡ p.0.now ∷ pieces_behind 32 p.1
    → p.1 ≡ Some x → divided 32 x.now ≡ q.0.now ∷ pieces_behind 32 q.1 → q.1 ≡ Some y → divided 32 y.now ≡ r.0.now ∷ pieces_behind 32 r.1
    → is_some r.1 ≡ true → None ≡ words_of line
too_many line p q r x y first one second two third more =
    let last : divided 32 x.now ≡ q.0.now ∷ r.0.now ∷ pieces_behind 32 r.1 =
    second ∙ ap (λ (o : Option (Bor (List ℕ))). q.0.now ∷ pieces_behind 32 o) two ∙ ap (λ ps. q.0.now ∷ ps) third in
    let all : divided 32 line ≡ p.0.now ∷ q.0.now ∷ r.0.now ∷ pieces_behind 32 r.1 =
    first ∙ ap (λ (o : Option (Bor (List ℕ))). p.0.now ∷ pieces_behind 32 o) one ∙ ap (λ ps. p.0.now ∷ ps) last in
    sym (ap words_in all ∙ behind p.0.now q.0.now r.0.now r.1 more)
