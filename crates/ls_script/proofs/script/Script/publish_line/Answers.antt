use Rattle.std.proofs.Common.{◌≡◌, ◌<◌, ◌∙◌, ℕ, List, [], length, sym, ap, Option, Some, None, option_and_then, option_map, get_or}
use Rattle.std.specs.Option.{option_map_or}
use Rattle.std.proofs.lemmas.Option.{slice_get-get_or}
use Rattle.ls_event.specs.declared.item.ItemDef.{ItemDef}
use Rattle.ls_event.specs.EventText.{event_of}
use Rattle.ls_step.specs.Grammar.{fields_of, update_in}
use Rattle.ls_step.specs.declared.step.Step.TheVariants as step
use Rattle.ls_script.proofs.script.Script.publish_line.Goals as goal

-- an option is none, or some, by what it is said to be
none_then : {A B : Type 0} (f : A → Option B) (o : Option A) → None ≡ o → None ≡ option_and_then f o
none_then f o e = ap (λ p. option_and_then f p) e

some_then : {A B : Type 0} (f : A → Option B) (x : A) (o : Option A) (r : Option B) → Some x ≡ o → r ≡ f x
    → r ≡ option_and_then f o
some_then f x o r e h = h ∙ ap (λ p. option_and_then f p) e

-- the fields of an item within a list that is known
fields_at : (xs known : List ItemDef) (i : ℕ) (d : ItemDef) → xs ≡ known → i < length known
    → (get_or xs i d).fields ≡ fields_of known i
fields_at xs known i d same low = ap (λ l. (get_or l i d).fields) same
    ∙ sym (ap (λ o. option_map_or (λ x. x.fields) o []) (slice_get-get_or known i d low))

pub returns-in_default : goal.returns-in_default
returns-in_default c = none_then _ _ c.in_default.ensures

pub returns-in_default-number_from : goal.returns-in_default-number_from
returns-in_default-number_from c = some_then _ _ _ _ c.in-Some.ensures (none_then _ _ c.in_default-number_from.ensures)

pub returns-in_default-item : goal.returns-in_default-item
returns-in_default-item c = some_then _ _ _ _ c.in-Some.ensures
    (some_then _ _ _ _ c.in-Some-number_from.ensures (none_then _ _ c.in_default-item.ensures.first))

pub returns-in_default-2 : goal.returns-in_default-2
returns-in_default-2 c =
    let same = c.as_slice.ensures ∙ ap (λ k. k.items) c.self.view_is in
    let fields = fields_at c.as_slice.result.now c.args.self.now.items c.in-Some-item.item c.index-as_slice-item.result same
    c.in-Some-item.ensures.within in
    some_then _ _ _ _ c.in-Some.ensures (some_then _ _ _ _ c.in-Some-number_from.ensures
    (some_then _ _ _ _ c.in-Some-item.ensures.first
    (ap (λ o. option_map (λ cells. step.Publish c.in-Some.adapter c.in-Some-number_from.seq c.in-Some-item.item cells) o)
    (sym c.in_default-2.is ∙ c.in_ok-cells.ensures ∙ ap (λ f. update_in (event_of f c.args.event.now)) fields))))

pub returns : goal.returns
returns c =
    let same = c.as_slice.ensures ∙ ap (λ k. k.items) c.self.view_is in
    let fields = fields_at c.as_slice.result.now c.args.self.now.items c.in-Some-item.item c.index-as_slice-item.result same
    c.in-Some-item.ensures.within in
    some_then _ _ _ _ c.in-Some.ensures (some_then _ _ _ _ c.in-Some-number_from.ensures
    (some_then _ _ _ _ c.in-Some-item.ensures.first
    (ap (λ o. option_map (λ cells. step.Publish c.in-Some.adapter c.in-Some-number_from.seq c.in-Some-item.item cells) o)
    (sym c.in-Some-2.is ∙ c.in_ok-cells.ensures ∙ ap (λ f. update_in (event_of f c.args.event.now)) fields))))
