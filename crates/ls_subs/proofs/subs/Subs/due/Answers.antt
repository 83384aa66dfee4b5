use Rattle.std.proofs.Common.{◌≡◌, ◌∙◌, ap, sym, Some, None, option_map}
use Rattle.std.specs.Prelude.{option_and_then}
use Rattle.ls_record.specs.Lines.{updated}
use Rattle.ls_subs.specs.Kept.{items_of, item_at}
use Rattle.ls_subs.proofs.Accepting.{kept_of_ref}
use Rattle.ls_subs.proofs.subs.Subs.due.Goals as goal

pub returns-in-None-clause-stands : goal.returns-in-None-clause-stands
returns-in-None-clause-stands c = λ lines round place v s found named.
    let k = c.args.self.now in
    let none : items_of k c.args.slot.now.sub ≡ None = sym (ap (option_map (λ v. v.items)) c.in-None.ensures.value) in
    let kept = kept_of_ref k lines round place v c.args.slot.now s found named in
    let gone : None ≡ Some kept.0 = sym (ap (option_and_then (λ items. item_at items c.args.slot.now.place)) none) ∙ kept.1.0 in
    absurd cc

pub returns-in-Some-clause-stands : goal.returns-in-Some-clause-stands
returns-in-Some-clause-stands c = λ lines round place v s found named.
    let k = c.args.self.now in
    let is : items_of k c.args.slot.now.sub ≡ Some c.in-Some.items.now.items = sym (ap (option_map (λ v. v.items)) c.in-Some.ensures.value) in
    let kept = kept_of_ref k lines round place v c.args.slot.now s found named in
    c.due_at.ensures.stands kept.0 v.frequency (updated v.sub v.rank lines)
    (ap (λ items. item_at items c.args.slot.now.place) c.deref.ensures.value
    ∙ sym (ap (option_and_then (λ items. item_at items c.args.slot.now.place)) is) ∙ kept.1.0) kept.1.1.frequency
