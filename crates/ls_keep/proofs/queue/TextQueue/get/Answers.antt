use Rattle.std.proofs.Common.{◌≡◌, ◌+◌, ◌-◌, List, ℕ, ◌∷◌, length, Some, None, slice_get, slice_range, arith, ap, ap₂, sym, ◌∙◌}
use Rattle.ls_keep.specs.Texts.{QueuedTexts}
use Rattle.ls_keep.proofs.Places.{Between, between, slice_get_texts, text_by}
use Rattle.ls_keep.proofs.queue.TextQueue.get.Goals as goal

pub returns-in_default : goal.returns-in_default
returns-in_default c =
    let k = c.self.inside in
    let none : slice_get k.ends.items c.args.place ≡ None = sym c.place_at.ensures ∙ c.in_default.is in
    ap (text_by k.bytes.items k.gone (slice_get (k.first ∷ k.ends.items) c.args.place)) (sym none)
    ∙ slice_get_texts k.bytes.items k.gone k.first k.ends.items c.args.place
    ∙ ap (λ (v : QueuedTexts). slice_get v.texts c.args.place) c.self.view_is

pub returns-in_default-begin_of : goal.returns-in_default-begin_of
returns-in_default-begin_of c =
    let k = c.self.inside in
    let ends_is : slice_get k.ends.items c.args.place ≡ Some c.in-Some.end = sym c.place_at.ensures ∙ c.in-Some.is in
    let none : slice_get (k.first ∷ k.ends.items) c.args.place ≡ None = sym c.begin_of.ensures ∙ c.in_default-begin_of.is in
    ap₂ (text_by k.bytes.items k.gone) (sym none) (sym ends_is)
    ∙ slice_get_texts k.bytes.items k.gone k.first k.ends.items c.args.place
    ∙ ap (λ (v : QueuedTexts). slice_get v.texts c.args.place) c.self.view_is

pub overflow_sub-begin : goal.overflow_sub-begin
overflow_sub-begin c =
    let k = c.self.inside in
    let ends_is : slice_get k.ends.items c.args.place ≡ Some c.in-Some.end = sym c.place_at.ensures ∙ c.in-Some.is in
    let begin_is : slice_get (k.first ∷ k.ends.items) c.args.place ≡ Some c.in-Some-begin_of.begin =
    sym c.begin_of.ensures ∙ c.in-Some-begin_of.is in
    let lies : Between (k.gone + length k.bytes.items) k.first c.in-Some-begin_of.begin c.in-Some.end =
    between (k.gone + length k.bytes.items) k.first k.ends.items c.args.place c.in-Some-begin_of.begin c.in-Some.end
    c.self.invariant.end ends_is begin_is in
    omega (arith, c.self.invariant.there, c.self.invariant.left_ends, lies.begins, lies.order, lies.within)

pub overflow_sub-end : goal.overflow_sub-end
overflow_sub-end c =
    let k = c.self.inside in
    let ends_is : slice_get k.ends.items c.args.place ≡ Some c.in-Some.end = sym c.place_at.ensures ∙ c.in-Some.is in
    let begin_is : slice_get (k.first ∷ k.ends.items) c.args.place ≡ Some c.in-Some-begin_of.begin =
    sym c.begin_of.ensures ∙ c.in-Some-begin_of.is in
    let lies : Between (k.gone + length k.bytes.items) k.first c.in-Some-begin_of.begin c.in-Some.end =
    between (k.gone + length k.bytes.items) k.first k.ends.items c.args.place c.in-Some-begin_of.begin c.in-Some.end
    c.self.invariant.end ends_is begin_is in
    omega (arith, c.self.invariant.there, c.self.invariant.left_ends, lies.begins, lies.order, lies.within)

pub piece-requires-clause-order : goal.piece-requires-clause-order
piece-requires-clause-order c =
    let k = c.self.inside in
    let ends_is : slice_get k.ends.items c.args.place ≡ Some c.in-Some.end = sym c.place_at.ensures ∙ c.in-Some.is in
    let begin_is : slice_get (k.first ∷ k.ends.items) c.args.place ≡ Some c.in-Some-begin_of.begin =
    sym c.begin_of.ensures ∙ c.in-Some-begin_of.is in
    let lies : Between (k.gone + length k.bytes.items) k.first c.in-Some-begin_of.begin c.in-Some.end =
    between (k.gone + length k.bytes.items) k.first k.ends.items c.args.place c.in-Some-begin_of.begin c.in-Some.end
    c.self.invariant.end ends_is begin_is in
    omega (arith, c.self.invariant.there, c.self.invariant.left_ends, lies.begins, lies.order, lies.within)

pub piece-requires-clause-within : goal.piece-requires-clause-within
piece-requires-clause-within c =
    let k = c.self.inside in
    let ends_is : slice_get k.ends.items c.args.place ≡ Some c.in-Some.end = sym c.place_at.ensures ∙ c.in-Some.is in
    let begin_is : slice_get (k.first ∷ k.ends.items) c.args.place ≡ Some c.in-Some-begin_of.begin =
    sym c.begin_of.ensures ∙ c.in-Some-begin_of.is in
    let lies : Between (k.gone + length k.bytes.items) k.first c.in-Some-begin_of.begin c.in-Some.end =
    between (k.gone + length k.bytes.items) k.first k.ends.items c.args.place c.in-Some-begin_of.begin c.in-Some.end
    c.self.invariant.end ends_is begin_is in
    omega (arith, c.deref.ensures.len, k.bytes.ok.0, c.self.invariant.there, c.self.invariant.left_ends, lies.begins, lies.order, lies.within)

pub returns : goal.returns
returns c =
    let k = c.self.inside in
    let ends_is : slice_get k.ends.items c.args.place ≡ Some c.in-Some.end = sym c.place_at.ensures ∙ c.in-Some.is in
    let begin_is : slice_get (k.first ∷ k.ends.items) c.args.place ≡ Some c.in-Some-begin_of.begin =
    sym c.begin_of.ensures ∙ c.in-Some-begin_of.is in
    ap (λ (t : List ℕ). Some t) (c.piece.ensures
    ∙ ap (λ (bs : List ℕ). slice_range bs (c.in-Some-begin_of.begin - k.gone) (c.in-Some.end - k.gone)) c.deref.ensures.value)
    ∙ ap₂ (text_by k.bytes.items k.gone) (sym begin_is) (sym ends_is)
    ∙ slice_get_texts k.bytes.items k.gone k.first k.ends.items c.args.place
    ∙ ap (λ (v : QueuedTexts). slice_get v.texts c.args.place) c.self.view_is
