use Rattle.std.proofs.Common.{◌≡◌, List, [], ◌∷◌, ◌++◌, sym, ap, ◌∙◌, subst}
use Rattle.ls_taking.proofs.Reading.{read_is}
use Rattle.ls_taking.specs.Groups.{SubSeen}
use Rattle.ls_taking.specs.Lives.{HasSeat}
use Rattle.ls_parts.proofs.Changed.{has_seat_removed, has_seat_taken, has_no_seat}
use Rattle.ls_parts.proofs.requests.take_sub.Goals as goal

pub returns-in_default-clause-taken : goal.returns-in_default-clause-taken
returns-in_default-clause-taken g c config ws v of h =
    absurd (has_no_seat config ws c.args.all.now.items c.args.sub v c.in_default.ensures.none of h)

pub returns-clause-others : goal.returns-clause-others
returns-clause-others g c config ws v other h =
    let at = c.in-Some.ensures.found in
    subst (λ (xs : List SubSeen). HasSeat config ws xs v) (sym c.remove.ensures.items)
    (has_seat_removed config ws c.args.all.now.items c.in-Some.place at.0 c.args.sub v at.1 at.2 other h)

pub returns-clause-taken : goal.returns-clause-taken
returns-clause-taken g c config ws v of h =
    let at = c.in-Some.ensures.found in
    let one : c.remove.result ≡ at.0 =
    read_is c.args.all.now.items c.in-Some.place c.remove.result at.0 c.remove.ensures.value at.1 in
    let alone : c.push_reserved.new.self.items ≡ at.0 ∷ [] =
    c.push_reserved.ensures.items ∙ ap (λ (xs : List SubSeen). xs ++ c.remove.result ∷ []) c.requires.none
    ∙ ap (λ (x : SubSeen). x ∷ []) one in
    subst (λ (xs : List SubSeen). HasSeat config ws xs v) (sym alone)
    (has_seat_taken config ws c.args.all.now.items c.in-Some.place at.0 c.args.sub v at.1 at.2 at.3 of h)
