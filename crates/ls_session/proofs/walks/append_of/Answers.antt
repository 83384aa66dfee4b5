use Rattle.std.proofs.Common.{◌≡◌, ◌<◌, ◌≤◌, ◌+◌, ◌++◌, ◌∷◌, [], Some, length, drop, ap, sym, ◌∙◌, arith}
use Rattle.std.proofs.lemmas.List.{append_assoc, append-nil}
use Rattle.ls_turns.specs.Round.{node_of_place, slots_of}
use Rattle.ls_session.specs.Session.{refs_of}
use Rattle.ls_session.proofs.Seats.{node_within, seated, walk_here, walk_next, walk_over, refs_step}
use Rattle.ls_session.proofs.walks.append_of.Goals as goal

pub loop-i-preserved : goal.loop-i-preserved
loop-i-preserved c =
    let at : node_of_place c.args.turns.now c.loop-i._i ≡ Some c.in-Some.here = sym c.loop-i.invariant.node ∙ c.in-Some.is in
    record {
      node = walk_next c.args.turns.now c.loop-i._i c.in-Some.here c.next-node.result at c.next-node.ensures;
      rest = ap (λ xs. xs ++ refs_of c.args.sub (drop (c.loop-i._i + 1) (slots_of c.args.turns.now))) c.in_ok-push_of.ensures
          ∙ append_assoc c.loop-i.found.items (refs_of c.args.sub (c.slot.result ∷ [])) (refs_of c.args.sub (drop (c.loop-i._i + 1)
          (slots_of c.args.turns.now)))
          ∙ ap (λ xs. c.loop-i.found.items ++ xs)
          (sym (refs_step c.args.sub c.slot.result (drop (c.loop-i._i + 1) (slots_of c.args.turns.now)))
          ∙ ap (refs_of c.args.sub) (sym (walk_here c.args.turns.now c.loop-i._i c.in-Some.here c.slot.result at c.slot.ensures)))
          ∙ c.loop-i.invariant.rest;
    }

pub returns-in_default : goal.returns-in_default
returns-in_default c =
    let low : c.loop-i._i < length c.args.turns.now.seats = omega (arith, c.loop-i-test.true, c.len-i-end.ensures) in
    absurd (node_within c.args.turns.now c.loop-i._i low (sym c.loop-i.invariant.node ∙ c.in_default.is))

pub slot-requires : goal.slot-requires
slot-requires c = seated c.args.turns.now c.loop-i._i c.in-Some.here (sym c.loop-i.invariant.node ∙ c.in-Some.is)

pub next-node-requires : goal.next-node-requires
next-node-requires c = seated c.args.turns.now c.loop-i._i c.in-Some.here (sym c.loop-i.invariant.node ∙ c.in-Some.is)

pub returns : goal.returns
returns c =
    let over : length c.args.turns.now.seats ≤ c.loop-i._i = omega (arith, c.loop-i-test.false, c.len-i-end.ensures) in
    sym (append-nil c.loop-i.found.items)
    ∙ ap (λ xs. c.loop-i.found.items ++ refs_of c.args.sub xs) (sym (walk_over c.args.turns.now c.loop-i._i over))
    ∙ c.loop-i.invariant.rest
