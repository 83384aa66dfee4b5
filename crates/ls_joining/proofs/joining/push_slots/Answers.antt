use Rattle.std.proofs.Common.{◌≡◌, ◌≤◌, ◌<◌, ◌++◌, ◌∷◌, [], List, length, map, take, slice_get, Some, sym, ap, ◌∙◌, arith}
use Rattle.std.proofs.lemmas.Grind.{common_steps}
use Rattle.std.proofs.lemmas.List.{take_all}
use Rattle.ls_register.specs.declared.begun.SlotBegun.{SlotBegun}
use Rattle.ls_seated.specs.Seats.{SeatSeen}
use Rattle.ls_joining.specs.Adding.{slot_begun}
use Rattle.ls_joining.proofs.Added.{read_at}
use Rattle.ls_joining.proofs.Sitting.{slots_next}
use Rattle.ls_joining.proofs.joining.push_slots.Goals as goal

pub push_reserved-requires : goal.push_reserved-requires
push_reserved-requires g c =
    let i = c.loop-i.invariant in
    let test = c.loop-i-test.true in
    let len = c.len-i-end.ensures in
    let ok = c.args.seats.now.ok in
    let low : c.loop-i.i < length c.args.seats.now.items = grind (arith, common_steps) in
    omega (arith, low, i.1, i.2)

pub loop-i-preserved : goal.loop-i-preserved
loop-i-preserved g c =
    let i = c.loop-i.invariant in
    let ts = c.args.seats.now.items in
    let t = c.index-seat.result.now in
    let test = c.loop-i-test.true in
    let len = c.len-i-end.ensures in
    let ok = c.args.seats.now.ok in
    let low : c.loop-i.i < length ts = grind (arith, common_steps) in
    let there : slice_get ts c.loop-i.i ≡ Some t = read_at ts c.loop-i.i t low c.index-seat.ensures in (
      c.push_reserved.ensures.items
          ∙ ap (λ (l : List SlotBegun). l ++ c.slot_of.result ∷ []) i.0
          ∙ ap (λ (s : SlotBegun). map slot_begun (take c.loop-i.i ts) ++ s ∷ []) c.slot_of.ensures
          ∙ sym (slots_next ts c.loop-i.i t there),
      omega (arith, i.1, c.push_reserved.ensures.len),
      omega (arith, i.2, c.push_reserved.ensures.capacity),
    )

pub returns : goal.returns
returns g c =
    let i = c.loop-i.invariant in
    let ts = c.args.seats.now.items in
    let test = c.loop-i-test.false in
    let len = c.len-i-end.ensures in
    let ok = c.args.seats.now.ok in
    let low : length ts ≤ c.loop-i.i = grind (arith, common_steps) in
    i.0 ∙ ap (λ (l : List SeatSeen). map slot_begun l) (take_all c.loop-i.i ts low)
