use Rattle.std.proofs.Common.{◌≡◌, ℕ, ◌-◌, ◌∙◌, List, ap, arith, length, subst, sym, Option}
use Rattle.ls_cell.specs.declared.any.AnyBuffer.{AnyBuffer}
use Rattle.ls_cell.specs.Cell.{Held, HasSlot, Going, last_in}
use Rattle.ls_cell.proofs.Sound.{near_at, run_admits, sound_slots}
use Rattle.ls_cell.proofs.CellStands.{going_first, going_ran}
use Rattle.ls_cell.proofs.cell.ItemCell.enqueue_run.Goals as goal

-- nothing was taken
going_none : (v : Held) (n : ℕ) → HasSlot v n → Going v v n (last_in v n - last_in v n)
going_none v n live =
    let none : 0 ≡ last_in v n - last_in v n = omega arith in
    subst (Going v v n) none (going_first v n live)

pub returns-then-lag-lt2-clause-going : goal.returns-then-lag-lt2-clause-going
returns-then-lag-lt2-clause-going c = going_none _ _ c.requires

pub overflow_sub-from : goal.overflow_sub-from
overflow_sub-from c =
    let live = subst (λ (v : Held). HasSlot v c.args.slot) (sym c.self.view_is) c.requires in
    let last = ap (λ (v : Held). last_in v c.args.slot) c.self.view_is in
    let number = ap (λ (v : Held). v.number) c.self.view_is in
    omega (arith, (near_at _ c.args.slot c.self.invariant live).near, c.lag-lag.ensures.lag, last, number, c.len.ensures, c.self.inside.tail.ok.0)

pub enqueue_run-requires-clause-admits : goal.enqueue_run-requires-clause-admits
enqueue_run-requires-clause-admits c =
    run_admits _ c.args.slot _ c.self.invariant (subst (λ (v : Held). HasSlot v c.args.slot) (sym c.self.view_is) c.requires)

pub returns-in_err-enqueue_run-clause-going : goal.returns-in_err-enqueue_run-clause-going
returns-in_err-enqueue_run-clause-going c =
    let v : Held = record {
      item = c.self.inside.item;
      number = c.self.inside.number;
      tail = c.self.inside.tail.items;
      seqs = c.self.inside.seqs.items;
      slots = c.enqueue_run.new.self;
    } in
    let same : v ≡ c.args.self.now =
    ap (λ (bs : List (Option AnyBuffer)). record v { slots = bs }) c.in_err-enqueue_run.ensures.err ∙ c.self.view_is in
    subst (λ (z : Held). Going c.args.self.now z c.args.slot (last_in z c.args.slot - last_in c.args.self.now c.args.slot))
    (sym same) (going_none _ _ c.requires)

pub invariant_of-self-2 : goal.invariant_of-self-2
invariant_of-self-2 c =
    let last = ap (λ (v : Held). last_in v c.args.slot) c.self.view_is in
    let number = ap (λ (v : Held). v.number) c.self.view_is in
    sound_slots _ c.enqueue_run.new.self c.self.invariant (c.in_ok-enqueue_run.ensures.sound _ _ _
    (omega (arith, c.in_ok-enqueue_run.ensures.most, c.lag-lag.ensures.lag, last, number, c.len.ensures, c.self.inside.tail.ok.0))
    c.self.invariant.slots)

pub returns-clause-going : goal.returns-clause-going
returns-clause-going c =
    let live = subst (λ (v : Held). HasSlot v c.args.slot) (sym c.self.view_is) c.requires in
    let v : Held = record {
      item = c.self.inside.item;
      number = c.self.inside.number;
      tail = c.self.inside.tail.items;
      seqs = c.self.inside.seqs.items;
      slots = c.self.inside.slots;
    } in
    let w : Held = record v { slots = c.enqueue_run.new.self } in
    let last = ap (λ (z : Held). last_in z c.args.slot) c.self.view_is in
    let number = ap (λ (z : Held). z.number) c.self.view_is in
    let index : c.len.result - c.lag-lag.result ≡ last_in v c.args.slot - (v.number - length v.tail) =
    omega (
      arith,
      c.lag-lag.ensures.lag,
      last,
      number,
      c.len.ensures,
      c.self.inside.tail.ok.0,
      (near_at _ c.args.slot c.self.invariant live).near,
      c.self.invariant.within,
    ) in
    let g : Going v w c.args.slot c.in_ok-enqueue_run.field-0 =
    going_ran v c.enqueue_run.new.self c.args.slot (c.len.result - c.lag-lag.result) c.in_ok-enqueue_run.field-0 live
    c.in_ok-enqueue_run.ensures.live c.in_ok-enqueue_run.ensures.one c.in_ok-enqueue_run.ensures.last index
    c.in_ok-enqueue_run.ensures.stands in
    let count : c.in_ok-enqueue_run.field-0 ≡ last_in w c.args.slot - last_in v c.args.slot =
    omega (arith, c.in_ok-enqueue_run.ensures.last) in
    subst (λ (z : Held). Going z w c.args.slot (last_in w c.args.slot - last_in z c.args.slot)) c.self.view_is
    (subst (Going v w c.args.slot) count g)
