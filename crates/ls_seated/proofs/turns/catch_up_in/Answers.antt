use Rattle.std.proofs.Common.{List, Option, sym, ◌∙◌, subst}
use Rattle.ls_cell.specs.Numbered.{slot_at}
use Rattle.ls_live.specs.Live.{HeldItem}
use Rattle.ls_seated.specs.Seats.{SideSeen, IsSeated, IsTied}
use Rattle.ls_seated.proofs.Seating.{side_live, item_caught, tied_by}
use Rattle.ls_seated.proofs.turns.catch_up_in.Goals as goal

pub catch_up-requires : goal.catch_up-requires
catch_up-requires g c =
    let ds = c.args.sides.now.items in
    let n = c.number.result in
    let t = c.args.seat.now in
    let d = tied_by (slot_at ds n) t (subst (λ k. IsTied (slot_at ds k) t) (sym c.number.ensures) c.requires.tied) in
    side_live c.args.live.now ds n d.side c.requires.seated d.is

pub returns-in_default-clause-seated : goal.returns-in_default-clause-seated
returns-in_default-clause-seated g c =
    let ds = c.args.sides.now.items in
    let n = c.number.result in
    let t = c.args.seat.now in
    let d = tied_by (slot_at ds n) t (subst (λ k. IsTied (slot_at ds k) t) (sym c.number.ensures) c.requires.tied) in
    let said = c.catch_up.ensures in
    subst (λ (x : HeldItem). IsSeated x ds) (sym said.rest)
    (item_caught c.args.live.now c.catch_up.new.self.cell ds n d.side c.requires.seated d.is said.stands)

pub returns-clause-seated : goal.returns-clause-seated
returns-clause-seated g c =
    let ds = c.args.sides.now.items in
    let n = c.number.result in
    let t = c.args.seat.now in
    let d = tied_by (slot_at ds n) t (subst (λ k. IsTied (slot_at ds k) t) (sym c.number.ensures) c.requires.tied) in
    let said = c.catch_up.ensures in
    subst (λ (x : HeldItem × List (Option SideSeen)). IsSeated x.0 x.1)
    (λ k. (sym (c.show.ensures.same ∙ said.rest) k, sym c.agree.ensures.same.0 k))
    (item_caught c.args.live.now c.catch_up.new.self.cell ds n d.side c.requires.seated d.is said.stands)
