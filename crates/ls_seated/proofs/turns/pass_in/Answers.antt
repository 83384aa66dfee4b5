use Rattle.std.proofs.Common.{◌≡◌, List, Option, IsSome, length, sym, ◌∙◌, ap, subst, option_map}
use Rattle.ls_event.specs.Cuts.{cut}
use Rattle.ls_cell.specs.Cell.{cut_at, last_in}
use Rattle.ls_cell.specs.Numbered.{slot_at, set_slot}
use Rattle.ls_live.specs.Live.{HeldItem}
use Rattle.ls_live.proofs.Keeping.{some_value}
use Rattle.ls_seated.specs.Seats.{SideSeen, IsSeated, cuts_of, side_passed, slot_of}
use Rattle.ls_seated.proofs.Seating.{tied_by, item_passed}
use Rattle.ls_seated.proofs.Ready.{whole_cut}
use Rattle.ls_seated.proofs.turns.pass_in.Goals as goal

pub pass_cut-requires : goal.pass_cut-requires
pass_cut-requires g c =
    let i = c.args.live.now in
    let ds = c.args.sides.now.items in
    let t = c.args.seat.now in
    let d = tied_by (slot_at ds t.number) t c.requires.tied in
    let lists = sym (ap cuts_of d.is) ∙ c.requires.cuts in
    let is = whole_cut i ds t.number d.side c.requires.seated d.is c.requires.last
    ∙ (λ k. cut i.history (slot_of i.shape i.history (d.plan k) (lists k))) in
    subst (λ n. IsSome (cut_at i.cell n)) (sym c.number.ensures) (subst (λ o. IsSome o) (sym is) c.requires.cut)

pub returns-clause-seated : goal.returns-clause-seated
returns-clause-seated g c =
    let i = c.args.live.now in
    let ds = c.args.sides.now.items in
    let t = c.args.seat.now in
    let n = c.number.result in
    let d = tied_by (slot_at ds t.number) t c.requires.tied in
    let lists = sym (ap cuts_of d.is) ∙ c.requires.cuts in
    let taken = some_value (cut i.history (slot_of i.shape i.history t.plan t.list)) c.requires.cut in
    let is = (λ k. cut i.history (slot_of i.shape i.history (d.plan k) (lists k))) ∙ taken.1 in
    let said = c.pass_cut.ensures in
    let whole : c.number-cut.result ≡ length i.history = c.number-cut.ensures ∙ ap (λ (x : HeldItem). length x.history) said.rest in
    let sides = c.pass.ensures.item
    ∙ (λ k. set_slot ds (sym c.number.ensures k) (option_map (side_passed (whole k)) (d.is k))) in
    subst (λ (x : HeldItem × List (Option SideSeen)). IsSeated x.0 x.1) (λ k. (sym said.rest k, sym sides k))
    (item_passed i c.pass_cut.new.self.cell ds n d.side taken.0 c.requires.seated (ap (slot_at ds) c.number.ensures ∙ d.is)
    (ap (last_in i.cell) c.number.ensures ∙ c.requires.last) is said.stands).seated

pub returns-clause-last : goal.returns-clause-last
returns-clause-last g c =
    let i = c.args.live.now in
    let ds = c.args.sides.now.items in
    let t = c.args.seat.now in
    let n = c.number.result in
    let d = tied_by (slot_at ds t.number) t c.requires.tied in
    let lists = sym (ap cuts_of d.is) ∙ c.requires.cuts in
    let taken = some_value (cut i.history (slot_of i.shape i.history t.plan t.list)) c.requires.cut in
    let is = (λ k. cut i.history (slot_of i.shape i.history (d.plan k) (lists k))) ∙ taken.1 in
    let e = c.pass_cut.new.self.cell in
    ap (last_in e) (sym c.number.ensures)
    ∙ (item_passed i e ds n d.side taken.0 c.requires.seated (ap (slot_at ds) c.number.ensures ∙ d.is)
    (ap (last_in i.cell) c.number.ensures ∙ c.requires.last) is c.pass_cut.ensures.stands).last
