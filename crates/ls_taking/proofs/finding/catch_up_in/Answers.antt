use Rattle.std.proofs.Common.{◌-◌, List, length, false, slice_get, slice_set, sym, ◌∙◌, ap, subst}
use mathlib.Core.List.{IsPrefix}
use Rattle.ls_live.specs.Live.{HeldItem}
use Rattle.ls_seated.specs.Seats.{SeatSeen}
use Rattle.ls_told.specs.Seen.{Watched, SeesMore, FitsWatch, showing}
use Rattle.ls_told.proofs.Watching.{sees_changed, sees_same}
use Rattle.ls_sight.proofs.Reading.{read_is, set_change, set_same}
use Rattle.ls_taking.specs.Groups.{SubSeen}
use Rattle.ls_taking.specs.Taking.{IsAskedFrom, IsWhole, caught_up, asked_now, seat_set}
use Rattle.ls_taking.proofs.Catching.{seat_caught, caught_asked}
use Rattle.ls_taking.proofs.finding.catch_up_in.Goals as goal

pub returns-clause-ready : goal.returns-clause-ready
returns-clause-ready g c =
    let f = c.requires.found in
    let subs = c.args.subs.now.items in
    let k = c.args.found.seats in
    let slot = c.args.slot in
    let u : SeatSeen = record f.seat.seat { last = length c.args.item.now.item.history; quiet = false } in
    let group = read_is subs k c.index_mut-group.result.now f.seat.group c.index_mut-group.ensures.value f.seat.there in
    let both = c.in-Ok.ensures.ready f.seat.seat (ap (λ (x : SubSeen). slice_get x.seats (slot.place - 1)) group ∙ f.seat.ranked) in
    let new = ap (slice_set subs k) (both.1 ∙ ap (λ (x : SubSeen). seat_set x slot.place u) group) in
    seat_caught subs _ k slot f.seat u c.catch_up.new.item new both.0

pub returns-clause-more : goal.returns-clause-more
returns-clause-more g c =
    let f = c.requires.found in
    let ws = c.args.watches.now.items in
    let k = c.args.found.watch in
    let h = c.args.item.now.item.history in
    let w = read_is ws k c.index_mut-watch.result.now f.first.watch c.index_mut-watch.ensures.value f.first.there in
    let is = c.in-Ok.ensures.watch.0 ∙ ap (showing h) w in
    let more = subst (λ (x : Watched). IsPrefix x.list h) w c.in-Ok.ensures.watch.1 in
    subst (SeesMore ws) (sym (ap (slice_set ws k) is ∙ set_change (showing h) k ws f.first.watch f.first.there))
    (sees_changed ws k f.first.watch h f.first.there more)

pub returns-in_default-clause-more : goal.returns-in_default-clause-more
returns-in_default-clause-more g c =
    let f = c.requires.found in
    let ws = c.args.watches.now.items in
    let k = c.args.found.watch in
    let w = read_is ws k c.index_mut-watch.result.now f.first.watch c.index_mut-watch.ensures.value f.first.there in
    let is = ap (slice_set ws k) (c.in_default.ensures.err.1 ∙ w) ∙ set_same ws k f.first.watch f.first.there in
    subst (SeesMore ws) (sym is) (sees_same ws)

pub returns-clause-caught : goal.returns-clause-caught
returns-clause-caught g c number now es kept r q ask of asked =
    let f = c.requires.found in
    let config = g.N.House.deed.config in
    let subs = c.args.subs.now.items in
    let ws = c.args.watches.now.items in
    let k = c.args.found.watch in
    let s = c.args.found.seats in
    let slot = c.args.slot in
    let i = c.args.item.now in
    let j = c.catch_up.new.item in
    let h = i.item.history in
    let u : SeatSeen = record f.seat.seat { last = length h; quiet = false } in
    let w = read_is ws k c.index_mut-watch.result.now f.first.watch c.index_mut-watch.ensures.value f.first.there in
    let is = c.in-Ok.ensures.watch.0 ∙ ap (showing h) w in
    let more = subst (λ (x : Watched). IsPrefix x.list h) w c.in-Ok.ensures.watch.1 in
    let fits = subst (FitsWatch config) is c.fits.ensures in
    let group = read_is subs s c.index_mut-group.result.now f.seat.group c.index_mut-group.ensures.value f.seat.there in
    let both = c.in-Ok.ensures.ready f.seat.seat (ap (λ (x : SubSeen). slice_get x.seats (slot.place - 1)) group ∙ f.seat.ranked) in
    let new = ap (slice_set subs s) (both.1 ∙ ap (λ (x : SubSeen). seat_set x slot.place u) group) in
    let said = c.catch_up.ensures.item in
    subst (λ (x : List Watched).
    IsAskedFrom config number es x (slice_set subs s c.catch_up.new.self) kept (caught_up (length h) r) (asked_now (length h) q) ask now
    × IsWhole config x (asked_now (length h) q) j)
    (sym (ap (slice_set ws k) is ∙ set_change (showing h) k ws f.first.watch f.first.there))
    (caught_asked config ws subs (slice_set subs s c.catch_up.new.self) s k slot i j f new more fits
    (ap (λ (x : HeldItem). x.history) said) (ap (λ (x : HeldItem). x.shape) said) number now es kept r q ask of asked)
