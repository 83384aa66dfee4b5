use Rattle.std.proofs.Common.{◌-◌, slice_get, sym, ◌∙◌, ap, subst}
use Rattle.ls_live.specs.Live.{IsWatchOf}
use Rattle.ls_seated.specs.Seats.{SeatedItem, IsSeatOf}
use Rattle.ls_told.specs.Seen.{Watched}
use Rattle.ls_sight.proofs.Reading.{shape_found, read_is}
use Rattle.ls_taking.specs.Groups.{SubSeen}
use Rattle.ls_taking.proofs.finding.find_in.Goals as goal

pub returns-clause-found : goal.returns-clause-found
returns-clause-found g c =
    let config = g.N.House.deed.config in
    let w = c.in-Some.ensures.found in
    let s = c.in-Some-last_place.ensures.found in
    let item = c.has_item.ensures.of c.if-not-has_item.false 0 in
    let watch = read_is c.args.watches.now.items c.in-Some.watch c.index_mut.result.now w.0 c.index_mut.ensures.value w.1 in
    let seats = read_is c.args.subs.now.items c.in-Some-last_place.seats c.index_mut-2.result.now s.0 c.index_mut-2.ensures.value s.1 in
    let seat = c.is_seat.ensures.one c.if-not-is_seat.false in
    record {
      seat =
          record {
            group = s.0;
            seat = seat.1.0;
            there = s.1;
            named = s.2;
            only = s.3;
            some = seat.0;
            ranked = ap (λ (x : SubSeen). slice_get x.seats (c.args.slot.place - 1)) (sym seats) ∙ seat.1.1;
          };
      of = subst (λ (x : SeatedItem). IsSeatOf seat.1.0 x) c.is_watch.ensures.same.0 seat.1.2;
      first =
          record {
            watch = w.0;
            there = w.1;
            of = subst (λ (x : Watched). IsWatchOf x c.args.item.now.item) watch
                (c.is_watch.ensures.one c.if-not-is_watch.false);
            number_is = w.2;
            none = w.3;
          };
      shape = item.shows.shape_is ∙ sym (shape_found config c.args.slot.item item.shows.def item.shows.declared);
    }
