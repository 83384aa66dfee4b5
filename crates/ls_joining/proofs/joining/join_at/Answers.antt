use Rattle.std.proofs.Common.{◌≡◌, ◌∙◌, ◌∷◌, ◌++◌, [], ℕ, List, refl, ap, length, arith, rules}
use Rattle.std.proofs.lemmas.Grind.{common_steps}
use Rattle.ls_seated.specs.Seats.{SeatSeen}
use Rattle.ls_joining.proofs.Added.{joins_now}
use Rattle.ls_joining.proofs.joining.join_at.Goals as goal

pub returns-clause-joins : goal.returns-clause-joins
returns-clause-joins g c =
    let t = c.in_ok-seat.seat in
    let rank : c.len-rank.result ≡ length c.args.seats.now.items = first_of (omega arith, search rules, grind (arith, common_steps)) in (
      refl,
      (
        t,
        c.push_reserved-2.ensures.items ∙ ap (λ (l : List SeatSeen). l ++ t ∷ []) c.in-Ok.ensures.seats,
        c.push_reserved.ensures.items ∙ ap (λ (n : ℕ). c.make_room.new.numbers.items ++ n ∷ []) c.number.ensures
            ∙ ap (λ (l : List ℕ). l ++ t.number ∷ []) c.in-Ok.ensures.numbers,
        joins_now g.N.House.deed.config c.args.parts.now.watches.items c.args.place c.args.sub (length c.args.seats.now.items) c.len-rank.result
            c.args.item.now.item c.args.next.now c.index_mut-watch.result.now c.join.new.watch t c.requires.first c.index_mut-watch.ensures.value
            c.in_ok-seat.ensures.begins c.in_ok-seat.ensures.watch c.fits.ensures c.requires.shape rank c.in_ok-seat.ensures.seat c.in_ok-seat.ensures.at,
      ),
    )
