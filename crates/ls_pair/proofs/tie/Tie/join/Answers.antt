use Rattle.std.proofs.Common.{sym, ◌∙◌, ap, subst, arith, refl}
use Rattle.ls_pair.specs.declared.side.Side.{Side}
use Rattle.ls_pair.specs.Ties.{paired, list_of}
use Rattle.ls_pair.proofs.Keeps.{Joining, joins, agrees, first_of}
use Rattle.ls_pair.proofs.tie.Tie.join.Goals as goal

pub join_seat-requires : goal.join_seat-requires
join_seat-requires g c =
    let wide = c.self.invariant in
    let into = c.into_seat-other.ensures in
    let mine = ap (λ m. m.0) c.requires.item in
    let theirs = first_of _ _ (sym into.2 ∙ c.requires.session) in
    let id = c.args.seat.now.id in
    let other = c.into_seat-other.result.id in (
      c.requires.tables.0 ∙ sym c.self.view_is,
      into.0 ∙ (c.requires.tables.1 ∙ sym c.self.view_is),
      into.3,
      omega (arith, wide),
      subst (λ (p : Side _ × Side _). Joining id p.0 other p.1) (λ i. (sym mine i, sym theirs i))
          (joins id c.args.seat.now.me.0.list other (list_of c.args.badge.views)),
    )

pub load-requires : goal.load-requires
load-requires g c =
    let wide = c.self.invariant in
    let j = c.join_seat.ensures in
    let me = j.2 ∙ ap (λ m. (paired c.args.seat.now.me.0 c.into_seat-other.result.me.0, m.1)) c.requires.item in
    (j.0 ∙ (c.requires.tables.0 ∙ sym c.self.view_is), omega (arith, wide), rw me (agrees _ c.join_seat.new.seat.id _ refl))
