use Rattle.std.proofs.Common.{sym, ◌∙◌, ap, subst, arith}
use Rattle.atomic_table.specs.Table.{Splits}
use Rattle.ls_pair.specs.declared.side.Side.{Side}
use Rattle.ls_pair.specs.Ties.{Tied, item_of, session_of}
use Rattle.ls_pair.proofs.Keeps.{cuts}
use Rattle.ls_pair.proofs.tie.Tie.cut.Goals as goal

pub split_seat-other-requires : goal.split_seat-other-requires
split_seat-other-requires g c =
    let wide = c.self.invariant in
    let is = ap (λ m. m.0) c.requires.pair in
    let id = c.args.seat.now.id in (
      c.requires.table ∙ sym c.self.view_is,
      omega (arith, wide),
      subst (λ (v : Side _). Splits Tied id v (item_of v) (session_of v)) (sym is) (cuts id c.args.seat.now.me.0.list),
    )
