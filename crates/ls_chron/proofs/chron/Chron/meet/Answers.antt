use Rattle.std.proofs.Common.{◌≡◌, [], sym, ◌∙◌, ap, subst, arith}
use Rattle.ls_chron.specs.History.{compares}
use Rattle.ls_chron.proofs.Keeps.{Joining, joins, compares_now}
use Rattle.ls_chron.proofs.chron.Chron.meet.Goals as goal

pub join_seat-requires : goal.join_seat-requires
join_seat-requires g c =
    let wide = c.self.invariant in
    let mine : c.r.inside.seat.table_id ≡ c.self.inside.table.shared.table_id = ap (λ t. t.table) c.r.view_is ∙ (c.requires.0 ∙ sym c.self.view_is) in
    let theirs : c.note.inside.seat.table_id ≡ c.self.inside.table.shared.table_id = ap (λ t. t.table) c.note.view_is ∙ (c.requires.1 ∙ sym c.self.view_is) in (
      mine,
      theirs,
      ap (λ m. m.1) c.note.invariant,
      omega (arith, wide),
      subst (Joining c.r.inside.seat.id c.r.inside.seat.me.0 c.note.inside.seat.id) (sym (ap (λ m. m.0) c.note.invariant))
          (joins c.r.inside.seat.id c.r.inside.seat.me.0 c.note.inside.seat.id c.note.inside.seat.me.0.list),
    )

pub load-requires : goal.load-requires
load-requires g c =
    let wide = c.self.invariant in
    let j = c.join_seat.ensures in
    let mine : c.r.inside.seat.table_id ≡ c.self.inside.table.shared.table_id = ap (λ t. t.table) c.r.view_is ∙ (c.requires.0 ∙ sym c.self.view_is) in
    let me : c.join_seat.new.seat.me ≡ (compares c.r.inside.seat.me.0 c.note.inside.seat.me.0, []) =
    j.2 ∙ ap (λ (l : _). (compares c.r.inside.seat.me.0 c.note.inside.seat.me.0, l)) (ap (λ m. m.1) c.r.invariant) in
    (j.0 ∙ mine, omega (arith, wide), rw me (compares_now _ c.join_seat.new.seat.id _))
