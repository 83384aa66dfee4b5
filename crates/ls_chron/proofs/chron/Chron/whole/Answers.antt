use Rattle.std.proofs.Common.{◌≡◌, length, [], sym, ◌∙◌, ap, subst, arith}
use Rattle.ls_chron.specs.History.{writer, compares}
use Rattle.ls_chron.proofs.Keeps.{Joining, joins, compares_now, whole_told}
use mathlib.Core.List.{IsPrefix}
use Rattle.ls_chron.proofs.chron.Chron.whole.Goals as goal

pub join_seat-requires : goal.join_seat-requires
join_seat-requires g c =
    let wide = c.self.invariant in
    let mine : c.w.inside.seat.table_id ≡ c.self.inside.table.shared.table_id =
    ap (λ t. t.table) (c.w.view_is ∙ c.note-fresh.ensures.1) ∙ (c.requires.0 ∙ sym c.self.view_is) in
    let theirs : c.seat.inside.seat.table_id ≡ c.self.inside.table.shared.table_id =
    ap (λ t. t.table) (c.seat.view_is ∙ c.replace.ensures.value) ∙ (c.requires.1 ∙ sym c.self.view_is) in (
      mine,
      theirs,
      ap (λ m. m.1) c.seat.invariant,
      omega (arith, wide),
      subst (Joining c.w.inside.seat.id c.w.inside.seat.me.0 c.seat.inside.seat.id) (sym (ap (λ m. m.0) c.seat.invariant))
          (joins c.w.inside.seat.id c.w.inside.seat.me.0 c.seat.inside.seat.id c.seat.inside.seat.me.0.list),
    )

pub load-requires : goal.load-requires
load-requires g c =
    let wide = c.self.invariant in
    let j = c.join_seat.ensures in
    let mine : c.w.inside.seat.table_id ≡ c.self.inside.table.shared.table_id =
    ap (λ t. t.table) (c.w.view_is ∙ c.note-fresh.ensures.1) ∙ (c.requires.0 ∙ sym c.self.view_is) in
    let me : c.join_seat.new.seat.me ≡ (compares c.w.inside.seat.me.0 c.seat.inside.seat.me.0, []) =
    j.2 ∙ ap (λ (l : _). (compares c.w.inside.seat.me.0 c.seat.inside.seat.me.0, l)) (ap (λ m. m.1) c.w.invariant.2) in
    (j.0 ∙ mine, omega (arith, wide), rw me (compares_now _ c.join_seat.new.seat.id _))

pub invariant_of-w : goal.invariant_of-w
invariant_of-w g c =
    let t =
    whole_told c.w.inside.seat.me.0.list c.seat.inside.seat.me.0.list c.w.inside.seat.me c.join_seat.new.seat.me
    c.load.new.seat.me c.seat.inside.seat.me.0 c.w.invariant.2 (ap (λ m. m.0) c.seat.invariant) c.join_seat.ensures.2
    c.load.ensures.2 in
    let list = ap (λ m. m.0.list) t.0 in
    (c.w.invariant.0 ∙ sym (ap length list), c.w.invariant.1, t.0 ∙ ap (λ l. (writer l, [])) (sym list))

pub returns-clause-writer : goal.returns-clause-writer
returns-clause-writer g c =
    let t =
    whole_told c.w.inside.seat.me.0.list c.seat.inside.seat.me.0.list c.w.inside.seat.me c.join_seat.new.seat.me
    c.load.new.seat.me c.seat.inside.seat.me.0 c.w.invariant.2 (ap (λ m. m.0) c.seat.invariant) c.join_seat.ensures.2
    c.load.ensures.2 in
    let list = ap (λ m. m.0.list) t.0 in
    let table = c.load.ensures.0 ∙ c.join_seat.ensures.0 in
    (λ i. record { table = table i; list = list i }) ∙ (c.w.view_is ∙ c.note-fresh.ensures.1)

pub returns-clause-beginning : goal.returns-clause-beginning
returns-clause-beginning g c =
    let t =
    whole_told c.w.inside.seat.me.0.list c.seat.inside.seat.me.0.list c.w.inside.seat.me c.join_seat.new.seat.me
    c.load.new.seat.me c.seat.inside.seat.me.0 c.w.invariant.2 (ap (λ m. m.0) c.seat.invariant) c.join_seat.ensures.2
    c.load.ensures.2 in
    let w = ap (λ t. t.list) (c.w.view_is ∙ c.note-fresh.ensures.1) in
    let r = ap (λ t. t.list) (c.seat.view_is ∙ c.replace.ensures.value) in
    subst (λ (l : _). IsPrefix l c.args.w.now.list) r (subst (IsPrefix c.seat.inside.seat.me.0.list) w t.1)
