use Rattle.std.proofs.Common.{ap, refl, ◌∙◌, Err}
use Rattle.ls_lines.proofs.Joining.{ends_some, ends_not}
use Rattle.ls_feed.specs.Feeding.{Feeder}
use Rattle.ls_feed.proofs.Going.{kept_by, stands_of, refused, too_long_within, no_room, acted_on, acted_over, kept_all}
use Rattle.ls_feed.specs.declared.feed.Fed.TheVariants as fed
use Rattle.ls_feed.proofs.feed.Feed.next.Goals as goal

pub returns-in-Err-TooLong-clause-goes : goal.returns-in-Err-TooLong-clause-goes
returns-in-Err-TooLong-clause-goes g c = λ read held st.
    let cut = c.self.inside.lines in
    let k = kept_by c.self.inside.feeder cut in
    refused _ k (kept_by c.refuse.new.self c.take.new.self) c.refuse.result c.args.piece.now read held _ _ (ap (λ (f : Feeder). f.passes) c.refuse.ensures.same)
    (too_long_within cut _ c.self.invariant (c.in-Err-TooLong.ensures.too_long (ap (λ e. Err e) c.in-Err-TooLong.field-0-is)))
    (stands_of _ k c.args.self.now read held _ c.self.view_is st) c.refuse.ensures.says

pub returns-in-Err-NoMemory-clause-goes : goal.returns-in-Err-NoMemory-clause-goes
returns-in-Err-NoMemory-clause-goes g c = λ read held st.
    let k = kept_by c.self.inside.feeder c.self.inside.lines in
    no_room _ k k c.args.piece.now read held _ refl (stands_of _ k c.args.self.now read held _ c.self.view_is st)

pub returns-in_default-clause-goes : goal.returns-in_default-clause-goes
returns-in_default-clause-goes g c = λ read held st.
    let cut = c.self.inside.lines in
    let f = c.self.inside.feeder in
    acted_over _ c.act.result f c.act.new.self cut c.take.new.self c.line-line.result.now c.args.piece.now c.in-Ok-Some.used _ _ c.in_default.not-All
    c.self.invariant (ends_some _ _ _ _ _ c.in-Ok-Some.field-0-is c.in-Ok-Some.ensures.lines) c.line-line.ensures c.act.ensures.acts read held
    (stands_of _ (kept_by f cut) c.args.self.now read held _ c.self.view_is st)

pub returns-clause-goes : goal.returns-clause-goes
returns-clause-goes g c = λ read held st.
    let cut = c.self.inside.lines in
    let f = c.self.inside.feeder in
    acted_on _ fed.All f c.act.new.self cut c.take.new.self c.line-line.result.now c.args.piece.now c.in-Ok-Some.used _ _ c.self.invariant
    (ends_some _ _ _ _ _ c.in-Ok-Some.field-0-is c.in-Ok-Some.ensures.lines) c.line-line.ensures
    c.in-All.ensures.acts read held (stands_of _ (kept_by f cut) c.args.self.now read held _ c.self.view_is st)
