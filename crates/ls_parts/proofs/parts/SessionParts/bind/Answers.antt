use Rattle.std.proofs.Common.{◌≡◌, ℕ, Option, Some, true, sym, ap, ◌∙◌}
use Rattle.std.specs.Prelude.{unwrap_or}
use Rattle.ls_told.specs.Requests.{is_spent}
use Rattle.ls_parts.proofs.Codes.{bind_fresh, bind_spent}
use Rattle.ls_parts.proofs.Living.{bound_lives, bound_accepted, named_by}
use Rattle.ls_parts.proofs.parts.SessionParts.bind.Goals as goal

pub returns-then-is_spent-clause-refused : goal.returns-then-is_spent-clause-refused
returns-then-is_spent-clause-refused g c code is =
    let r = c.requires.lives.0 in
    let l = c.requires.lives.1 in
    let s = c.args.self.now in
    let same : c.spent_code.result ≡ code = cc in
    let spent : is_spent s.history.list ≡ true = sym c.is_spent.ensures ∙ c.if-is_spent.true in
    bind_spent s.number s.history.list r.session c.args.bind.now r.number l.told.told
    (named_by _ s.number s.history.list s.watches.items s.subs.items s.session r c.args.bind.now l c.requires.named) spent
    ∙ ap (λ (o : Option ℕ). Some (unwrap_or o 74)) (sym (c.code_of_bind.ensures.code r l.stands))
    ∙ ap (λ (n : ℕ). Some n) (sym c.spent_code.ensures ∙ same)

pub returns-in-Ok-clause-accepted : goal.returns-in-Ok-clause-accepted
returns-in-Ok-clause-accepted g c =
    let r = c.requires.lives.0 in
    let l = c.requires.lives.1 in
    let s = c.args.self.now in
    bound_accepted g.N.House.deed.config s.number s.history.list s.watches.items s.subs.items s.session r l c.args.bind.now c.args.now
    c.tick-tick.result c.in-Ok.epoch c.sent.result c.is_some.result c.bind.new.self c.tell.new.self.list
    (sym c.is_spent.ensures ∙ c.if-is_spent.false) c.tick-tick.ensures.tick c.tick-tick.ensures.most (c.in-Ok.ensures.accepted r l.stands)
    c.sent.ensures c.is_some.ensures (ap (λ h. h.list) c.tell.ensures)
    (named_by _ s.number s.history.list s.watches.items s.subs.items s.session r c.args.bind.now l c.requires.named)

pub returns-in-Ok-clause-lives : goal.returns-in-Ok-clause-lives
returns-in-Ok-clause-lives g c =
    let r = c.requires.lives.0 in
    let l = c.requires.lives.1 in
    let s = c.args.self.now in
    bound_lives g.N.House.deed.config s.number s.history.list s.watches.items s.subs.items s.session r l c.args.bind.now c.args.now
    c.tick-tick.result c.in-Ok.epoch c.sent.result c.is_some.result c.bind.new.self c.tell.new.self.list
    (sym c.is_spent.ensures ∙ c.if-is_spent.false) c.tick-tick.ensures.tick c.tick-tick.ensures.most (c.in-Ok.ensures.accepted r l.stands)
    c.sent.ensures c.is_some.ensures (ap (λ h. h.list) c.tell.ensures)

pub returns-in-Err-clause-refused : goal.returns-in-Err-clause-refused
returns-in-Err-clause-refused g c code is =
    let r = c.requires.lives.0 in
    let l = c.requires.lives.1 in
    let s = c.args.self.now in
    bind_fresh s.number s.history.list r.session c.args.bind.now r.number l.told.told
    (named_by _ s.number s.history.list s.watches.items s.subs.items s.session r c.args.bind.now l c.requires.named)
    (sym c.is_spent.ensures ∙ c.if-is_spent.false)
    ∙ c.bind.ensures.refused code (c.in-Err.is ∙ is) r l.stands
