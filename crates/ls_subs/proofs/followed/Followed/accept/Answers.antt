use Rattle.std.proofs.Common.{◌≡◌, ◌++◌, List, Option, None, Some, Result, Ok, Err, OnErr, refl, sym, ◌∙◌, ap, subst, option_map}
use Rattle.ls_value.specs.declared.row.Value.{Value}
use Rattle.ls_event.specs.declared.event.Taken.{Taken}
use Rattle.ls_mirror.specs.Client.{What, row_or}
use Rattle.ls_mirror.specs.Keys.{KeyTable}
use Rattle.ls_record.specs.Lines.{tells_text}
use Rattle.ls_subs.specs.declared.cut_line.CutLine.TheVariants as tells
use Rattle.ls_subs.specs.Subscribed.{Subscribed}
use Rattle.ls_subs.specs.Subscription.{Appended, Appends, what_in, what_comes, line_if, after_line, told_by, keyed_with}
use Rattle.ls_subs.proofs.Lengths.{heard_length}
use Rattle.ls_subs.proofs.followed.Followed.accept.Goals as goal

-- nothing came, or something did
silent : (u : Subscribed) (t : Taken) (a : Appended) → what_comes u t ≡ None → Appends a None → Appends a (line_if u (what_comes u t))
silent u t a none same = subst (λ (w : Option What). Appends a (line_if u w)) (sym none) same

said : (u : Subscribed) (t : Taken) (a : Appended) (what : What) → what_comes u t ≡ Some what → a.told ≡ told_by what
    → a.after ≡ a.before ++ tells_text u.row u.sub u.rank what → Appends a (line_if u (what_comes u t))
said u t a what some told text = subst (λ (w : Option What). Appends a (line_if u w)) (sym some) (told, text)

kept : (u : Subscribed) (row : Option (List Value)) (table : KeyTable) → row ≡ u.row → table ≡ u.table → record u { row = row; table = table } ≡ u
kept u row table r k =
    ap (λ (x : Option (List Value)). record u { row = x; table = table }) r ∙ ap (λ (x : KeyTable). record u { table = x }) k

heard : (u : Subscribed) (t : Taken) (what : What) (row : Option (List Value)) (table : KeyTable) → what_comes u t ≡ Some what
    → row ≡ row_or what u.row → table ≡ keyed_with u.keys u.table what → record u { row = row; table = table } ≡ after_line u (what_comes u t)
heard u t what row table some r k =
    ap (λ (x : Option (List Value)). record u { row = x; table = table }) r
    ∙ ap (λ (x : KeyTable). record u { row = row_or what u.row; table = x }) k
    ∙ ap (after_line u) (sym some)

err_as : {A E : Type 0} (r : Result A E) (P : Type 0) → P → OnErr r P
err_as (Ok x) P p = tt
err_as (Err e) P p = p

pub next_line-requires : goal.next_line-requires
next_line-requires c = c.self.invariant

pub invariant_of-self : goal.invariant_of-self
invariant_of-self c = λ x is. c.self.invariant x (sym c.next_line.ensures.row ∙ is)

pub invariant_of-self-in_default : goal.invariant_of-self-in_default
invariant_of-self-in_default c = λ x is. c.self.invariant x (sym c.next_line.ensures.row ∙ is)

pub invariant_of-self-in_err-append : goal.invariant_of-self-in_err-append
invariant_of-self-in_err-append c = λ x is. c.self.invariant x (sym c.next_line.ensures.row ∙ is)

pub invariant_of-self-in_err-hear : goal.invariant_of-self-in_err-hear
invariant_of-self-in_err-hear c = λ x is. c.self.invariant x (sym c.next_line.ensures.row ∙ sym c.in_err-hear.ensures.err.0 ∙ is)

pub returns-in_default-clause-line : goal.returns-in_default-clause-line
returns-in_default-clause-line c =
    let s = c.self.inside in
    let u : Subscribed = record { sub = s.sub; rank = s.rank; places = s.places; keys = s.keys; row = s.client.row; table = s.client.table } in
    let a : Appended = record { told = tells.Nothing; before = c.args.text.now.items; after = c.args.text.now.items } in
    subst (λ (x : Subscribed). Appends a (line_if x (what_comes x c.args.taken))) c.self.view_is
    (silent u c.args.taken a (sym c.in_ok-made.ensures.kind ∙ ap (option_map (what_in c.next_line.new.self.next)) c.in_default.is) (refl, refl))

pub returns-in_default-clause-ok : goal.returns-in_default-clause-ok
returns-in_default-clause-ok c =
    let s = c.self.inside in
    let u : Subscribed = record { sub = s.sub; rank = s.rank; places = s.places; keys = s.keys; row = s.client.row; table = s.client.table } in
    kept u c.next_line.new.self.row c.next_line.new.self.table c.next_line.ensures.row c.next_line.ensures.table
    ∙ ap (after_line u) (sym (sym c.in_ok-made.ensures.kind ∙ ap (option_map (what_in c.next_line.new.self.next)) c.in_default.is))
    ∙ ap (λ (x : Subscribed). after_line x (what_comes x c.args.taken)) c.self.view_is

pub returns-in_err-append-clause-err : goal.returns-in_err-append-clause-err
returns-in_err-append-clause-err c =
    let s = c.self.inside in
    let u : Subscribed = record { sub = s.sub; rank = s.rank; places = s.places; keys = s.keys; row = s.client.row; table = s.client.table } in
    err_as c.from_residual-in_err-append.result _
    (kept u c.next_line.new.self.row c.next_line.new.self.table c.next_line.ensures.row c.next_line.ensures.table ∙ c.self.view_is)

pub returns-in_err-hear-clause-err : goal.returns-in_err-hear-clause-err
returns-in_err-hear-clause-err c =
    let s = c.self.inside in
    let u : Subscribed = record { sub = s.sub; rank = s.rank; places = s.places; keys = s.keys; row = s.client.row; table = s.client.table } in
    err_as c.from_residual-in_err-hear.result _
    (kept u c.hear.new.self.row c.hear.new.self.table (c.in_err-hear.ensures.err.0 ∙ c.next_line.ensures.row)
    (c.in_err-hear.ensures.err.1 ∙ c.next_line.ensures.table) ∙ c.self.view_is)

pub returns-clause-line : goal.returns-clause-line
returns-clause-line c =
    let s = c.self.inside in
    let u : Subscribed = record { sub = s.sub; rank = s.rank; places = s.places; keys = s.keys; row = s.client.row; table = s.client.table } in
    let what = what_in c.next_line.new.self.next c.in-Some.kind in
    let a : Appended = record { told = c.told.result; before = c.args.text.now.items; after = c.append.new.text.items } in
    subst (λ (x : Subscribed). Appends a (line_if x (what_comes x c.args.taken))) c.self.view_is
    (said u c.args.taken a what (sym c.in_ok-made.ensures.kind ∙ ap (option_map (what_in c.next_line.new.self.next)) c.in-Some.is)
    (c.told.ensures c.next_line.new.self.next)
    (c.in_ok-append.ensures ∙ ap (λ (r : Option (List Value)). c.args.text.now.items ++ tells_text r s.sub s.rank what) c.next_line.ensures.row))

pub returns-clause-ok : goal.returns-clause-ok
returns-clause-ok c =
    let s = c.self.inside in
    let u : Subscribed = record { sub = s.sub; rank = s.rank; places = s.places; keys = s.keys; row = s.client.row; table = s.client.table } in
    let what = what_in c.next_line.new.self.next c.in-Some.kind in
    heard u c.args.taken what c.hear.new.self.row c.hear.new.self.table
    (sym c.in_ok-made.ensures.kind ∙ ap (option_map (what_in c.next_line.new.self.next)) c.in-Some.is)
    (c.in_ok-hear.ensures.row ∙ ap (row_or what) c.next_line.ensures.row)
    (c.in_ok-hear.ensures.table ∙ ap (λ (x : KeyTable). keyed_with s.keys x what) c.next_line.ensures.table)
    ∙ ap (λ (x : Subscribed). after_line x (what_comes x c.args.taken)) c.self.view_is

pub invariant_of-self-2 : goal.invariant_of-self-2
invariant_of-self-2 c = λ x is.
    let s = c.self.inside in
    let u : Subscribed = record { sub = s.sub; rank = s.rank; places = s.places; keys = s.keys; row = s.client.row; table = s.client.table } in
    let what = what_in c.next_line.new.self.next c.in-Some.kind in
    heard_length u c.args.taken what c.self.invariant (sym c.in_ok-made.ensures.kind ∙ ap (option_map (what_in c.next_line.new.self.next)) c.in-Some.is) x
    (ap (row_or what) (sym c.next_line.ensures.row) ∙ sym c.in_ok-hear.ensures.row ∙ is)
