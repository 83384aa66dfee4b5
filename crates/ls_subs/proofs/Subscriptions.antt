-- What is kept of a client says what a cut makes, and stands for the slot and the client after it.
use Rattle.std.proofs.Common.{◌≡◌, ℕ, List, ◌∷◌, length, refl, sym, ◌∙◌, ap, subst, cond, Bool, true, false, Option, Some, None, is_some}
use Rattle.std.specs.Option.{option_map_or}
use Rattle.ls_value.specs.Values.{applied, nulls, projected, projected_cells}
use Rattle.ls_mirror.specs.declared.command.KeyPlaces.{KeyPlaces}
use Rattle.ls_value.specs.declared.row.Value.{Value}
use Rattle.ls_value.specs.declared.row.Cell.{Cell}
use Rattle.ls_event.specs.declared.event.Mode.{Mode}
use Rattle.ls_event.specs.declared.event.Mode.TheVariants as mode
use Rattle.ls_event.specs.declared.event.Taken.{Taken}
use Rattle.ls_event.specs.declared.event.Taken.TheVariants as taken
use Rattle.ls_event.specs.Joining.{is_mode_of}
use Rattle.ls_event.specs.Slots.{Plan, Slot, passed}
use Rattle.ls_update.specs.Reading.{HasFields}
use Rattle.ls_record.proofs.Short.{row_is_wide}
use Rattle.ls_mirror.specs.Client.{What, Row, Lost, Cleared, End, row_or}
use Rattle.ls_record.specs.Came.{Came, came_by, whats}
use Rattle.ls_record.specs.Lines.{last_row}
use Rattle.ls_record.specs.Tables.{what_of_key, table_at, projected_row}
use Rattle.ls_record.specs.Cutting.{Wanted, client_row, what_of_change, schema_of, what_of_cut}
use Rattle.ls_record.specs.Records.{keys_in}
use Rattle.ls_subs.specs.Subscribed.{Subscribed}
use Rattle.ls_subs.specs.Subscription.{row_of, what_by_key, what_comes, after_what, HoldsKeys, HasStarted, StandsSubscribed}
use Rattle.ls_subs.specs.Standing.{Suits}
use Rattle.ls_subs.proofs.KeyRows.{holds_more}

-- the client's row
row_is : (u : Subscribed) (w : Wanted) (s : Slot) (cs : List Came) → StandsSubscribed u w s cs → row_of u ≡ client_row (length w.places) cs
row_is u w s cs su = ap (λ o. option_map_or (λ r. r) o (nulls (length u.places))) su.row
    ∙ ap (λ ps. option_map_or (λ r. r) (last_row cs) (nulls (length ps))) su.places

started_is : (m : Mode) (started : Bool) (row : Option (List Value)) → m ≡ mode.Merge → HasStarted m started row → started ≡ is_some row
started_is m started row is g = subst (λ (x : Mode). HasStarted x started row) is g

change_is : (u : Subscribed) (w : Wanted) (s : Slot) (cs : List Came) (cells : List Cell) → s.plan.mode ≡ mode.Merge → StandsSubscribed u w s cs
    → what_of_change (is_some u.row) (row_of u) (applied (row_of u) (projected_cells cells u.places))
    ≡ what_of_change s.has_started (client_row (length w.places) cs) (applied (client_row (length w.places) cs) (projected_cells cells w.places))
change_is u w s cs cells is su =
    ap (λ g. what_of_change g (row_of u) (applied (row_of u) (projected_cells cells u.places)))
    (sym (started_is s.plan.mode s.has_started u.row is su.has_started))
    ∙ ap (λ r. what_of_change s.has_started r (applied r (projected_cells cells u.places))) (row_is u w s cs su)
    ∙ ap (λ ps. what_of_change s.has_started (client_row (length w.places) cs) (applied (client_row (length w.places) cs) (projected_cells cells ps))) su.places

key_is : (u : Subscribed) (w : Wanted) (s : Slot) (cs : List Came) (key : List ℕ) (row : Option (List Value)) → s.plan.mode ≡ mode.Command
    → StandsSubscribed u w s cs
    → what_by_key u.places u.keys u.table key row ≡ what_of_key (schema_of w s.plan) (length w.places) key
    (table_at (schema_of w s.plan) key (whats cs)) (projected_row w.places row)
key_is u w s cs key row is su =
    let at : KeyPlaces = schema_of w s.plan in
    let keyed : u.keys ≡ Some at = su.keys ∙ ap (λ m. keys_in m at) is in
    let holds : HoldsKeys (Some at) u.table (whats cs) = subst (λ (o : Option KeyPlaces). HoldsKeys o u.table (whats cs)) keyed su.table in
    ap (λ o. what_by_key u.places o u.table key row) keyed
    ∙ ap (λ o. what_of_key at (length u.places) key o (projected_row u.places row)) (holds key)
    ∙ ap (λ ps. what_of_key at (length ps) key (table_at at key (whats cs)) (projected_row ps row)) su.places

-- what comes is what the cut makes of the client
pub comes_is : (u : Subscribed) (w : Wanted) (s : Slot) (cs : List Came) (t : Taken) → Suits s.plan.mode t → StandsSubscribed u w s cs
    → what_comes u t ≡ what_of_cut w s cs t
comes_is u w s cs (taken.Row row upto) suits su = ap (λ ps. Some (Row (projected row ps))) su.places
comes_is u w s cs (taken.Lost count upto) suits su = refl
comes_is u w s cs (taken.Change cells upto) suits su = change_is u w s cs cells suits su
comes_is u w s cs (taken.Key key row upto) suits su = key_is u w s cs key row suits su
comes_is u w s cs (taken.Cleared upto) suits su = refl
comes_is u w s cs taken.EndOfSnapshot suits su = refl

-- a cut leaves the plan
pub plan_stays : (s : Slot) (t : Taken) → (passed s t).plan ≡ s.plan
plan_stays s (taken.Row row upto) = refl
plan_stays s (taken.Lost count upto) = refl
plan_stays s (taken.Change cells upto) = refl
plan_stays s (taken.Key key row upto) = refl
plan_stays s (taken.Cleared upto) = refl
plan_stays s taken.EndOfSnapshot = refl

pub allowed_stays : (s : Slot) (t : Taken) → is_mode_of s.plan.mode s.plan.shape.kind ≡ true
    → is_mode_of (passed s t).plan.mode (passed s t).plan.shape.kind ≡ true
allowed_stays s t allowed = subst (λ (p : Plan). is_mode_of p.mode p.shape.kind ≡ true) (sym (plan_stays s t)) allowed

-- in mode MERGE a change gives a first line
started_stays : (m : Mode) (s : Slot) (t : Taken) (row : Option (List Value)) → (m ≡ mode.Merge → (passed s t).has_started ≡ is_some row)
    → HasStarted m (passed s t).has_started row
started_stays mode.Merge s t row f = f refl
started_stays mode.Raw s t row f = tt
started_stays mode.Distinct s t row f = tt
started_stays mode.Command s t row f = tt

-- a change that makes no line finds that the slot has started
silent_started : (started : Bool) (old new : List Value) → what_of_change started old new ≡ None → started ≡ true
silent_started true old new e = refl
silent_started false old new e = absurd (let x : Some (Row new) ≡ None = e in cc)

started_silent : (u : Subscribed) (w : Wanted) (s : Slot) (cs : List Came) (t : Taken) → Suits s.plan.mode t → StandsSubscribed u w s cs
    → what_of_cut w s cs t ≡ None
    → s.plan.mode ≡ mode.Merge → (passed s t).has_started ≡ is_some u.row
started_silent u w s cs (taken.Row row upto) suits su none is = absurd (suits is)
started_silent u w s cs (taken.Lost count upto) suits su none is = started_is s.plan.mode s.has_started u.row is su.has_started
started_silent u w s cs (taken.Change cells upto) suits su none is =
    sym (silent_started s.has_started (client_row (length w.places) cs) (applied (client_row (length w.places) cs) (projected_cells cells w.places)) none)
    ∙ started_is s.plan.mode s.has_started u.row is su.has_started
started_silent u w s cs (taken.Key key row upto) suits su none is = started_is s.plan.mode s.has_started u.row is su.has_started
started_silent u w s cs (taken.Cleared upto) suits su none is = started_is s.plan.mode s.has_started u.row is su.has_started
started_silent u w s cs taken.EndOfSnapshot suits su none is = started_is s.plan.mode s.has_started u.row is su.has_started

-- what is kept stands for a slot after a cut, where the client's row and rows by key are so
passed_stands : (v : Subscribed) (w : Wanted) (s : Slot) (cs : List Came) (t : Taken) → v.places ≡ w.places
    → v.keys ≡ keys_in s.plan.mode (schema_of w s.plan)
    → v.row ≡ last_row cs → HasFields (length w.places) (last_row cs)
    → (s.plan.mode ≡ mode.Merge → (passed s t).has_started ≡ is_some v.row) → HoldsKeys v.keys v.table (whats cs)
    → StandsSubscribed v w (passed s t) cs
passed_stands v w s cs t places keys row wide started table =
    record {
      places = places;
      keys = keys ∙ ap (λ p. keys_in p.mode (schema_of w p)) (sym (plan_stays s t));
      row = row;
      wide = wide;
      has_started = subst (λ (p : Plan). HasStarted p.mode (passed s t).has_started v.row) (sym (plan_stays s t)) (started_stays s.plan.mode s t v.row started);
      table = table;
    }

-- after a cut that makes no line
pub stands_silent : (u : Subscribed) (w : Wanted) (s : Slot) (cs : List Came) (t : Taken) → Suits s.plan.mode t → StandsSubscribed u w s cs
    → what_of_cut w s cs t ≡ None
    → StandsSubscribed u w (passed s t) cs
stands_silent u w s cs t suits su none = passed_stands u w s cs t su.places su.keys su.row su.wide (started_silent u w s cs t suits su none) su.table

-- a change that makes a line gives a row
row_comes : (v : Bool) (new : List Value) (what : What) (o : Option (List Value)) → cond v None (Some (Row new)) ≡ Some what → is_some (row_or what o) ≡ true
row_comes true new what o e = absurd (let x : None ≡ Some what = e in cc)
row_comes false new what o e =
    let same : Row new ≡ what = cc in
    subst (λ (x : What). is_some (row_or x o) ≡ true) same refl

started_after : (u : Subscribed) (w : Wanted) (s : Slot) (cs : List Came) (t : Taken) (what : What) → Suits s.plan.mode t → StandsSubscribed u w s cs
    → what_of_cut w s cs t ≡ Some what
    → s.plan.mode ≡ mode.Merge → (passed s t).has_started ≡ is_some (row_or what u.row)
started_after u w s cs (taken.Row row upto) what suits su some is = absurd (suits is)
started_after u w s cs (taken.Lost count upto) what suits su some is = started_is s.plan.mode s.has_started u.row is su.has_started
    ∙ ap (λ x. is_some (row_or x u.row)) (let same : Lost count ≡ what = cc in same)
started_after u w s cs (taken.Change cells upto) what suits su some is = sym (row_comes _ _ what u.row some)
started_after u w s cs (taken.Key key row upto) what suits su some is = absurd (let x : mode.Command ≡ mode.Merge = sym suits ∙ is in cc)
started_after u w s cs (taken.Cleared upto) what suits su some is = started_is s.plan.mode s.has_started u.row is su.has_started
    ∙ ap (λ x. is_some (row_or x u.row)) (let same : Cleared ≡ what = cc in same)
started_after u w s cs taken.EndOfSnapshot what suits su some is = started_is s.plan.mode s.has_started u.row is su.has_started
    ∙ ap (λ x. is_some (row_or x u.row)) (let same : End ≡ what = cc in same)

-- after a cut that makes a line
pub stands_line : (u : Subscribed) (w : Wanted) (s : Slot) (cs : List Came) (t : Taken) (what : What) → Suits s.plan.mode t → StandsSubscribed u w s cs
    → what_of_cut w s cs t ≡ Some what
    → StandsSubscribed (after_what u what) w (passed s t) (came_by s t what ∷ cs)
stands_line u w s cs t what suits su some =
    passed_stands (after_what u what) w s (came_by s t what ∷ cs) t su.places su.keys
    (ap (row_or what) su.row)
    (row_is_wide w s cs t what su.wide some)
    (started_after u w s cs t what suits su some)
    (holds_more u.keys u.table (whats cs) what su.table)
