-- Slots that join an item.
use Rattle.std.proofs.Common.{◌≡◌, ℕ, ◌-◌, ◌≤◌, List, [], length, min, refl, sym, ◌∙◌, ap, arith, subst, Bool, true}
use Rattle.std.proofs.Common.{cond, Option, Some, None, is_some, All, Result, Ok, Err, IfOk}
use Rattle.std.specs.Option.{ForSome}
use Rattle.std.proofs.lemmas.List.Elements.{All-nil, All-drop}
use Rattle.ls_value.specs.declared.row.Value.{Value}
use Rattle.ls_event.specs.declared.event.Entry.{Entry}
use Rattle.ls_event.specs.declared.event.Mode.{Mode}
use Rattle.ls_event.specs.declared.event.Mode.TheVariants as mode
use Rattle.ls_event.specs.declared.item.Kind.{Kind}
use Rattle.ls_event.specs.declared.item.Kind.TheVariants as kind
use Rattle.ls_event.specs.declared.snapshot.KeyedRow.{KeyedRow}
use Rattle.ls_event.specs.declared.snapshot.Snapshot.{Snapshot}
use Rattle.ls_event.specs.declared.snapshot.Snapshot.TheVariants as state
use Rattle.ls_event.specs.declared.limits.TheConstants.{MOST_SNAPSHOT_ROWS}
use Rattle.ls_event.specs.History.{HasFields, merged}
use Rattle.ls_event.specs.Shapes.{Shape}
use Rattle.ls_event.specs.States.{state_in, state_at}
use Rattle.ls_event.specs.Updates.{last_of, recent_rows}
use Rattle.ls_event.specs.Keyed.{keyed}
use Rattle.ls_event.specs.Slots.{Plan, fresh}
use Rattle.ls_event.specs.Joining.{plan_of, joined_in, joined, command_joined, is_mode_of}
use Rattle.ls_item.specs.States.{KeptState, IsStateOf}
use Rattle.ls_raw.specs.Raw as raw
use Rattle.ls_merge.specs.Merge as merge
use Rattle.ls_distinct.specs.Distinct as distinct
use Rattle.ls_command.specs.Command as command
use Rattle.ls_cell.specs.declared.any.AnyBuffer.{AnyBuffer}
use Rattle.ls_cell.specs.declared.any.AnyBuffer.TheVariants as any
use Rattle.ls_cell.specs.Standing.{IsSlotOf, StandsSlot}
use Rattle.ls_cell.specs.Joins.{Join, Joins, rows_owed}

-- a slot that joins has the plan, and its last number is the item's
pub joined_plan : (m : Mode) (p : Plan) (h : List Entry) (asked : Option ℕ) → (joined_in m p h asked).plan ≡ p
joined_plan mode.Merge p h asked = refl
joined_plan mode.Raw p h asked = refl
joined_plan mode.Distinct p h None = refl
joined_plan mode.Distinct p h (Some asked) = refl
joined_plan mode.Command p h None = refl
joined_plan mode.Command p h (Some asked) = refl

pub joined_last : (m : Mode) (p : Plan) (h : List Entry) (asked : Option ℕ) → (joined_in m p h asked).last ≡ p.base
joined_last mode.Merge p h asked = refl
joined_last mode.Raw p h asked = refl
joined_last mode.Distinct p h None = refl
joined_last mode.Distinct p h (Some asked) = refl
joined_last mode.Command p h None = refl
joined_last mode.Command p h (Some asked) = refl

-- what joins is a slot of the item
pub slot_joined : (j : Join) (b : AnyBuffer) (kept : ℕ) → Joins j b → IsSlotOf j.item.shape j.number kept b
slot_joined j b kept joins =
    record {
      reached = omega (arith, joins.last);
      near = omega (arith, joins.last);
      fields = joins.fields;
      admits =
          joins.admits;
    }

pub stands_joined : (j : Join) (b : AnyBuffer) (h : List Entry) → Joins j b → j.number ≡ length h
    → j.item.state ≡ state_at j.item.shape h (length h)
    → StandsSlot j.item.shape b (joined (plan_of j.item.shape h j.mode j.size) h j.asked) h
stands_joined j b h joins is at =
    record {
      buffer = joins.stands h is at;
      shape = ap (λ q. q.shape) (joined_plan j.mode (plan_of j.item.shape h j.mode j.size) h j.asked);
      within = omega (arith, joined_last j.mode (plan_of j.item.shape h j.mode j.size) h j.asked);
      near = omega (arith, joined_last j.mode (plan_of j.item.shape h j.mode j.size) h j.asked);
    }

-- in each mode but RAW the item's kind is the mode's own
pub merge_kind : (k : Kind) → is_mode_of mode.Merge k ≡ true → k ≡ kind.Merge
merge_kind kind.Merge is = refl
merge_kind kind.Distinct is = cc
merge_kind kind.Command is = cc

pub distinct_kind : (k : Kind) → is_mode_of mode.Distinct k ≡ true → k ≡ kind.Distinct
distinct_kind kind.Merge is = cc
distinct_kind kind.Distinct is = refl
distinct_kind kind.Command is = cc

pub command_kind : (k : Kind) → is_mode_of mode.Command k ≡ true → k ≡ kind.Command
command_kind kind.Merge is = cc
command_kind kind.Distinct is = cc
command_kind kind.Command is = refl

-- mode RAW
pub raw_joins : (k : KeptState) (number n : ℕ) (asked : Option ℕ) (b : raw.Raw)
    → b ≡ record { kept = []; lost = 0; cursor = number; last = number }
    → ((p : Plan) (h : List Entry) → raw.IsJoining number p h → raw.StandsRaw b (fresh p number) h)
    → Joins (record { item = k; number = number; mode = mode.Raw; size = n; asked = asked }) (any.Raw b)
raw_joins k number n asked b is stands =
    record {
      last = ap (λ x. x.last) is;
      fields = subst (All (λ u. length u.row ≡ k.shape.fields)) (sym (ap (λ x. x.kept) is))
          (All-nil (λ u. length u.row ≡ k.shape.fields));
      admits = λ e of. tt;
      stands = λ h at was. subst (λ base. raw.StandsRaw b (fresh (plan_of k.shape h mode.Raw n) base) h) at
          (stands (plan_of k.shape h mode.Raw n) h (record { mode = refl; base = sym at; within = omega (arith, at) }));
    }

-- mode MERGE
merge_row : (kd : Kind) (p : Shape) (h : List Entry) (i : ℕ) (row : List Value) → kd ≡ kind.Merge
    → state.Merge row ≡ state_in kd p h i → row ≡ merged p.fields h i
merge_row kind.Merge p h i row is at = cc
merge_row kind.Distinct p h i row is at = cc
merge_row kind.Command p h i row is at = cc

pub merge_joins : (k : KeptState) (number n : ℕ) (asked : Option ℕ) (owed : Bool) (row : List Value) (b : merge.Merge)
    → owed ≡ is_some asked → state.Merge row ≡ k.state → IsStateOf k.shape (state.Merge row) → b.last ≡ number
    → b.row ≡ row
    → ((p : Plan) (h : List Entry) → merge.IsJoining n number row p h
    → merge.StandsMerge b (fresh p (cond owed (number - 1) number)) h)
    → Joins (record { item = k; number = number; mode = mode.Merge; size = n; asked = asked }) (any.Merge b)
merge_joins k number n asked owed row b owed_is is of last same stands =
    let wide : length b.row ≡ k.shape.fields = ap length same ∙ of.1 in
    record {
      last = last;
      fields = wide;
      admits = λ e event. subst (λ m. HasFields m e) (sym wide) event.fields;
      stands = λ h at was. subst (λ base. merge.StandsMerge b
          (fresh (plan_of k.shape h mode.Merge n) (cond (is_some asked) (base - 1) base)) h) at
          (subst (λ v. merge.StandsMerge b (fresh (plan_of k.shape h mode.Merge n) (cond v (number - 1) number)) h)
          owed_is (stands (plan_of k.shape h mode.Merge n) h (record {
            mode = refl;
            fields = sym of.1;
            size = refl;
            base = sym at;
            within = omega (arith, at);
            state = merge_row k.shape.kind k.shape h (length h) row of.0 (is ∙ was)
                ∙ ap (merged k.shape.fields h) (sym at);
          })));
    }

-- mode DISTINCT
distinct_rows : (kd : Kind) (p : Shape) (h : List Entry) (i : ℕ) (rows : List (List Value)) → kd ≡ kind.Distinct
    → state.Distinct rows ≡ state_in kd p h i → rows ≡ recent_rows h i
distinct_rows kind.Merge p h i rows is at = cc
distinct_rows kind.Distinct p h i rows is at = cc
distinct_rows kind.Command p h i rows is at = cc

-- a snapshot of an item of kind DISTINCT has no more rows than are kept
pub record IsRecent (first : Option Snapshot) : Type 0 where
  pub kind : distinct.IsOfDistinct first
  pub few : length (distinct.distinct_rows first) ≤ MOST_SNAPSHOT_ROWS

pub recent_first : (p : Shape) (first : Option Snapshot) → p.kind ≡ kind.Distinct → ForSome first (IsStateOf p)
    → IsRecent first
recent_first p None is of = record { kind = tt; few = omega arith }
recent_first p (Some (state.Merge row)) is of = absurd (other (of (state.Merge row) refl).0)
  where
    other : p.kind ≡ kind.Merge → ⊥
    other x = cc
recent_first p (Some (state.Distinct rows)) is of = record { kind = tt; few = (of (state.Distinct rows) refl).1.1 }
recent_first p (Some (state.Command ks)) is of = absurd (other (of (state.Command ks) refl).0)
  where
    other : p.kind ≡ kind.Command → ⊥
    other x = cc

distinct_state : (p : Shape) (s : Snapshot) (number n : ℕ) (asked : Option ℕ) (first : Option Snapshot)
    (b : distinct.Distinct) → p.kind ≡ kind.Distinct → ForSome first (IsStateOf p)
    → first ≡ cond (is_some asked) (Some s) None
    → b ≡ distinct.distinct_joining number n first (rows_owed first asked)
    → ((q : Plan) (h : List Entry) → distinct.IsJoining number n q h
    → distinct.IsSnapshotOf h first (rows_owed first asked)
    → distinct.StandsDistinct b (distinct.distinct_joined_slot q first (rows_owed first asked)) h)
    → Joins (record {
      item = record { shape = p; state = s };
      number = number;
      mode = mode.Distinct;
      size = n;
      asked =
          asked;
    }) (any.Distinct b)
distinct_state p s number n None first b is of firstly made stands =
    record {
      last = ap (λ x. x.last) made;
      fields = record {
        rows = subst (All (λ row. length row ≡ p.fields)) (sym
            (ap (λ x. x.rows) made ∙ ap (λ f. last_of (rows_owed f None) (distinct.distinct_rows f)) firstly))
            (All-nil (λ row. length row ≡ p.fields));
        kept = subst (All (λ u. length u.row ≡ p.fields)) (sym (ap (λ x. x.kept) made))
            (All-nil (λ u. length u.row ≡ p.fields));
      };
      admits = λ e event. tt;
      stands = λ h at was. subst (λ f. distinct.StandsDistinct b
          (distinct.distinct_joined_slot (plan_of p h mode.Distinct n) f (rows_owed f None)) h) firstly
          (stands (plan_of p h mode.Distinct n) h (record { mode = refl; size = refl; base = sym at; whole = at })
          (subst (λ f. distinct.IsSnapshotOf h f (rows_owed f None)) (sym firstly) refl));
    }
distinct_state p (state.Merge row) number n (Some asked) first b is of
    firstly made stands = absurd (other (of (state.Merge row) firstly).0)
  where
    other : p.kind ≡ kind.Merge → ⊥
    other x = cc
distinct_state p (state.Command ks) number n (Some asked) first b is of
    firstly made stands = absurd (other (of (state.Command ks) firstly).0)
  where
    other : p.kind ≡ kind.Command → ⊥
    other x = cc
distinct_state p (state.Distinct rows) number n (Some asked) first b is of firstly made stands =
    record {
      last = ap (λ x. x.last) made;
      fields = record {
        rows = subst (All (λ row. length row ≡ p.fields)) (sym
            (ap (λ x. x.rows) made ∙ ap (λ f. last_of (rows_owed f (Some asked)) (distinct.distinct_rows f)) firstly))
            (All-drop (λ row. length row ≡ p.fields) (length rows - min asked (length rows)) rows
            (of (state.Distinct rows) firstly).1.0);
        kept = subst (All (λ u. length u.row ≡ p.fields)) (sym (ap (λ x. x.kept) made))
            (All-nil (λ u. length u.row ≡ p.fields));
      };
      admits = λ e event. tt;
      stands = λ h at was.
          let recent : rows ≡ recent_rows h (length h) = distinct_rows p.kind p h (length h) rows is was in
          subst (λ r. distinct.StandsDistinct b (distinct.distinct_joined_slot (plan_of p h mode.Distinct n)
          (Some (state.Distinct rows)) (min asked (length r))) h) recent
          (subst (λ f. distinct.StandsDistinct b (distinct.distinct_joined_slot (plan_of p h mode.Distinct n) f
          (rows_owed f (Some asked))) h) firstly
          (stands (plan_of p h mode.Distinct n) h (record { mode = refl; size = refl; base = sym at; whole = at })
          (subst (λ f. distinct.IsSnapshotOf h f (rows_owed f (Some asked))) (sym firstly)
          (recent, subst (λ r. min asked (length rows) ≤ length r) recent (omega arith)))));
    }

pub distinct_joins : (k : KeptState) (number n : ℕ) (asked : Option ℕ) (first : Option Snapshot) (many : ℕ)
    (b : distinct.Distinct) → k.shape.kind ≡ kind.Distinct → ForSome first (IsStateOf k.shape)
    → first ≡ cond (is_some asked) (Some k.state) None
    → many ≡ rows_owed first asked → b ≡ distinct.distinct_joining number n first many
    → ((q : Plan) (h : List Entry) → distinct.IsJoining number n q h → distinct.IsSnapshotOf h first many
    → distinct.StandsDistinct b (distinct.distinct_joined_slot q first many) h)
    → Joins (record { item = k; number = number; mode = mode.Distinct; size = n; asked = asked }) (any.Distinct b)
distinct_joins k number n asked first many b is of firstly owed_is made stands =
    distinct_state k.shape k.state number n asked first b is of
    firstly (made ∙ ap (distinct.distinct_joining number n first) owed_is)
    (subst (λ m. (q : Plan) (h : List Entry) → distinct.IsJoining number n q h → distinct.IsSnapshotOf h first m
    → distinct.StandsDistinct b (distinct.distinct_joined_slot q first m) h) owed_is stands)

-- mode COMMAND
command_keys : (kd : Kind) (p : Shape) (h : List Entry) (i : ℕ) (ks : List KeyedRow) → kd ≡ kind.Command
    → state.Command ks ≡ state_in kd p h i → ks ≡ keyed p h i
command_keys kind.Merge p h i ks is at = cc
command_keys kind.Distinct p h i ks is at = cc
command_keys kind.Command p h i ks is at = cc

-- a snapshot of an item of kind COMMAND has its keys
pub record IsKeyed (fields : ℕ) (first : Option Snapshot) : Type 0 where
  pub kind : command.IsOfCommand first
  pub wide : All (λ k. length k.row ≡ fields) (command.command_rows first)

pub keyed_first : (p : Shape) (first : Option Snapshot) → p.kind ≡ kind.Command → ForSome first (IsStateOf p)
    → IsKeyed p.fields first
keyed_first p None is of = record { kind = tt; wide = All-nil (λ k. length k.row ≡ p.fields) }
keyed_first p (Some (state.Merge row)) is of = absurd (other (of (state.Merge row) refl).0)
  where
    other : p.kind ≡ kind.Merge → ⊥
    other x = cc
keyed_first p (Some (state.Distinct rows)) is of = absurd (other (of (state.Distinct rows) refl).0)
  where
    other : p.kind ≡ kind.Distinct → ⊥
    other x = cc
keyed_first p (Some (state.Command ks)) is of = record { kind = tt; wide = (of (state.Command ks) refl).1.0 }

command_snapshot : (p : Shape) (s : Snapshot) (n : ℕ) (asked : Option ℕ) (first : Option Snapshot) (h : List Entry)
    → p.kind ≡ kind.Command → s ≡ state_at p h (length h) → first ≡ cond (is_some asked) (Some s) None
    → command.IsSnapshotOf (plan_of p h mode.Command n) h first asked
command_snapshot p s n None first h is at firstly =
    subst (λ f. command.IsSnapshotOf (plan_of p h mode.Command n) h f None) (sym firstly) tt
command_snapshot p s n (Some asked) first h is at firstly = subst
    (λ f. command.IsSnapshotOf (plan_of p h mode.Command n) h f (Some asked)) (sym (firstly ∙ ap (λ x. Some x) at))
    (keys_are p.kind is)
  where
    keys_are : (kd : Kind) → kd ≡ kind.Command → command.command_rows (Some (state_in kd p h (length h)))
        ≡ keyed p h (length h)
    keys_are kind.Merge x = cc
    keys_are kind.Distinct x = cc
    keys_are kind.Command x = refl

pub command_joins : (k : KeptState) (number n key : ℕ) (asked : Option ℕ) (first : Option Snapshot) (b : command.Command)
    → k.shape.kind ≡ kind.Command → key ≡ k.shape.key → ForSome first (IsStateOf k.shape)
    → first ≡ cond (is_some asked) (Some k.state) None
    → b ≡ command.command_joining number key first
    → ((m : ℕ) → All (λ r. length r.row ≡ m) (command.command_rows first) → command.AreKeysWide m b)
    → ((q : Plan) (h : List Entry) (asked : Option ℕ) → command.IsJoining number key q h
    → command.IsSnapshotOf q h first asked → command.StandsCommand b (command_joined q h asked) h)
    → Joins (record { item = k; number = number; mode = mode.Command; size = n; asked = asked }) (any.Command b)
command_joins k number n key asked first b is named of firstly made wide stands =
    record {
      last = ap (λ x. x.last) made;
      fields = wide k.shape.fields (keyed_first k.shape first is of).wide;
      admits = λ e event. subst (λ place. command.NamesKey place e) (sym (ap (λ x. x.key) made ∙ named)) (event.key is);
      stands = λ h at was. stands (plan_of k.shape h mode.Command n) h asked
          (record { mode = refl; kind = is; key = sym named; base = sym at; within = omega (arith, at) })
          (command_snapshot k.shape k.state n asked first h is was firstly);
    }

-- what holds of an answer that isn't a refusal
pub ok_with : {A E : Type 0} (P Q : A → Type 0) (r : Result A E) → ((a : A) → P a → Q a) → IfOk r P → IfOk r Q
ok_with P Q (Ok a) step is = step a is
ok_with P Q (Err e) step is = tt
