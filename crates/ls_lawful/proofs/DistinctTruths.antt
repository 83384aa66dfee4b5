-- What came to a client of mode DISTINCT: rows of the snapshot, its end, and lines that never go back.
use Rattle.std.proofs.Common.{◌≡◌, ◌⊎◌, ℕ, ◌+◌, ◌-◌, ◌<◌, ◌≤◌, List, [], ◌∷◌, ◌++◌, length, refl, sym, ◌∙◌, ap, arith}
use Rattle.std.proofs.Common.{subst, Bool, true, false, Option, Some, None, slice_get, inl, inr}
use Rattle.std.specs.List.{Contains}
use Rattle.ls_value.specs.declared.row.Value.{Value}
use Rattle.ls_value.specs.Values.{projected}
use Rattle.ls_event.specs.declared.event.Entry.{Entry}
use Rattle.ls_event.specs.declared.event.Mode.{Mode}
use Rattle.ls_event.specs.Shapes.{Shape}
use Rattle.ls_event.specs.Slots.{Plan, Slot}
use Rattle.ls_event.specs.Updates.{updates_between, recent_rows}
use Rattle.ls_mirror.specs.Client.{What, Row, End}
use Rattle.ls_record.specs.Came.{Came}
use Rattle.ls_record.specs.Cutting.{Wanted}
use Rattle.ls_lawful.proofs.DistinctLaws.{opening, LinesOf, get_dropped}
use Rattle.ls_lawful.specs.DistinctMode.{snapshot_rows, Stays, SnapshotTells, DistinctSays, IsDistinctLine}
use Rattle.ls_lawful.specs.DistinctMode.{LaterLines, LawfulDistinct, LeavesOut}
use Rattle.ls_value.specs.Each.{Each}
use Rattle.ls_lawful.specs.Lawful.{LawfulOf, LawfulSlot}
use Rattle.ls_lawful.specs.Truths.{HadUpdate, HadRecent, IsTrueOf}
use Rattle.ls_value.proofs.Each.{each_append}
use Rattle.ls_record.proofs.Each.{each_contains, each_within}
use Rattle.ls_lawful.proofs.Updates.{Reached, reached}
use Rattle.ls_event.specs.declared.event.Mode.TheVariants as mode

-- a row of the snapshot, and its end
pub record IsSnapshotRow (places : List ℕ) (base : ℕ) (h : List Entry) (c : Came) : Type 0 where
  pub stays : Stays base h c
  pub own : List Value
  pub behind : ℕ
  pub is : slice_get (recent_rows h base) behind ≡ Some own
  pub says : c.what ≡ Row (projected own places)

pub record IsEnd (base : ℕ) (h : List Entry) (c : Came) : Type 0 where
  pub stays : Stays base h c
  pub says : c.what ≡ End

-- each line is one of these
abbrev pub IsLine : List ℕ → Plan → List Entry → Came → Type 0
IsLine places p h c = IsSnapshotRow places p.base h c ⊎ (IsEnd p.base h c ⊎ IsDistinctLine places p.size h c)

snap_each : (places : List ℕ) (p : Plan) (h : List Entry) (asked : ℕ) (cs : List Came)
    → SnapshotTells (opening places h p.base (snapshot_rows h p.base asked)) cs → Each (IsLine places p h) cs
snap_each places p h asked [] l = tt
snap_each places p h asked (c ∷ cs) (r, at, what, stays, l) = (
  inl (record {
    stays = stays;
    own = r;
    behind = length (recent_rows h p.base) - asked + length cs;
    is = sym (get_dropped (length (recent_rows h p.base) - asked) (length cs) (recent_rows h p.base)) ∙ at;
    says = what;
  }),
  snap_each places p h asked cs l,
)

later_each : (places : List ℕ) (p : Plan) (h : List Entry) (cursor : ℕ) (cs : List Came) → LaterLines places p h cursor cs → Each (IsLine places p h) cs
later_each places p h cursor [] l = tt
later_each places p h cursor (c ∷ cs) l = (inr (inr l.1), later_each places p h c.before cs l.2)

lines_each : (places : List ℕ) (p : Plan) (h : List Entry) (o : Option ℕ) (cursor owed : ℕ) (b : Bool) (cs : List Came) → LinesOf places p h o cursor owed b cs
    → Each (IsLine places p h) cs
lines_each places p h None cursor owed true cs l = absurd l
lines_each places p h None cursor owed false cs l = later_each places p h cursor cs l.1
lines_each places p h (Some asked) cursor owed true cs l = snap_each places p h asked cs l.lines
lines_each places p h (Some asked) cursor owed false cs l =
    subst (λ (xs : List Came). Each (IsLine places p h) xs) (sym l.1.are)
    (each_append (IsLine places p h) l.1.later (l.1.end ∷ l.1.sooner) (later_each places p h cursor l.1.later l.1.lines)
    (inr (inl (record { stays = l.1.ends.stays; says = l.1.ends.says })), snap_each places p h asked l.1.sooner l.1.ends.lines))

pub distinct_each : (h : List Entry) (w : Wanted) (s : Slot) (cs : List Came) → LawfulDistinct h w s cs → Each (IsLine w.places s.plan h) cs
distinct_each h w s cs l = lines_each w.places s.plan h w.snapshot s.cursor s.owed s.ends cs l.lines

-- each line leads on from the cursor of the one before it
abbrev Leads : ℕ → List Came → Type 0
Leads cursor [] = Unit {0}
Leads cursor (c ∷ cs) = (c.upto ≤ cursor) × (c.before ≤ c.upto) × Leads c.before cs

snap_leads : (places : List ℕ) (h : List Entry) (base cursor : ℕ) (rows : List (List Value)) (cs : List Came) → base ≤ cursor
    → SnapshotTells (opening places h base rows) cs → Leads cursor cs
snap_leads places h base cursor rows [] low l = tt
snap_leads places h base cursor rows (c ∷ cs) low (r, at, what, stays, l) =
    (omega (arith, stays.upto, low), omega (arith, stays.upto, stays.before), snap_leads places h base c.before rows cs (omega (arith, stays.before)) l)

later_lead : (places : List ℕ) (p : Plan) (h : List Entry) (cursor : ℕ) (cs rest : List Came) → Leads p.base rest → LaterLines places p h cursor cs
    → Leads cursor (cs ++ rest)
later_lead places p h cursor [] rest more l = subst (λ (n : ℕ). Leads n rest) (sym l) more
later_lead places p h cursor (c ∷ cs) rest more l =
    let low : c.before < c.upto = l.1.rises in
    (omega (arith, l.0), omega (arith, low), later_lead places p h c.before cs rest more l.2)

no_more : (xs : List Came) → xs ++ [] ≡ xs
no_more [] = refl
no_more (x ∷ xs) = ap (λ ys. x ∷ ys) (no_more xs)

lines_lead : (places : List ℕ) (p : Plan) (h : List Entry) (o : Option ℕ) (cursor owed : ℕ) (b : Bool) (cs : List Came) → LinesOf places p h o cursor owed b cs
    → Leads cursor cs
lines_lead places p h None cursor owed true cs l = absurd l
lines_lead places p h None cursor owed false cs l = subst (Leads cursor) (no_more cs) (later_lead places p h cursor cs [] tt l.1)
lines_lead places p h (Some asked) cursor owed true cs l = snap_leads places h p.base cursor (snapshot_rows h p.base asked) cs (omega (arith, l.stays)) l.lines
lines_lead places p h (Some asked) cursor owed false cs l =
    subst (Leads cursor) (sym l.1.are)
    (later_lead places p h cursor l.1.later (l.1.end ∷ l.1.sooner) (
      omega (arith, l.1.ends.stays.upto),
      omega (arith, l.1.ends.stays.upto, l.1.ends.stays.before),
      snap_leads places h p.base l.1.end.before
          (snapshot_rows h p.base asked) l.1.sooner (omega (arith, l.1.ends.stays.before)) l.1.ends.lines,
    )
    l.1.lines)

leads_below : (cursor : ℕ) (between older : List Came) (early : Came) → Leads cursor (between ++ early ∷ older) → early.upto ≤ cursor
leads_below cursor [] older early l = l.0
leads_below cursor (c ∷ between) older early l = omega (arith, l.0, l.1, leads_below c.before between older early l.2)

leads_rise : (cursor : ℕ) (newer between older : List Came) (late early : Came) → Leads cursor (newer ++ late ∷ between ++ early ∷ older)
    → (early.upto ≤ late.before) × (late.before ≤ late.upto)
leads_rise cursor [] between older late early l = (leads_below late.before between older early l.2, l.1)
leads_rise cursor (c ∷ newer) between older late early l = leads_rise c.before newer between older late early l.2

-- what a row of a line is
had_of : (places : List ℕ) (p : Plan) (h : List Entry) (c : Came) (r : List Value) → IsLine places p h c → c.what ≡ Row r
    → HadUpdate h places c.upto r ⊎ HadRecent h places c.upto r
had_of places p h c r (inl l) is =
    let e : Row r ≡ Row (projected l.own places) = sym is ∙ l.says in
    inr (record {
      within = omega (arith, l.stays.upto, l.stays.reached, l.stays.within);
      own = l.own;
      behind = l.behind;
      is = ap (λ n. slice_get (recent_rows h n) l.behind) l.stays.upto ∙ l.is;
      row = cc;
    })
had_of places p h c r (inr (inl l)) is = absurd (let e : Row r ≡ End = sym is ∙ l.says in cc)
had_of places p h c r (inr (inr l)) is = by_says (subst (λ (what : What). DistinctSays places p.size h c what) is l.says)
  where
    by_says : DistinctSays places p.size h c (Row r) → HadUpdate h places c.upto r ⊎ HadRecent h places c.upto r
    by_says (u, first, number, row, none) =
        let low : c.before < c.upto = l.rises in
        let at : Reached h c.before c.at (length (updates_between h c.before c.at) - p.size) u
        = reached h c.before c.at (length (updates_between h c.before c.at) - p.size) u (omega (arith, low, l.reached)) l.within first in
        inl (record {
          within = omega (arith, l.reached, l.within);
          update = u;
          is = subst (λ (n : ℕ). updates_between h (n - 1) n ≡ u ∷ []) number at.at;
          row =
              row;
        })

pub true_distinct : (p : Shape) (h : List Entry) (w : Wanted) (s : Slot) (cs : List Came) → LawfulDistinct h w s cs → IsTrueOf mode.Distinct p h w.places cs
true_distinct p h w s cs l =
    record {
      had = λ newer older c r is what. had_of w.places s.plan h c r (each_within (IsLine w.places s.plan h) newer older c
          (subst (Each (IsLine w.places s.plan h)) is (distinct_each h w s cs l))) what;
      rise = λ newer between older late early is. leads_rise s.cursor newer between older late early
          (subst (Leads s.cursor) is (lines_lead w.places s.plan h w.snapshot s.cursor s.owed s.ends cs l.lines));
    }

-- a row leaves out only updates that aren't among the last n
leaves_out : (places : List ℕ) (p : Plan) (h : List Entry) (c : Came) (r : List Value) → IsLine places p h c → c.what ≡ Row r → c.before < c.upto
    → LeavesOut p.size h c
leaves_out places p h c r (inl l) is low = absurd (omega (arith, low, l.stays.before, l.stays.upto))
leaves_out places p h c r (inr (inl l)) is low = absurd (omega (arith, low, l.stays.before, l.stays.upto))
leaves_out places p h c r (inr (inr l)) is low = by_says (subst (λ (what : What). DistinctSays places p.size h c what) is l.says)
  where
    by_says : DistinctSays places p.size h c (Row r) → LeavesOut p.size h c
    by_says (u, first, number, row, none) =
        let at : Reached h c.before c.at (length (updates_between h c.before c.at) - p.size) u
        = reached h c.before c.at (length (updates_between h c.before c.at) - p.size) u (omega (arith, low, l.reached)) l.within first in
        ap (λ n. updates_between h c.before (n - 1)) (sym number) ∙ at.before

pub slot_leaves_out : (h : List Entry) (w : Wanted) (s : Slot) (cs : List Came) → LawfulSlot h w s cs → s.plan.mode ≡ mode.Distinct
    → (c : Came) (r : List Value) → Contains cs c → c.what ≡ Row r → c.before < c.upto → LeavesOut s.plan.size h c
slot_leaves_out h w s cs l distinct c r in_cs is low =
    let k : LawfulDistinct h w s cs = subst (λ (m : Mode). LawfulOf m h w s cs) distinct l in
    leaves_out w.places s.plan h c r (each_contains (IsLine w.places s.plan h) c cs (distinct_each h w s cs k) in_cs) is low
