-- What is true of a slot of mode DISTINCT stays true.
use Rattle.std.proofs.Common.{◌≡◌, ◌⊎◌, ℕ, suc, zero, ◌+◌, ◌-◌, ◌<◌, ◌≤◌, List, [], ◌∷◌, ◌++◌, length, map, drop}
use Rattle.std.proofs.Common.{refl, sym, ◌∙◌, ap, arith, Bool, true, false, cond, subst, Option, Some, None, min}
use Rattle.std.proofs.Common.{nat_lt, option_map, slice_get, unwrap_or, inl, inr}
use Rattle.std.proofs.lemmas.List.{length-append}
use Rattle.std.proofs.lemmas.Bool.{ltb-true, ltb-false}
use Rattle.ls_value.specs.declared.row.Value.{Value}
use Rattle.ls_value.specs.Values.{projected}
use Rattle.ls_event.specs.declared.event.Entry.{Entry}
use Rattle.ls_event.specs.declared.event.Taken.{Taken}
use Rattle.ls_event.specs.declared.updates.OwnRow.{OwnRow}
use Rattle.ls_event.specs.Slots.{Plan, Slot, enqueued}
use Rattle.ls_event.specs.Updates.{last_of, updates_between, clear_from, last_clear, clear_or, recent_rows}
use Rattle.ls_event.specs.OwnCuts.{first_of_last, row_taken, snapshot_cut, distinct_cut_by, distinct_cut}
use Rattle.ls_event.proofs.Cuts.{between-append}
use Rattle.ls_event.proofs.UpdatesBetween.{ClearIn, last_clear_is, updates_between-append, last_of_length}
use Rattle.ls_mirror.specs.Client.{What, Row, Lost, Cleared, End}
use Rattle.ls_record.specs.Came.{Came}
use Rattle.ls_event.specs.Joining.{distinct_joined}
use Rattle.ls_record.specs.Cutting.{Wanted, what_of_cut}
use Rattle.ls_lawful.specs.DistinctMode.{snapshot_rows, Stays, Opening, SnapshotTells, DistinctSays, IsDistinctLine}
use Rattle.ls_lawful.specs.DistinctMode.{LaterLines, SnapGoing, SnapDone, DistinctLines, LawfulDistinct}
use Rattle.ls_lawful.proofs.Keeps.{Keeps, AfterCut, by_cut}
use Rattle.ls_record.proofs.Cuts.{no_cut}
use Rattle.ls_lawful.proofs.Updates.{Reached, reached}
use Rattle.ls_event.specs.declared.event.Taken.TheVariants as taken

-- later entries
pub last_clear-append : (h more : List Entry) (p l : ℕ) → l ≤ length h → last_clear (h ++ more) p l ≡ last_clear h p l
last_clear-append h more p l within = ap (clear_from None p) (between-append h more p l within)

recent-append : (h more : List Entry) (i : ℕ) → i ≤ length h → recent_rows (h ++ more) i ≡ recent_rows h i
recent-append h more i within =
    ap (λ o. last_of 32 (map (λ (u : OwnRow). u.row) (updates_between (h ++ more) (unwrap_or o 0) i))) (last_clear-append h more 0 i within)
    ∙ ap (λ us. last_of 32 (map (λ (u : OwnRow). u.row) us)) (updates_between-append h more (clear_or h 0 i) i within)

-- the lines of a slot, by the numbers that they change
abbrev pub opening : List ℕ → List Entry → ℕ → List (List Value) → Opening
opening places h base rows = record { places = places; history = h; base = base; rows = rows }

abbrev pub LinesOf : List ℕ → Plan → List Entry → Option ℕ → ℕ → ℕ → Bool → List Came → Type 0
LinesOf places p h o cursor owed b cs =
    DistinctLines h (record { places = places; snapshot = o })
    (record { plan = p; last = 0; cursor = cursor; owed = owed; ends = b; has_started = false; key_cursors = [] }) cs o b

stays_longer : (base : ℕ) (h more : List Entry) (c : Came) → Stays base h c → Stays base (h ++ more) c
stays_longer base h more c l = record { before = l.before; upto = l.upto; reached = l.reached; within = omega (arith, l.within, length-append h more) }

snap_longer : (places : List ℕ) (h more : List Entry) (base : ℕ) (rows : List (List Value)) (cs : List Came) → SnapshotTells (opening places h base rows) cs
    → SnapshotTells (opening places (h ++ more) base rows) cs
snap_longer places h more base rows [] l = tt
snap_longer places h more base rows (c ∷ cs) (r, at, what, stays, l) = (r, at, what, stays_longer base h more c stays, snap_longer places h more base rows cs l)

says_longer : (places : List ℕ) (size : ℕ) (h more : List Entry) (c : Came) (what : What) → c.at ≤ length h → DistinctSays places size h c what
    → DistinctSays places size (h ++ more) c what
says_longer places size h more c (Row r) within (u, first, number, row, none) = (
  u,
  ap (first_of_last size) (updates_between-append h more c.before c.at within) ∙ first,
  number,
  row,
  last_clear-append h more c.before c.at within ∙ none,
)
says_longer places size h more c (Lost k) within says = says
says_longer places size h more c Cleared within says = last_clear-append h more c.before c.at within ∙ says
says_longer places size h more c End within says = says

lines_longer : (places : List ℕ) (p : Plan) (h more : List Entry) (cursor : ℕ) (cs : List Came) → LaterLines places p h cursor cs
    → LaterLines places p (h ++ more) cursor cs
lines_longer places p h more cursor [] l = l
lines_longer places p h more cursor (c ∷ cs) l = (
  l.0,
  record {
    rises = l.1.rises;
    reached = l.1.reached;
    within = omega (arith, l.1.within, length-append h more);
    says =
        says_longer places p.size h more c c.what l.1.within l.1.says;
  },
  lines_longer places p h more c.before cs l.2,
)

whole_longer : (h more : List Entry) (base : ℕ) (rows : List (List Value)) (c : Came) (sooner : List Came) → c.at ≤ length h
    → (length sooner ≡ length rows) ⊎ ((n : ℕ) × (last_clear h base c.at ≡ Some n))
    → (length sooner ≡ length rows) ⊎ ((n : ℕ) × (last_clear (h ++ more) base c.at ≡ Some n))
whole_longer h more base rows c sooner within (inl e) = inl e
whole_longer h more base rows c sooner within (inr (n, e)) = inr (n, last_clear-append h more base c.at within ∙ e)

going_longer : (places : List ℕ) (p : Plan) (h more : List Entry) (rows : List (List Value)) (cursor owed : ℕ) (cs : List Came)
    → SnapGoing (opening places h p.base rows) cursor owed cs → SnapGoing (opening places (h ++ more) p.base rows) cursor owed cs
going_longer places p h more rows cursor owed cs l = record { stays = l.stays; rest = l.rest; lines = snap_longer places h more p.base rows cs l.lines }

done_longer : (places : List ℕ) (p : Plan) (h more : List Entry) (rows : List (List Value)) (cursor : ℕ) (cs : List Came)
    → SnapDone p (opening places h p.base rows) cursor cs → SnapDone p (opening places (h ++ more) p.base rows) cursor cs
done_longer places p h more rows cursor cs l =
    record {
      later = l.later;
      end = l.end;
      sooner = l.sooner;
      are = l.are;
      ends = record {
        says = l.ends.says;
        stays = stays_longer p.base h more l.end l.ends.stays;
        lines = snap_longer places h more p.base rows l.sooner l.ends.lines;
        whole = whole_longer h more p.base rows l.end l.sooner l.ends.stays.within l.ends.whole;
      };
      lines = lines_longer places p h more cursor l.later l.lines;
    }

all_longer : (places : List ℕ) (p : Plan) (h more : List Entry) (o : Option ℕ) (cursor owed : ℕ) (b : Bool) (cs : List Came) → p.base ≤ length h
    → LinesOf places p h o cursor owed b cs → LinesOf places p (h ++ more) o cursor owed b cs
all_longer places p h more None cursor owed true cs within l = l
all_longer places p h more None cursor owed false cs within l = (l.0, lines_longer places p h more cursor cs l.1)
all_longer places p h more (Some asked) cursor owed true cs within l =
    subst (λ (rows : List (List Value)). SnapGoing (opening places (h ++ more) p.base (last_of asked rows)) cursor owed cs)
    (sym (recent-append h more p.base within)) (going_longer places p h more (snapshot_rows h p.base asked) cursor owed cs l)
all_longer places p h more (Some asked) cursor owed false cs within l = (
  l.0,
  subst (λ (rows : List (List Value)). SnapDone p (opening places (h ++ more) p.base (last_of asked rows)) cursor cs) (sym (recent-append h more p.base within))
      (done_longer places p h more (snapshot_rows h p.base asked) cursor cs l.1),
)

longer : (h more : List Entry) (w : Wanted) (s : Slot) (cs : List Came) → LawfulDistinct h w s cs → LawfulDistinct (h ++ more) w s cs
longer h more w s cs l =
    record {
      some = l.some;
      begun = l.begun;
      behind = l.behind;
      within = omega (arith, l.within, length-append h more);
      lines = all_longer w.places s.plan h more w.snapshot s.cursor s.owed s.ends cs (omega (arith, l.begun, l.behind, l.within)) l.lines;
    }

enqueue : (h : List Entry) (w : Wanted) (s : Slot) (cs : List Came) → s.last < length h → LawfulDistinct h w s cs → LawfulDistinct h w (enqueued s) cs
enqueue h w s cs more l = record { some = l.some; begun = l.begun; behind = omega (arith, l.behind); within = omega (arith, more); lines = l.lines }

-- a line behind the snapshot, or where there is none
later_line : (places : List ℕ) (p : Plan) (h : List Entry) (o : Option ℕ) (cursor owed to rest : ℕ) (b : Bool) (cs : List Came) (c : Came) → b ≡ false
    → c.before ≡ cursor → c.upto ≡ to → rest ≤ owed
    → IsDistinctLine places p.size h c → LinesOf places p h o cursor owed b cs → LinesOf places p h o to rest b (c ∷ cs)
later_line places p h o cursor owed to rest true cs c e before upto less is l = absurd (let x : true ≡ false = e in cc)
later_line places p h None cursor owed to rest false cs c e before upto less is l =
    (omega (arith, l.0, less), (upto, is, subst (λ (n : ℕ). LaterLines places p h n cs) (sym before) l.1))
later_line places p h (Some asked) cursor owed to rest false cs c e before upto less is l = (
  omega (arith, l.0, less),
  record {
    later = c ∷ l.1.later;
    end = l.1.end;
    sooner = l.1.sooner;
    are = ap (λ xs. c ∷ xs) l.1.are;
    ends = l.1.ends;
    lines = (upto, is, subst (λ (n : ℕ). LaterLines places p h n l.1.later) (sym before) l.1.lines);
  },
)

-- the next row of the snapshot
pub get_dropped : {A : Type 0} (k i : ℕ) (xs : List A) → slice_get (drop k xs) i ≡ slice_get xs (k + i)
get_dropped zero i xs = ap (slice_get xs) {x = i} {y = 0 + i} (omega arith)
get_dropped (suc k) i [] = refl
get_dropped (suc k) i (x ∷ xs) = get_dropped k i xs ∙ ap (slice_get (x ∷ xs)) {x = suc (k + i)} {y = suc k + i} (omega arith)

next_row : (h : List Entry) (base asked owed many : ℕ) → many + owed ≡ length (snapshot_rows h base asked)
    → slice_get (snapshot_rows h base asked) many ≡ first_of_last owed (recent_rows h base)
next_row h base asked owed many rest =
    let long : length (snapshot_rows h base asked) ≡ min asked (length (recent_rows h base)) = last_of_length asked (recent_rows h base) in
    let e : length (recent_rows h base) - asked + many ≡ length (recent_rows h base) - owed = omega (arith, long, rest) in
    get_dropped (length (recent_rows h base) - asked) many (recent_rows h base) ∙ ap (slice_get (recent_rows h base)) e

snapshot_line : (places : List ℕ) (p : Plan) (h : List Entry) (o : Option ℕ) (cursor owed at : ℕ) (b : Bool) (cs : List Came) (r : List Value) → 0 < owed
    → cursor ≤ at → at ≤ length h → first_of_last owed (recent_rows h p.base) ≡ Some r
    → LinesOf places p h o cursor owed b cs → LinesOf places p h o p.base (owed - 1) b
    (record { what = Row (projected r places); before = cursor; upto = p.base; at = at } ∷ cs)
snapshot_line places p h None cursor owed at true cs r some reached within is l = absurd l
snapshot_line places p h None cursor owed at false cs r some reached within is l = absurd (omega (arith, some, l.0))
snapshot_line places p h (Some asked) cursor owed at false cs r some reached within is l = absurd (omega (arith, some, l.0))
snapshot_line places p h (Some asked) cursor owed at true cs r some reached within is l =
    record {
      stays = refl;
      rest = omega (arith, l.rest, some);
      lines = (
        r,
        next_row h p.base asked owed (length cs) l.rest ∙ is,
        refl,
        record { before = l.stays; upto = refl; reached = omega (arith, l.stays, reached); within = within },
        l.lines,
      );
    }

-- the snapshot's end
end_line : (places : List ℕ) (p : Plan) (h : List Entry) (o : Option ℕ) (cursor owed at : ℕ) (b : Bool) (cs : List Came) → b ≡ true → cursor ≤ at
    → at ≤ length h → (owed ≡ 0) ⊎ ((n : ℕ) × (last_clear h cursor at ≡ Some n))
    → LinesOf places p h o cursor owed b cs → LinesOf places p h o cursor 0 false (record { what = End; before = cursor; upto = cursor; at = at } ∷ cs)
end_line places p h o cursor owed at false cs e reached within none l = absurd (let x : false ≡ true = e in cc)
end_line places p h None cursor owed at true cs e reached within none l = absurd l
end_line places p h (Some asked) cursor owed at true cs e reached within none l = (
  refl,
  record {
    later = [];
    end = record { what = End; before = cursor; upto = cursor; at = at };
    sooner = cs;
    are = refl;
    ends = record {
      says = refl;
      stays = record { before = l.stays; upto = l.stays; reached = omega (arith, l.stays, reached); within = within };
      lines = l.lines;
      whole = by_rest none;
    };
    lines = l.stays;
  },
)
  where
    by_rest : (owed ≡ 0) ⊎ ((n : ℕ) × (last_clear h cursor at ≡ Some n)) → (length cs ≡ length (snapshot_rows h p.base asked))
        ⊎ ((n : ℕ) × (last_clear h p.base at ≡ Some n))
    by_rest (inl z) = inl (omega (arith, z, l.rest))
    by_rest (inr (n, c)) = inr (n, ap (λ x. last_clear h x at) (sym l.stays) ∙ c)

-- the cuts
ended : (h : List Entry) (w : Wanted) (s : Slot) (cs : List Came) (t : Taken) → s.ends ≡ true
    → (s.owed ≡ 0) ⊎ ((n : ℕ) × (last_clear h s.cursor s.last ≡ Some n)) → Some taken.EndOfSnapshot ≡ Some t → LawfulDistinct h w s cs
    → AfterCut LawfulDistinct h w s cs t (what_of_cut w s cs t)
ended h w s cs t ends none is l =
    by_cut LawfulDistinct h w s cs taken.EndOfSnapshot t is
    (record {
      some = l.some;
      begun = l.begun;
      behind = l.behind;
      within = l.within;
      lines = end_line w.places s.plan h w.snapshot s.cursor s.owed s.last s.ends cs ends l.behind l.within none l.lines;
    })

pass_clear : (h : List Entry) (w : Wanted) (s : Slot) (cs : List Came) (t : Taken) (n : ℕ) (b : Bool) → s.ends ≡ b → last_clear h s.cursor s.last ≡ Some n
    → cond b (Some taken.EndOfSnapshot) (Some (taken.Cleared n)) ≡ Some t → LawfulDistinct h w s cs
    → AfterCut LawfulDistinct h w s cs t (what_of_cut w s cs t)
pass_clear h w s cs t n true ends found is l = ended h w s cs t ends (inr (n, found)) is l
pass_clear h w s cs t n false ends found is l =
    let c : ClearIn h s.cursor s.last n = last_clear_is h s.cursor s.last n l.behind l.within found in
    let low : s.cursor < n = c.above in
    by_cut LawfulDistinct h w s cs (taken.Cleared n) t is
    (record {
      some = l.some;
      begun = omega (arith, l.begun, low);
      behind = c.reached;
      within = l.within;
      lines = later_line w.places s.plan h w.snapshot s.cursor s.owed n s.owed s.ends cs (record { what = Cleared; before = s.cursor; upto = n; at = s.last })
          ends refl refl (omega arith)
          (record { rises = low; reached = c.reached; within = l.within; says = found }) l.lines;
    })

pass_row : (h : List Entry) (w : Wanted) (s : Slot) (cs : List Came) (t : Taken) (o : Option (List Value)) → 0 < s.owed
    → first_of_last s.owed (recent_rows h s.plan.base) ≡ o → option_map (λ row. taken.Row row s.plan.base) o ≡ Some t → LawfulDistinct h w s cs
    → AfterCut LawfulDistinct h w s cs t (what_of_cut w s cs t)
pass_row h w s cs t None some at is l = no_cut t is
pass_row h w s cs t (Some r) some at is l =
    by_cut LawfulDistinct h w s cs (taken.Row r s.plan.base) t is
    (record {
      some = l.some;
      begun = omega arith;
      behind = omega (arith, l.begun, l.behind);
      within = l.within;
      lines = snapshot_line w.places s.plan h w.snapshot s.cursor s.owed s.last s.ends cs r some l.behind l.within at l.lines;
    })

pass_update : (h : List Entry) (w : Wanted) (s : Slot) (cs : List Came) (t : Taken) (o : Option OwnRow) → s.ends ≡ false → last_clear h s.cursor s.last ≡ None
    → first_of_last s.plan.size (updates_between h s.cursor s.last) ≡ o → option_map row_taken o ≡ Some t
    → LawfulDistinct h w s cs → AfterCut LawfulDistinct h w s cs t (what_of_cut w s cs t)
pass_update h w s cs t None ends none at is l = no_cut t is
pass_update h w s cs t (Some u) ends none at is l =
    let r : Reached h s.cursor s.last (length (updates_between h s.cursor s.last) - s.plan.size) u =
    reached h s.cursor s.last (length (updates_between h s.cursor s.last) - s.plan.size) u l.behind l.within at in
    let low : s.cursor < u.no = r.low in
    by_cut LawfulDistinct h w s cs (taken.Row u.row u.no) t is
    (record {
      some = l.some;
      begun = omega (arith, l.begun, low);
      behind = r.high;
      within = l.within;
      lines = later_line w.places s.plan h w.snapshot s.cursor s.owed u.no (s.owed - 1) s.ends cs
          (record { what = Row (projected u.row w.places); before = s.cursor; upto = u.no; at = s.last }) ends refl refl (omega arith)
          (record { rises = low; reached = r.high; within = l.within; says = (u, at, refl, refl, none) }) l.lines;
    })

pass_end : (h : List Entry) (w : Wanted) (s : Slot) (cs : List Came) (t : Taken) (b : Bool) → s.ends ≡ b → s.owed ≡ 0 → last_clear h s.cursor s.last ≡ None
    → cond b (Some taken.EndOfSnapshot) (option_map row_taken (first_of_last s.plan.size (updates_between h s.cursor s.last))) ≡ Some t
    → LawfulDistinct h w s cs → AfterCut LawfulDistinct h w s cs t (what_of_cut w s cs t)
pass_end h w s cs t true ends owed none is l = ended h w s cs t ends (inl owed) is l
pass_end h w s cs t false ends owed none is l = pass_update h w s cs t (first_of_last s.plan.size (updates_between h s.cursor s.last)) ends none refl is l

pass_owed : (h : List Entry) (w : Wanted) (s : Slot) (cs : List Came) (t : Taken) (b : Bool) → nat_lt 0 s.owed ≡ b → last_clear h s.cursor s.last ≡ None
    → cond b (snapshot_cut h s) (cond s.ends (Some taken.EndOfSnapshot) (option_map row_taken (first_of_last s.plan.size (updates_between h s.cursor s.last))))
    ≡ Some t → LawfulDistinct h w s cs
    → AfterCut LawfulDistinct h w s cs t (what_of_cut w s cs t)
pass_owed h w s cs t true some none is l = pass_row h w s cs t (first_of_last s.owed (recent_rows h s.plan.base)) (ltb-true 0 s.owed some) refl is l
pass_owed h w s cs t false few none is l = pass_end h w s cs t s.ends refl (omega (arith, ltb-false 0 s.owed few)) none is l

pass : (h : List Entry) (w : Wanted) (s : Slot) (cs : List Came) (t : Taken) → distinct_cut h s ≡ Some t → LawfulDistinct h w s cs
    → AfterCut LawfulDistinct h w s cs t (what_of_cut w s cs t)
pass h w s cs t is l = by_clear (last_clear h s.cursor s.last) refl is
  where
    by_clear : (o : Option ℕ) → last_clear h s.cursor s.last ≡ o → distinct_cut_by h s o ≡ Some t → AfterCut LawfulDistinct h w s cs t (what_of_cut w s cs t)
    by_clear (Some n) found e = pass_clear h w s cs t n s.ends refl found e l
    by_clear None none e = pass_owed h w s cs t (nat_lt 0 s.owed) refl none e l

pub distinct_keeps : Keeps distinct_cut LawfulDistinct
distinct_keeps = record { longer = longer; enqueue = enqueue; pass = pass }

joins_with : (places : List ℕ) (p : Plan) (h : List Entry) (o : Option ℕ) → p.base ≡ length h → 0 < p.size
    → LawfulDistinct h (record { places = places; snapshot = o }) (distinct_joined p h o) []
joins_with places p h None base some =
    record { some = some; begun = omega (arith, base); behind = omega (arith, base); within = omega (arith, base); lines = (refl, refl) }
joins_with places p h (Some asked) base some =
    record {
      some = some;
      begun = omega arith;
      behind = omega arith;
      within = omega (arith, base);
      lines = record {
        stays = refl;
        rest = omega (arith, last_of_length asked (recent_rows h p.base));
        lines = tt;
      };
    }

pub distinct_joins : (p : Plan) (h : List Entry) (w : Wanted) → p.base ≡ length h → 0 < p.size → LawfulDistinct h w (distinct_joined p h w.snapshot) []
distinct_joins p h w base some = joins_with w.places p h w.snapshot base some
