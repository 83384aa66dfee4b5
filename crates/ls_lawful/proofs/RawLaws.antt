-- What is true of a slot of mode RAW stays true.
use Rattle.std.proofs.Common.{◌≡◌, ℕ, ◌-◌, ◌<◌, ◌≤◌, List, [], ◌∷◌, ◌++◌, length, refl, sym, ◌∙◌, ap, arith, Bool}
use Rattle.std.proofs.Common.{true, false, cond, subst, Option, Some, None, nat_lt, option_map, slice_get}
use Rattle.std.proofs.lemmas.List.{length-append, length-take-le}
use Rattle.std.proofs.lemmas.Bool.{ltb-true, ltb-false}
use Rattle.ls_value.specs.Values.{projected}
use Rattle.ls_event.specs.declared.event.Entry.{Entry}
use Rattle.ls_event.specs.declared.event.Taken.{Taken}
use Rattle.ls_event.specs.declared.updates.OwnRow.{OwnRow}
use Rattle.ls_event.specs.Slots.{Plan, Slot, enqueued}
use Rattle.ls_event.specs.Updates.{updates_between}
use Rattle.ls_event.specs.OwnCuts.{first_of_last, raw_taken, raw_cut}
use Rattle.ls_event.proofs.UpdatesBetween.{updates_between-append}
use Rattle.ls_mirror.specs.Client.{What, Row, Lost}
use Rattle.ls_record.specs.Came.{Came}
use Rattle.ls_event.specs.Joining.{raw_joined}
use Rattle.ls_record.specs.Cutting.{Wanted, what_of_cut}
use Rattle.ls_lawful.specs.RawMode.{RawWaited, RawSays, RowsAt, IsRawLine, RawLines, LawfulRaw}
use Rattle.ls_lawful.proofs.Keeps.{Keeps, AfterCut, by_cut}
use Rattle.ls_record.proofs.Cuts.{no_cut}
use Rattle.ls_lawful.proofs.Updates.{Reached, reached, reached_first, updates_few}
use Rattle.ls_event.specs.declared.event.Taken.TheVariants as taken

-- later entries leave the lines
line_longer : (places : List ℕ) (h more : List Entry) (c : Came) → IsRawLine places h c → IsRawLine places (h ++ more) c
line_longer places h more c l =
    let e : updates_between (h ++ more) c.before c.upto ≡ updates_between h c.before c.upto =
    updates_between-append h more c.before c.upto (omega (arith, l.reached, l.within)) in
    let f : updates_between (h ++ more) c.before c.at ≡ updates_between h c.before c.at = updates_between-append h more c.before c.at l.within in
    record {
      rises = l.rises;
      reached = l.reached;
      within = omega (arith, l.within, length-append h more);
      waited = subst (λ (us : List OwnRow). RawWaited c.what (length us)) (sym f) l.waited;
      says = subst (λ (us : List OwnRow). RawSays places c.what us) (sym e) l.says;
      rows = subst (λ (us : List OwnRow). RowsAt c.what c.upto us) (sym e) l.rows;
    }

lines_longer : (places : List ℕ) (h more : List Entry) (base cursor : ℕ) (cs : List Came) → RawLines places h base cursor cs
    → RawLines places (h ++ more) base cursor cs
lines_longer places h more base cursor [] l = l
lines_longer places h more base cursor (c ∷ cs) l = (l.0, line_longer places h more c l.1, lines_longer places h more base c.before cs l.2)

longer : (h more : List Entry) (w : Wanted) (s : Slot) (cs : List Came) → LawfulRaw h w s cs → LawfulRaw (h ++ more) w s cs
longer h more w s cs l =
    record {
      begun = l.begun;
      behind = l.behind;
      within = omega (arith, l.within, length-append h more);
      lines =
          lines_longer w.places h more s.plan.base s.cursor cs l.lines;
    }

enqueue : (h : List Entry) (w : Wanted) (s : Slot) (cs : List Came) → s.last < length h → LawfulRaw h w s cs → LawfulRaw h w (enqueued s) cs
enqueue h w s cs more l = record { begun = l.begun; behind = omega (arith, l.behind); within = omega (arith, more); lines = l.lines }

-- a move to a cursor that a line tells
moved : (h : List Entry) (w : Wanted) (s : Slot) (cs : List Came) (p owed : ℕ) (what : What) → LawfulRaw h w s cs → s.cursor < p → p ≤ s.last
    → RawWaited what (length (updates_between h s.cursor s.last)) → RawSays w.places what (updates_between h s.cursor p)
    → RowsAt what p (updates_between h s.cursor p)
    → LawfulRaw h w (record s { cursor = p; owed = owed }) (record { what = what; before = s.cursor; upto = p; at = s.last } ∷ cs)
moved h w s cs p owed what l low high waited says rows =
    record {
      begun = omega (arith, l.begun, low);
      behind = high;
      within = l.within;
      lines = (refl, record { rises = low; reached = high; within = l.within; waited = waited; says = says; rows = rows }, l.lines);
    }

same_no : (u v : OwnRow) → u ∷ [] ≡ v ∷ [] → v.no ≡ u.no
same_no u v e =
    let x : u ≡ v = cc in
    ap (λ (y : OwnRow). y.no) (sym x)

pass : (h : List Entry) (w : Wanted) (s : Slot) (cs : List Came) (t : Taken) → raw_cut h s ≡ Some t → LawfulRaw h w s cs
    → AfterCut LawfulRaw h w s cs t (what_of_cut w s cs t)
pass h w s cs t is l = by_first (first_of_last 256 (updates_between h s.cursor s.last)) refl is
  where
    by_test : (u : OwnRow) (v : Bool) → nat_lt 0 (length (updates_between h s.cursor s.last) - 256) ≡ v
        → Reached h s.cursor s.last (length (updates_between h s.cursor s.last) - 256) u
        → slice_get (updates_between h s.cursor s.last) (length (updates_between h s.cursor s.last) - 256) ≡ Some u
        → Some (cond v (taken.Lost (length (updates_between h s.cursor s.last) - 256) (u.no - 1)) (taken.Row u.row u.no)) ≡ Some t
        → AfterCut LawfulRaw h w s cs t (what_of_cut w s cs t)
    by_test u true b r at e =
        let some = ltb-true 0 (length (updates_between h s.cursor s.last) - 256) b in
        let long : length (updates_between h s.cursor (u.no - 1)) ≡ length (updates_between h s.cursor s.last) - 256
        = ap length r.before ∙ length-take-le (length (updates_between h s.cursor s.last) - 256) (updates_between h s.cursor s.last) (omega arith) in
        let few = updates_few h s.cursor (u.no - 1) (omega (arith, r.high, l.within)) in
        by_cut LawfulRaw h w s cs (taken.Lost (length (updates_between h s.cursor s.last) - 256) (u.no - 1)) t e
        (moved h w s cs (u.no - 1) s.owed (Lost (length (updates_between h s.cursor s.last) - 256)) l (omega (arith, some, long, few)) (omega (arith, r.high))
        (omega (arith, some), omega (arith, some)) long tt)
    by_test u false b r at e =
        let none : length (updates_between h s.cursor s.last) - 256 ≡ 0 = omega (arith, ltb-false 0 (length (updates_between h s.cursor s.last) - 256) b) in
        let one : updates_between h s.cursor u.no ≡ u ∷ [] = reached_first h s.cursor s.last u l.behind l.within
        (ap (slice_get (updates_between h s.cursor s.last)) (sym none) ∙ at) in
        by_cut LawfulRaw h w s cs (taken.Row u.row u.no) t e
        (moved h w s cs u.no (s.owed - 1) (Row (projected u.row w.places)) l r.low r.high (omega (arith, none)) (u, one, refl)
        (λ v is. same_no u v (sym one ∙ is)))

    by_first : (o : Option OwnRow) → first_of_last 256 (updates_between h s.cursor s.last) ≡ o
        → option_map (raw_taken (length (updates_between h s.cursor s.last) - 256)) o ≡ Some t → AfterCut LawfulRaw h w s cs t (what_of_cut w s cs t)
    by_first None at e = no_cut t e
    by_first (Some u) at e =
        by_test u (nat_lt 0 (length (updates_between h s.cursor s.last) - 256)) refl
        (reached h s.cursor s.last (length (updates_between h s.cursor s.last) - 256) u l.behind l.within at) at e

pub raw_keeps : Keeps raw_cut LawfulRaw
raw_keeps = record { longer = longer; enqueue = enqueue; pass = pass }

pub raw_joins : (p : Plan) (h : List Entry) (w : Wanted) → p.base ≡ length h → LawfulRaw h w (raw_joined p) []
raw_joins p h w base = record { begun = omega arith; behind = omega arith; within = omega (arith, base); lines = refl }
