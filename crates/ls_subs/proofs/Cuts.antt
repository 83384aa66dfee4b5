-- Which cuts come in which modes.
use Rattle.std.proofs.Common.{◌≡◌, ◌==◌, ◌-◌, ℕ, List, length, refl, subst, cond, ◌&&◌, Bool, true, false, Option, Some, None, nat_lt, option_map, slice_get}
use Rattle.ls_event.specs.declared.event.Entry.{Entry}
use Rattle.ls_event.specs.declared.event.Mode.{Mode}
use Rattle.ls_event.specs.declared.event.Mode.TheVariants as mode
use Rattle.ls_event.specs.declared.event.Taken.{Taken}
use Rattle.ls_event.specs.declared.event.Taken.TheVariants as taken
use Rattle.ls_event.specs.declared.updates.OwnRow.{OwnRow}
use Rattle.ls_event.specs.Slots.{Slot}
use Rattle.ls_event.specs.Updates.{updates_between, last_clear, recent_rows}
use Rattle.ls_event.specs.OwnCuts.{first_of_last, raw_taken, raw_cut_of, row_taken, clear_cut, snapshot_cut, distinct_cut_by}
use Rattle.ls_event.specs.CommandCuts.{key_taken, command_cut_by, command_queue}
use Rattle.ls_event.specs.Cuts.{cut_of, cut}
use Rattle.ls_subs.specs.Standing.{Suits}

-- a cut, where there is one, suits a mode
abbrev AllSuit : Mode → Option Taken → Type 0
AllSuit m o = (t : Taken) → o ≡ Some t → Suits m t

none_suits : (m : Mode) → AllSuit m None
none_suits m t e = absurd (let x : None ≡ Some t = e in cc)

some_suits : (m : Mode) (u : Taken) → Suits m u → AllSuit m (Some u)
some_suits m u s t e =
    let same : u ≡ t = cc in
    subst (Suits m) same s

if_suits : (m : Mode) (v : Bool) (a b : Option Taken) → AllSuit m a → AllSuit m b → AllSuit m (cond v a b)
if_suits m true a b x y = x
if_suits m false a b x y = y

map_suits : {A : Type 0} (m : Mode) (f : A → Taken) (o : Option A) → ((x : A) → Suits m (f x)) → AllSuit m (option_map f o)
map_suits m f None s = none_suits m
map_suits m f (Some x) s = some_suits m (f x) (s x)

raw_suits : (us : List OwnRow) → AllSuit mode.Raw (raw_cut_of us)
raw_suits us = map_suits mode.Raw (raw_taken (length us - 256)) (first_of_last 256 us) (λ u. by_lost u (nat_lt 0 (length us - 256)))
  where
    by_lost : (u : OwnRow) (v : Bool) → Suits mode.Raw (cond v (taken.Lost (length us - 256) (u.no - 1)) (row_taken u))
    by_lost u true = tt
    by_lost u false = λ e. absurd cc

clear_suits : (m : Mode) (s : Slot) (c : ℕ) → AllSuit m (clear_cut s c)
clear_suits m s c = if_suits m s.ends (Some taken.EndOfSnapshot) (Some (taken.Cleared c)) (some_suits m taken.EndOfSnapshot tt)
    (some_suits m (taken.Cleared c) tt)

distinct_suits : (h : List Entry) (s : Slot) (o : Option ℕ) → AllSuit mode.Distinct (distinct_cut_by h s o)
distinct_suits h s (Some c) = clear_suits mode.Distinct s c
distinct_suits h s None =
    if_suits mode.Distinct (nat_lt 0 s.owed) (snapshot_cut h s) _
    (map_suits mode.Distinct (λ row. taken.Row row s.plan.base) (first_of_last s.owed (recent_rows h s.plan.base)) (λ row e. absurd cc))
    (if_suits mode.Distinct s.ends (Some taken.EndOfSnapshot) _
    (some_suits mode.Distinct taken.EndOfSnapshot tt)
    (map_suits mode.Distinct row_taken (first_of_last s.plan.size (updates_between h s.cursor s.last)) (λ u e. absurd cc)))

command_suits : (h : List Entry) (s : Slot) (o : Option ℕ) → AllSuit mode.Command (command_cut_by h s o)
command_suits h s (Some c) = clear_suits mode.Command s c
command_suits h s None =
    if_suits mode.Command (s.ends && (s.owed == 0)) (Some taken.EndOfSnapshot) _
    (some_suits mode.Command taken.EndOfSnapshot tt)
    (map_suits mode.Command (key_taken h s) (slice_get (command_queue h s) 0) (λ k. refl))

pub cut_suits : (h : List Entry) (s : Slot) (t : Taken) → cut h s ≡ Some t → Suits s.plan.mode t
cut_suits h s t = by_mode s.plan.mode t
  where
    by_mode : (m : Mode) → AllSuit m (cut_of m h s)
    by_mode mode.Merge = if_suits mode.Merge (nat_lt s.cursor s.last) _ None (some_suits mode.Merge _ refl) (none_suits mode.Merge)
    by_mode mode.Raw = raw_suits (updates_between h s.cursor s.last)
    by_mode mode.Distinct = distinct_suits h s (last_clear h s.cursor s.last)
    by_mode mode.Command = command_suits h s (last_clear h s.cursor s.last)
