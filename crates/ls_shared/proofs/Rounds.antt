-- Slots that were asked and had nothing, as more is seen of the items, and as more slots are asked.
use Rattle.std.proofs.Common.{◌≡◌, ◌≤◌, ◌<◌, ℕ, zero, suc, ◌+◌, List, [], ◌∷◌, ◌++◌, length, take, Bool, true, false, not, ◌&&◌, nat_le}
use Rattle.std.proofs.Common.{Option, None, Some, refl, sym, ap, subst, arith, cond, ◌∙◌, slice_get, min, append-nil}
use Rattle.std.specs.Option.{option_map_or}
use mathlib.Core.List.{IsPrefix}
use Rattle.ls_value.specs.Each.{Each}
use Rattle.ls_value.proofs.Each.{each_append}
use Rattle.ls_chron.proofs.Beginnings.{prefix_length}
use Rattle.ls_event.specs.declared.event.Entry.{Entry}
use Rattle.ls_event.specs.declared.item.ItemDef.{ItemDef}
use Rattle.ls_event.specs.Cuts.{cut, is_pending}
use Rattle.ls_event.specs.Slots.{Slot}
use Rattle.ls_event.proofs.LongerCuts.{Reaches, cut_longer, pending_longer}
use Rattle.ls_record.specs.Records.{Item, LiveSlot, Session, change, due_at, history_of, is_due, is_waiting, waits_of, least_of}
use Rattle.ls_record.proofs.Each.{each_map}
use Rattle.ls_told.specs.Seen.{Watched, SeesMore, items_seen, seen_of}
use Rattle.ls_told.specs.Turns.{HasNothing}
use Rattle.ls_told.proofs.Watching.{seen_more, history_seen}
use Rattle.ls_shared.specs.Asking.{HadNothing, HadNone}

-- the first n of a list
pub take_at : {A : Type 0} (xs : List A) (n : ℕ) (x : A) → slice_get xs n ≡ Some x → take (suc n) xs ≡ take n xs ++ x ∷ []
take_at [] n x is = absurd (let y : None ≡ Some x = is in cc)
take_at (y ∷ xs) zero x is = let same : y ≡ x = cc in ap (λ z. z ∷ []) same
take_at (y ∷ xs) (suc n) x is = ap (λ zs. y ∷ zs) (take_at xs n x is)

pub take_changed : {A : Type 0} (f : A → A) (xs : List A) (n : ℕ) → take n (change n f xs) ≡ take n xs
take_changed f [] n = refl
take_changed f (y ∷ xs) zero = refl
take_changed f (y ∷ xs) (suc n) = ap (λ zs. y ∷ zs) (take_changed f xs n)

pub past_end : {A : Type 0} (xs : List A) (n : ℕ) → slice_get xs n ≡ None → take n xs ≡ xs
past_end [] zero is = refl
past_end [] (suc n) is = refl
past_end (y ∷ xs) zero is = absurd (let z : Some y ≡ None = is in cc)
past_end (y ∷ xs) (suc n) is = ap (λ zs. y ∷ zs) (past_end xs n is)

-- what is pending of a slot is the same on a longer history
module _ (h k : List Entry) (s : Slot) (more : IsPrefix h k) (r : Reaches h s) where
  reaches_on : Reaches k s
  reaches_on =
      record { some = r.some; based = omega (arith, r.based, prefix_length h k more); within = omega (arith, r.within, prefix_length h k more) }

  pending_on : is_pending k s ≡ is_pending h s
  pending_on = ap (λ (l : List Entry). is_pending l s) (sym more.1) ∙ pending_longer h more.0 s r

  nothing_on : HasNothing h s → HasNothing k s
  nothing_on n = λ p.
      let was = n (sym pending_on ∙ p) in
      (was.0, ap (λ (l : List Entry). cut l s) (sym more.1) ∙ (cut_longer h more.0 s r ∙ was.1))

-- ticks at which slots that wait are due, of the same slots
pub waits_alike : (tick : ℕ) (xs ys : List Item) (s t : Session) (P : LiveSlot → Type 0) → ((v : LiveSlot) → due_at tick t v ≡ due_at tick s v)
    → ((v : LiveSlot) → P v → is_waiting tick ys t v ≡ is_waiting tick xs s v) → (vs : List LiveSlot) → Each P vs
    → waits_of tick ys t vs ≡ waits_of tick xs s vs
waits_alike tick xs ys s t P due waiting [] e = refl
waits_alike tick xs ys s t P due waiting (v ∷ vs) e =
    ap (λ (b : Bool). cond b (due_at tick t v ∷ waits_of tick ys t vs) (waits_of tick ys t vs)) (waiting v e.0)
    ∙ (ap (λ (rest : List ℕ). cond (is_waiting tick xs s v) (due_at tick t v ∷ rest) rest) (waits_alike tick xs ys s t P due waiting vs e.1)
    ∙ ap (λ (d : ℕ). cond (is_waiting tick xs s v) (d ∷ waits_of tick xs s vs) (waits_of tick xs s vs)) (due v))

-- and of one slot more
waits_put : (b : Bool) (d : ℕ) (xs ys : List ℕ) → cond b (d ∷ xs ++ ys) (xs ++ ys) ≡ cond b (d ∷ xs) xs ++ ys
waits_put true d xs ys = refl
waits_put false d xs ys = refl

waits_last : (tick : ℕ) (items : List Item) (s : Session) (vs : List LiveSlot) (v : LiveSlot)
    → waits_of tick items s (vs ++ v ∷ []) ≡ waits_of tick items s vs ++ waits_of tick items s (v ∷ [])
waits_last tick items s [] v = refl
waits_last tick items s (u ∷ vs) v =
    ap (λ (rest : List ℕ). cond (is_waiting tick items s u) (due_at tick s u ∷ rest) rest) (waits_last tick items s vs v)
    ∙ waits_put (is_waiting tick items s u) (due_at tick s u) (waits_of tick items s vs) (waits_of tick items s (v ∷ []))

least_last : (ns : List ℕ) (n : ℕ) → least_of (ns ++ n ∷ []) ≡ Some (option_map_or (min n) (least_of ns) n)
least_last [] n = refl
least_last (m ∷ ns) n = ap (λ (o : Option ℕ). Some (option_map_or (min m) o m)) (least_last ns n) ∙ by_rest (least_of ns)
  where
    by_rest : (o : Option ℕ) → Some (min m (option_map_or (min n) o n)) ≡ Some (option_map_or (min n) (Some (option_map_or (min m) o m)) n)
    by_rest None = ap (λ (k : ℕ). Some k) (let e : min m n ≡ min n m = omega arith in e)
    by_rest (Some b) = ap (λ (k : ℕ). Some k) (let e : min m (min n b) ≡ min n (min m b) = omega arith in e)

module _ (config : List ItemDef) (held : List Watched) where
  -- whether a slot waits, by what was seen of its item
  pub waiting_seen : (ws : List Watched) (tick : ℕ) (s : Session) (v : LiveSlot) → v.item < length config
      → is_waiting tick (items_seen config ws) s v ≡ (not (is_due tick s v) && is_pending (seen_of ws v.item) v.slot)
  waiting_seen ws tick s v within =
      ap (λ (h : List Entry). not (is_due tick s v) && is_pending h v.slot) (history_seen config ws v.item within)

  -- more is seen of the items
  module _ (old new : List Watched) (more : SeesMore old new) (tick : ℕ) (s : Session) where
    had_sees : (v : LiveSlot) → HadNothing config held old tick s v → HadNothing config held new tick s v
    had_sees v n =
        let longer = seen_more old new more v.item in
        record {
          declared = n.declared;
          reaches = reaches_on (seen_of old v.item) (seen_of new v.item) v.slot longer n.reaches;
          fresh = n.fresh;
          nothing = λ due. nothing_on (seen_of old v.item) (seen_of new v.item) v.slot longer n.reaches (n.nothing due);
        }

    waiting_sees : (v : LiveSlot) → HadNothing config held old tick s v
        → is_waiting tick (items_seen config new) s v ≡ is_waiting tick (items_seen config old) s v
    waiting_sees v n =
        waiting_seen new tick s v n.declared
        ∙ (ap (λ (b : Bool). not (is_due tick s v) && b)
        (pending_on (seen_of old v.item) (seen_of new v.item) v.slot (seen_more old new more v.item) n.reaches)
        ∙ sym (waiting_seen old tick s v n.declared))

    pub none_sees : (vs : List LiveSlot) (wait : Option ℕ) → HadNone config held old tick s vs wait → HadNone config held new tick s vs wait
    none_sees vs wait n =
        record {
          each = each_map (HadNothing config held old tick s) (HadNothing config held new tick s) vs had_sees n.each;
          first = n.first
              ∙ ap least_of (sym (waits_alike tick (items_seen config old) (items_seen config new) s s (HadNothing config held old tick s) (λ v. refl)
              waiting_sees vs n.each));
        }

  -- a session whose slots are due at the same ticks
  pub none_alike : (ws : List Watched) (tick : ℕ) (s t : Session) → ((v : LiveSlot) → due_at tick t v ≡ due_at tick s v) → (vs : List LiveSlot)
      → (wait : Option ℕ) → HadNone config held ws tick s vs wait → HadNone config held ws tick t vs wait
  none_alike ws tick s t due vs wait n =
      record {
        each = each_map (HadNothing config held ws tick s) (HadNothing config held ws tick t) vs one n.each;
        first = n.first
            ∙ ap least_of (sym (waits_alike tick (items_seen config ws) (items_seen config ws) s t (HadNothing config held ws tick s) due
            (λ v h. ap (λ (d : ℕ). not (nat_le d tick) && is_pending (history_of (items_seen config ws) v.item) v.slot) (due v)) vs n.each));
      }
    where
      one : (v : LiveSlot) → HadNothing config held ws tick s v → HadNothing config held ws tick t v
      one v h =
          record {
            declared = h.declared;
            reaches = h.reaches;
            fresh = h.fresh;
            nothing = λ is. h.nothing (sym (ap (λ (d : ℕ). nat_le d tick) (due v)) ∙ is);
          }

  -- one slot more had nothing: it doesn't wait, or it does
  module _ (ws : List Watched) (tick : ℕ) (s : Session) (vs : List LiveSlot) (wait : Option ℕ) (v : LiveSlot) (n : HadNone config held ws tick s vs wait)
      (h : HadNothing config held ws tick s v) where
    one_more : Each (HadNothing config held ws tick s) (vs ++ v ∷ [])
    one_more = each_append (HadNothing config held ws tick s) vs (v ∷ []) n.each (h, tt)

    abbrev waits : List LiveSlot → List ℕ
    waits us = waits_of tick (items_seen config ws) s us

    waits_one : (b : Bool) → (not (is_due tick s v) && is_pending (seen_of ws v.item) v.slot) ≡ b
        → waits (vs ++ v ∷ []) ≡ waits vs ++ cond b (due_at tick s v ∷ []) []
    waits_one b is =
        waits_last tick (items_seen config ws) s vs v
        ∙ ap (λ (c : Bool). waits vs ++ cond c (due_at tick s v ∷ []) []) (waiting_seen ws tick s v h.declared ∙ is)

    pub none_more : (not (is_due tick s v) && is_pending (seen_of ws v.item) v.slot) ≡ false → HadNone config held ws tick s (vs ++ v ∷ []) wait
    none_more quiet =
        record {
          each = one_more;
          first = n.first ∙ ap least_of (sym (waits_one false quiet ∙ append-nil (waits vs)));
        }

    pub one_waits : (not (is_due tick s v) && is_pending (seen_of ws v.item) v.slot) ≡ true
        → HadNone config held ws tick s (vs ++ v ∷ []) (Some (option_map_or (min (due_at tick s v)) wait (due_at tick s v)))
    one_waits pends =
        record {
          each = one_more;
          first = ap (λ (o : Option ℕ). Some (option_map_or (min (due_at tick s v)) o (due_at tick s v))) n.first
              ∙ sym (ap least_of (waits_one true pends) ∙ least_last (waits vs) (due_at tick s v));
        }
