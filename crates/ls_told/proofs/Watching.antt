-- What was seen of the items of a session's slots, and that more is seen of them.
use Rattle.std.proofs.Common.{◌≡◌, ◌==◌, ◌<◌, ℕ, zero, suc, ◌+◌, List, [], ◌∷◌, ◌++◌, length, refl, sym, ◌∙◌, ap, arith, subst, cond}
use Rattle.std.proofs.Common.{Bool, true, false, Some, None, slice_get, append_assoc, append-nil}
use Rattle.std.proofs.lemmas.Bool.{eqb-true, eq-eqb, ne_eqb}
use mathlib.Core.List.{IsPrefix}
use Rattle.ls_value.specs.Each.{Each}
use Rattle.ls_event.specs.declared.event.Entry.{Entry}
use Rattle.ls_event.specs.declared.item.ItemDef.{ItemDef}
use Rattle.ls_event.specs.Publishes.{IsHistory}
use Rattle.ls_event.specs.Shapes.{shape_of}
use Rattle.ls_event.specs.Textual.{Textual}
use Rattle.ls_record.specs.Records.{Session, LiveSlot, history_of, definitions, shape_in, shape_at, change}
use Rattle.ls_record.proofs.Each.{each_map}
use Rattle.ls_lawful.specs.Lawful.{IsSound}
use Rattle.ls_lawful.proofs.Frame.{Later}
use Rattle.ls_lawful.proofs.Legible.{AreTextual}
use Rattle.ls_lawful.proofs.Sessions.{session_later}
use Rattle.ls_lawful.proofs.OneSession.{KeptAlone}
use Rattle.ls_register.specs.declared.told.Told.{Told}
use Rattle.ls_told.specs.Seen.{Watched, seen_of, items_from, items_seen, IsWatched, IsDeclared, FitsWatch, showing, SeesMore}
use Rattle.ls_told.specs.Keeping.{KeepsTold}

-- the items are those that are declared
definitions_from : (m : ℕ) (config : List ItemDef) (ws : List Watched) → definitions (items_from m config ws) ≡ config
definitions_from m [] ws = refl
definitions_from m (d ∷ ds) ws = ap (λ rest. d ∷ rest) (definitions_from (m + 1) ds ws)

pub definitions_seen : (config : List ItemDef) (ws : List Watched) → definitions (items_seen config ws) ≡ config
definitions_seen config ws = definitions_from 0 config ws

pub shape_seen : (config : List ItemDef) (ws : List Watched) (n : ℕ) → shape_at (items_seen config ws) n ≡ shape_in config n
shape_seen config ws n = ap (λ defs. shape_in defs n) (definitions_seen config ws)

length_from : (m : ℕ) (config : List ItemDef) (ws : List Watched) → length (items_from m config ws) ≡ length config
length_from m [] ws = refl
length_from m (d ∷ ds) ws = ap suc (length_from (m + 1) ds ws)

pub length_seen : (config : List ItemDef) (ws : List Watched) → length (items_seen config ws) ≡ length config
length_seen config ws = length_from 0 config ws

-- and the history of each is what was seen of it
history_from : (m n : ℕ) (config : List ItemDef) (ws : List Watched) → n < length config → history_of (items_from m config ws) n ≡ seen_of ws (m + n)
history_from m n [] ws l = absurd (omega (arith, l))
history_from m zero (d ∷ ds) ws l = ap (seen_of ws) {x = m} {y = m + zero} (omega arith)
history_from m (suc n) (d ∷ ds) ws l =
    history_from (m + 1) n ds ws (omega (arith, l)) ∙ ap (seen_of ws) {x = m + 1 + n} {y = m + suc n} (omega arith)

pub history_seen : (config : List ItemDef) (ws : List Watched) (n : ℕ) → n < length config → history_of (items_seen config ws) n ≡ seen_of ws n
history_seen config ws n l = history_from 0 n config ws l ∙ ap (seen_of ws) {x = 0 + n} {y = n} (omega arith)

-- what was seen of an item is a history of it, whose texts are UTF-8
pub record FitsSeen (config : List ItemDef) (n : ℕ) (h : List Entry) : Type 0 where
  pub history : IsHistory (shape_in config n) h
  pub textual : Textual h

abbrev pub AllFit : List ItemDef → List Watched → Type 0
AllFit config ws = (n : ℕ) → n < length config → FitsSeen config n (seen_of ws n)

-- as it is where each watch fits
pub all_fit : (config : List ItemDef) (ws : List Watched) → Each (FitsWatch config) ws → AllFit config ws
all_fit config ws e = λ n l. of_item n ws e
  where
    of_item : (n : ℕ) (ws : List Watched) → Each (FitsWatch config) ws → FitsSeen config n (seen_of ws n)
    of_item n [] e = record { history = record { few = omega arith; each = tt }; textual = tt }
    of_item n (w ∷ ws) e = by_test n w ws (w.item == n) refl e.0 (of_item n ws e.1)
      where
        by_test : (n : ℕ) (w : Watched) (ws : List Watched) (b : Bool) → (w.item == n) ≡ b → FitsWatch config w → FitsSeen config n (seen_of ws n)
            → FitsSeen config n (cond b w.list (seen_of ws n))
        by_test n w ws true t fits rest =
            subst (λ (k : ℕ). FitsSeen config k w.list) (eqb-true w.item n t) (record { history = fits.history; textual = fits.textual })
        by_test n w ws false t fits rest = rest

-- items are sound by that, and by their declarations
pub declared_from : (m : ℕ) (config : List ItemDef) (ws : List Watched) → Each IsSound (items_from m config ws) → Each IsDeclared config
declared_from m [] ws e = tt
declared_from m (d ∷ ds) ws e = (record { shape = e.0.shape; distinct = e.0.distinct }, declared_from (m + 1) ds ws e.1)

sound_from : (m : ℕ) (config : List ItemDef) (ws : List Watched) → Each IsDeclared config
    → ((n : ℕ) → n < length config → IsHistory (shape_in config n) (seen_of ws (m + n))) → Each IsSound (items_from m config ws)
sound_from m [] ws e h = tt
sound_from m (d ∷ ds) ws e h = (
  record {
    shape = e.0.shape;
    distinct = e.0.distinct;
    history = subst (λ (k : ℕ). IsHistory (shape_of d) (seen_of ws k)) {x = m + zero} {y = m} (omega arith) (h zero (omega arith));
  },
  sound_from (m + 1) ds ws e.1 (λ n l. subst (λ (k : ℕ). IsHistory (shape_in ds n) (seen_of ws k)) {x = m + suc n} {y = m + 1 + n} (omega arith)
      (h (suc n) (omega (arith, l)))),
)

textual_from : (m : ℕ) (config : List ItemDef) (ws : List Watched) → ((n : ℕ) → n < length config → Textual (seen_of ws (m + n)))
    → AreTextual (items_from m config ws)
textual_from m [] ws h = tt
textual_from m (d ∷ ds) ws h = (
  subst (λ (k : ℕ). Textual (seen_of ws k)) {x = m + zero} {y = m} (omega arith) (h zero (omega arith)),
  textual_from (m + 1) ds ws (λ n l. subst (λ (k : ℕ). Textual (seen_of ws k)) {x = m + suc n} {y = m + 1 + n} (omega arith)
      (h (suc n) (omega (arith, l)))),
)

pub sound_seen : (config : List ItemDef) (ws : List Watched) → Each IsDeclared config → AllFit config ws → Each IsSound (items_seen config ws)
sound_seen config ws e fit =
    sound_from 0 config ws e (λ n l. subst (λ (k : ℕ). IsHistory (shape_in config n) (seen_of ws k)) {x = n} {y = 0 + n} (omega arith) (fit n l).history)

pub textual_seen : (config : List ItemDef) (ws : List Watched) → AllFit config ws → AreTextual (items_seen config ws)
textual_seen config ws fit =
    textual_from 0 config ws (λ n l. subst (λ (k : ℕ). Textual (seen_of ws k)) {x = n} {y = 0 + n} (omega arith) (fit n l).textual)

-- and back
fit_from : (m n : ℕ) (config : List ItemDef) (ws : List Watched) → n < length config → Each IsSound (items_from m config ws)
    → AreTextual (items_from m config ws) → FitsSeen config n (seen_of ws (m + n))
fit_from m n [] ws l sound textual = absurd (omega (arith, l))
fit_from m zero (d ∷ ds) ws l sound textual =
    subst (λ (k : ℕ). FitsSeen (d ∷ ds) zero (seen_of ws k)) {x = m} {y = m + zero} (omega arith)
    (record { history = sound.0.history; textual = textual.0 })
fit_from m (suc n) (d ∷ ds) ws l sound textual =
    let f : FitsSeen ds n (seen_of ws (m + 1 + n)) = fit_from (m + 1) n ds ws (omega (arith, l)) sound.1 textual.1 in
    subst (λ (k : ℕ). FitsSeen (d ∷ ds) (suc n) (seen_of ws k)) {x = m + 1 + n} {y = m + suc n} (omega arith)
    (record { history = f.history; textual = f.textual })

pub kept_fit : (config : List ItemDef) (ws : List Watched) (s : Session) → KeptAlone (items_seen config ws) s → AllFit config ws
kept_fit config ws s k = λ n l. subst (λ (j : ℕ). FitsSeen config n (seen_of ws j)) {x = 0 + n} {y = n} (omega arith)
    (fit_from 0 n config ws l k.sound k.textual)

-- beginnings of lists
prefix_self : (h : List Entry) → IsPrefix h h
prefix_self h = ([], append-nil h)

prefix_twice : (a b c : List Entry) → IsPrefix a b → IsPrefix b c → IsPrefix a c
prefix_twice a b c p q = (p.0 ++ q.0, sym (append_assoc a p.0 q.0) ∙ ap (λ h. h ++ q.0) p.1 ∙ q.1)

-- more is seen of each item
pub seen_more : (old new : List Watched) → SeesMore old new → (n : ℕ) → IsPrefix (seen_of old n) (seen_of new n)
seen_more [] new more n = (seen_of new n, refl)
seen_more (w ∷ ws) [] more n = absurd (nothing (more zero w refl))
  where
    nothing : (v : Watched) × (slice_get [] zero ≡ Some v) × (v.item ≡ w.item) × (v.at ≡ w.at) × IsPrefix w.list v.list → ⊥
    nothing p = let x : None ≡ Some p.0 = p.1 in cc
seen_more (w ∷ ws) (v ∷ vs) more n =
    let p = more zero w refl in
    let same : v ≡ p.0 = cc in
    by_test n w v ws vs (ap (λ (x : Watched). x.item) same ∙ p.2) (subst (λ (x : Watched). IsPrefix w.list x.list) (sym same) p.4)
    (seen_more ws vs (λ k u is. more (suc k) u is) n)
  where
    by_value : (b : Bool) (w v : Watched) (old new : List Entry) → IsPrefix w.list v.list → IsPrefix old new → IsPrefix (cond b w.list old) (cond b v.list new)
    by_value true w v old new p q = p
    by_value false w v old new p q = q

    by_test : (n : ℕ) (w v : Watched) (ws vs : List Watched) → v.item ≡ w.item → IsPrefix w.list v.list → IsPrefix (seen_of ws n) (seen_of vs n)
        → IsPrefix (seen_of (w ∷ ws) n) (seen_of (v ∷ vs) n)
    by_test n w v ws vs item p q =
        subst (λ (m : ℕ). IsPrefix (seen_of (w ∷ ws) n) (cond (m == n) v.list (seen_of vs n))) (sym item)
        (by_value (w.item == n) w v (seen_of ws n) (seen_of vs n) p q)

pub items_later : (config : List ItemDef) (old new : List Watched) → SeesMore old new → Later (items_seen config old) (items_seen config new)
items_later config old new more = λ n l.
    let within : n < length config = omega (arith, l, length_seen config old) in
    let p = seen_more old new more n in
    record {
      declared = omega (arith, within, length_seen config new);
      shape = shape_seen config new n ∙ sym (shape_seen config old n);
      more = p.0;
      history = history_seen config new n within ∙ sym p.1 ∙ ap (λ h. h ++ p.0) (sym (history_seen config old n within));
    }

-- watched items stay watched
pub watched_more : (old new : List Watched) → SeesMore old new → (n : ℕ) → IsWatched old n → IsWatched new n
watched_more old new more n is = let p = more is.0 is.1 is.2 in (is.0, p.0, p.1, p.2 ∙ is.3)

-- a session that is kept on what was seen is kept on more
pub alone_sees : (config : List ItemDef) (old new : List Watched) (s : Session) → SeesMore old new → AllFit config new
    → KeptAlone (items_seen config old) s → KeptAlone (items_seen config new) s
alone_sees config old new s more fit k =
    record {
      sound = sound_seen config new (declared_from 0 config old k.sound) fit;
      textual = textual_seen config new fit;
      session = session_later (items_seen config old) (items_seen config new) (items_later config old new more) s k.session;
      board = k.board;
    }

keeps_sees : (config : List ItemDef) (number : ℕ) (lines : List Told) (old new : List Watched) (s : Session) → SeesMore old new → AllFit config new
    → KeepsTold config number lines old s → KeepsTold config number lines new s
keeps_sees config number lines old new s more fit k =
    record {
      told = k.told;
      alone = alone_sees config old new s more fit k.alone;
      none = k.none;
      watched = each_map (λ (v : LiveSlot). IsWatched old v.item) (λ (v : LiveSlot). IsWatched new v.item) s.board.round
          (λ v is. watched_more old new more v.item is) k.watched;
      ends = k.ends;
      counts = k.counts;
      subs = k.subs;
      numbered = k.numbered;
      slots = k.slots;
    }

pub keeps_seen : (config : List ItemDef) (number : ℕ) (lines : List Told) (old new : List Watched) (s : Session) → SeesMore old new
    → Each (FitsWatch config) new → KeepsTold config number lines old s → KeepsTold config number lines new s
keeps_seen config number lines old new s more fit k = keeps_sees config number lines old new s more (all_fit config new fit) k

-- it is so of the same watches, and step by step
pub sees_same : (ws : List Watched) → SeesMore ws ws
sees_same ws = λ k w is. (w, is, refl, refl, prefix_self w.list)

pub sees_twice : (a b c : List Watched) → SeesMore a b → SeesMore b c → SeesMore a c
sees_twice a b c early late = λ k w is.
    let p = early k w is in
    let q = late k p.0 p.1 in
    (q.0, q.1, q.2 ∙ p.2, q.3 ∙ p.3, prefix_twice w.list p.0.list q.0.list p.4 q.4)

-- of a watch at a place to which more is shown
pub sees_changed : (ws : List Watched) (k : ℕ) (w : Watched) (h : List Entry) → slice_get ws k ≡ Some w → IsPrefix w.list h
    → SeesMore ws (change k (showing h) ws)
sees_changed [] k w h is more = λ j u at. absurd (let x : None ≡ Some u = at in cc)
sees_changed (x ∷ ws) zero w h is more = λ j u at. of_place j u at
  where
    of_place : (j : ℕ) (u : Watched) → slice_get (x ∷ ws) j ≡ Some u
        → (v : Watched) × (slice_get (showing h x ∷ ws) j ≡ Some v) × (v.item ≡ u.item) × (v.at ≡ u.at) × IsPrefix u.list v.list
    of_place zero u at =
        let same : x ≡ u = cc in
        let this : x ≡ w = cc in
        let shown : w ≡ u = cc in
        (showing h x, refl, ap (λ (y : Watched). y.item) same, ap (λ (y : Watched). y.at) same, subst (λ (y : Watched). IsPrefix y.list h) shown more)
    of_place (suc j) u at = (u, at, refl, refl, prefix_self u.list)
sees_changed (x ∷ ws) (suc k) w h is more = λ j u at. of_place j u at (sees_changed ws k w h is more)
  where
    of_place : (j : ℕ) (u : Watched) → slice_get (x ∷ ws) j ≡ Some u → SeesMore ws (change k (showing h) ws)
        → (v : Watched) × (slice_get (x ∷ change k (showing h) ws) j ≡ Some v) × (v.item ≡ u.item) × (v.at ≡ u.at) × IsPrefix u.list v.list
    of_place zero u at rest = (u, at, refl, refl, prefix_self u.list)
    of_place (suc j) u at rest = rest j u at

-- and of one watch more
pub sees_appended : (ws : List Watched) (w : Watched) → SeesMore ws (ws ++ w ∷ [])
sees_appended ws w = λ k u is. (u, still ws k u is, refl, refl, prefix_self u.list)
  where
    still : (ws : List Watched) (k : ℕ) (u : Watched) → slice_get ws k ≡ Some u → slice_get (ws ++ w ∷ []) k ≡ Some u
    still [] k u is = absurd (let x : None ≡ Some u = is in cc)
    still (x ∷ ws) zero u is = is
    still (x ∷ ws) (suc k) u is = still ws k u is

-- what is seen of an item then
seen_changed : (P : List Entry → Type 0) (ws : List Watched) (k : ℕ) (w : Watched) (h : List Entry) (n : ℕ) → slice_get ws k ≡ Some w
    → P (seen_of ws n) → (w.item ≡ n → P h) → P (seen_of (change k (showing h) ws) n)
seen_changed P [] k w h n is old new = old
seen_changed P (x ∷ ws) zero w h n is old new = let same : x ≡ w = cc in by_test (x.item == n) refl old (λ e. new (ap (λ (y : Watched). y.item) (sym same) ∙ e))
  where
    by_test : (b : Bool) → (x.item == n) ≡ b → P (cond b x.list (seen_of ws n)) → (x.item ≡ n → P h) → P (cond b h (seen_of ws n))
    by_test true t old new = new (eqb-true x.item n t)
    by_test false t old new = old
seen_changed P (x ∷ ws) (suc k) w h n is old new = by_test (x.item == n) old (λ rest. seen_changed P ws k w h n is rest new)
  where
    by_test : (b : Bool) → P (cond b x.list (seen_of ws n)) → (P (seen_of ws n) → P (seen_of (change k (showing h) ws) n))
        → P (cond b x.list (seen_of (change k (showing h) ws) n))
    by_test true old rest = old
    by_test false old rest = rest old

seen_appended : (P : List Entry → Type 0) (ws : List Watched) (w : Watched) (n : ℕ) → P (seen_of ws n) → (w.item ≡ n → P w.list)
    → P (seen_of (ws ++ w ∷ []) n)
seen_appended P [] w n old new = by_test (w.item == n) refl
  where
    by_test : (b : Bool) → (w.item == n) ≡ b → P (cond b w.list [])
    by_test true t = new (eqb-true w.item n t)
    by_test false t = old
seen_appended P (x ∷ ws) w n old new = by_test (x.item == n) old (λ rest. seen_appended P ws w n rest new)
  where
    by_test : (b : Bool) → P (cond b x.list (seen_of ws n)) → (P (seen_of ws n) → P (seen_of (ws ++ w ∷ []) n))
        → P (cond b x.list (seen_of (ws ++ w ∷ []) n))
    by_test true old rest = old
    by_test false old rest = rest old

fits_of : (config : List ItemDef) (w : Watched) (n : ℕ) → FitsWatch config w → w.item ≡ n → FitsSeen config n w.list
fits_of config w n f e = subst (λ (k : ℕ). FitsSeen config k w.list) e (record { history = f.history; textual = f.textual })

-- more was seen of the item of one watch, and an item is watched
pub keeps_seen_at : (config : List ItemDef) (number : ℕ) (lines : List Told) (ws : List Watched) (s : Session) (k : ℕ) (w : Watched) (h : List Entry)
    → slice_get ws k ≡ Some w → IsPrefix w.list h → FitsWatch config (showing h w) → KeepsTold config number lines ws s
    → KeepsTold config number lines (change k (showing h) ws) s
keeps_seen_at config number lines ws s k w h is more fits kept =
    keeps_sees config number lines ws (change k (showing h) ws) s (sees_changed ws k w h is more)
    (λ n l. seen_changed (FitsSeen config n) ws k w h n is (kept_fit config ws s kept.alone n l) (fits_of config (showing h w) n fits)) kept

pub keeps_watched : (config : List ItemDef) (number : ℕ) (lines : List Told) (ws : List Watched) (s : Session) (w : Watched) → FitsWatch config w
    → KeepsTold config number lines ws s → KeepsTold config number lines (ws ++ w ∷ []) s
keeps_watched config number lines ws s w fits kept =
    keeps_sees config number lines ws (ws ++ w ∷ []) s (sees_appended ws w)
    (λ n l. seen_appended (FitsSeen config n) ws w n (kept_fit config ws s kept.alone n l) (fits_of config w n fits)) kept

-- what is seen of an item that isn't the one of the watch, and of the one that is, where no watch before it is of that item
pub seen_other : (ws : List Watched) (k : ℕ) (w : Watched) (h : List Entry) (n : ℕ) → slice_get ws k ≡ Some w → (w.item ≡ n → ⊥)
    → seen_of (change k (showing h) ws) n ≡ seen_of ws n
seen_other ws k w h n is other = seen_changed (λ (l : List Entry). l ≡ seen_of ws n) ws k w h n is refl (λ e. absurd (other e))

pub seen_first : (ws : List Watched) (k : ℕ) (w : Watched) (h : List Entry) (n : ℕ) → slice_get ws k ≡ Some w → w.item ≡ n
    → ((j : ℕ) (u : Watched) → j < k → slice_get ws j ≡ Some u → u.item ≡ n → ⊥) → seen_of (change k (showing h) ws) n ≡ h
seen_first [] k w h n is item none = absurd (let x : None ≡ Some w = is in cc)
seen_first (x ∷ ws) zero w h n is item none =
    let same : x ≡ w = cc in
    ap (λ (b : Bool). cond b h (seen_of ws n)) (eq-eqb x.item n (ap (λ (y : Watched). y.item) same ∙ item))
seen_first (x ∷ ws) (suc k) w h n is item none =
    ap (λ (b : Bool). cond b x.list (seen_of (change k (showing h) ws) n)) (ne_eqb x.item n (λ e. none zero x (omega arith) refl e))
    ∙ seen_first ws k w h n is item (λ j u less at e. none (suc j) u (omega (arith, less)) at e)

-- of an item that is watched, with more watches
pub seen_still : (ws us : List Watched) (n k : ℕ) (w : Watched) → slice_get ws k ≡ Some w → w.item ≡ n → seen_of (ws ++ us) n ≡ seen_of ws n
seen_still [] us n k w is item = absurd (let x : None ≡ Some w = is in cc)
seen_still (x ∷ ws) us n zero w is item =
    let same : x ≡ w = cc in
    let here : (x.item == n) ≡ true = eq-eqb x.item n (ap (λ (y : Watched). y.item) same ∙ item) in
    ap (λ (b : Bool). cond b x.list (seen_of (ws ++ us) n)) here ∙ sym (ap (λ (b : Bool). cond b x.list (seen_of ws n)) here)
seen_still (x ∷ ws) us n (suc k) w is item = ap (λ (l : List Entry). cond (x.item == n) x.list l) (seen_still ws us n k w is item)
