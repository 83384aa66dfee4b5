-- What the end of a subscription, and another frequency of it, make of what is kept of a session in threads.
use Rattle.std.proofs.Common.{◌≡◌, ◌≤◌, ◌<◌, ◌^◌, ℕ, suc, zero, ◌+◌, ◌-◌, List, [], ◌∷◌, ◌++◌, length, refl, sym, ◌∙◌, ap, arith, subst, cond, Bool, true}
use Rattle.std.proofs.Common.{false, Option, Some, None, slice_get, take, drop, inl, inr, ◌⊎◌}
use Rattle.std.specs.Prelude.{unwrap_or}
use Rattle.std.specs.List.{filter, remove}
use Rattle.std.specs.Option.{ForSome}
use Rattle.std.proofs.lemmas.Bool.{cases_lt, eq-eqb, eqb-true, lt-leb}
use Rattle.std.proofs.Math.Nat.{eq-or-lt_of_le}
use Rattle.ls_value.specs.Each.{Each}
use Rattle.ls_value.specs.declared.limits.TheConstants.{GREATEST_NUMBER, GREATEST_TICK}
use Rattle.ls_event.specs.declared.item.ItemDef.{ItemDef}
use Rattle.ls_event.specs.declared.event.Mode.{Mode}
use Rattle.ls_record.proofs.Each.{each_mapped}
use Rattle.ls_record.proofs.Rules.{cond_rule}
use Rattle.ls_record.specs.Lines.{Line, Ends, Configures, line_text, text_at}
use Rattle.ls_record.specs.Records.{LiveSlot, Board, Session, is_alive, is_of, is_used, without, removed, reconfigured, numbered, with_frequency}
use Rattle.ls_record.specs.Records.{frequency_in, mode_in, is_filtered}
use Rattle.ls_record.specs.Acting.{change_code}
use Rattle.ls_lawful.specs.Ranges.{IsOrdinal}
use Rattle.ls_register.specs.declared.told.Told.{Told}
use Rattle.ls_register.specs.declared.told.Numbered.{Numbered as NumberedLine}
use Rattle.ls_session.proofs.Limits.{unsub_short, conf_short}
use Rattle.ls_session.specs.declared.session.Session.{Session as Kept}
use Rattle.ls_session.specs.Record.{Record, begun_again, changing_code, slots_of}
use Rattle.ls_session.specs.Session.{StandsSession}
use Rattle.ls_stream.specs.Standing.{IsShort}
use Rattle.ls_told.specs.Seen.{Watched}
use Rattle.ls_told.specs.Keeping.{KeepsTold}
use Rattle.ls_told.specs.Requests.{plain, is_spent}
use Rattle.ls_told.specs.Telling.{IsPlain}
use Rattle.ls_told.proofs.Appended.{latest_rises}
use Rattle.ls_subs.proofs.Rounds.{without_used}
use Rattle.ls_told.proofs.Keeps.{keeps_removed, keeps_reconfigured}
use Rattle.ls_event.specs.declared.event.Mode.TheVariants as mode
use Rattle.ls_request.specs.declared.request.Op.TheVariants as op
use Rattle.ls_taking.specs.Groups.{SubSeen}
use Rattle.ls_taking.specs.Lives.{LivesAs, HasSeat, NoneBehind}
use Rattle.ls_taking.specs.Taking.{NoneFrom}
use Rattle.ls_parts.specs.Leaving.{Finds, EndsSub, SetsFrequency, HasLast}
use Rattle.ls_parts.proofs.Bounds.{fits_numbered}
use Rattle.ls_parts.proofs.Living.{latest_at}
use Rattle.ls_parts.proofs.Codes.{change_by}

-- what holds of each holds of those that are sorted out
each_filtered : {A : Type 0} (f : A → Bool) (P Q : A → Type 0) (xs : List A) → ((x : A) → f x ≡ true → P x → Q x) → Each P xs → Each Q (filter f xs)
each_filtered f P Q [] h each = tt
each_filtered f P Q (x ∷ xs) h each = by_test (f x) refl (each_filtered f P Q xs h each.1)
  where
    by_test : (b : Bool) → f x ≡ b → Each Q (filter f xs) → Each Q (cond b (x ∷ filter f xs) (filter f xs))
    by_test true is rest = (h x is each.0, rest)
    by_test false is rest = rest

-- a change is found to be refused, or not, by the record
pub finds_delete : (config : List ItemDef) (number : ℕ) (es : List Told) (ws : List Watched) (subs : List SubSeen) (k : Kept) (r : Record) (sub : ℕ)
    → LivesAs config number es ws subs k r
    → Finds config number es ws (op.Delete sub) (cond (is_spent es) (Some (unwrap_or (changing_code r.session sub) 74)) (changing_code r.session sub))
finds_delete config number es ws subs k r sub l = record { session = r.session; told = l.told; code_is = change_by (is_spent es) r.session sub }

pub finds_reconf : (config : List ItemDef) (number : ℕ) (es : List Told) (ws : List Watched) (subs : List SubSeen) (k : Kept) (r : Record) (sub : ℕ)
    (frequency : Option ℕ) → LivesAs config number es ws subs k r
    → Finds config number es ws (op.Reconf sub frequency) (cond (is_spent es) (Some (unwrap_or (changing_code r.session sub) 74)) (changing_code r.session sub))
finds_reconf config number es ws subs k r sub frequency l = record { session = r.session; told = l.told; code_is = change_by (is_spent es) r.session sub }

fresh_is : (es : List Told) → length es < GREATEST_NUMBER → is_spent es ≡ false
fresh_is es low = lt-leb GREATEST_NUMBER (length es) low

pub finds_deleted : (config : List ItemDef) (number : ℕ) (es : List Told) (ws : List Watched) (subs : List SubSeen) (k : Kept) (r : Record) (sub : ℕ)
    (code : Option ℕ) → LivesAs config number es ws subs k r → length es < GREATEST_NUMBER → changing_code r.session sub ≡ code
    → Finds config number es ws (op.Delete sub) code
finds_deleted config number es ws subs k r sub code l low is =
    subst (Finds config number es ws (op.Delete sub))
    (ap (λ b. cond b (Some (unwrap_or (changing_code r.session sub) 74)) (changing_code r.session sub)) (fresh_is es low) ∙ is)
    (finds_delete config number es ws subs k r sub l)

pub finds_reconfed : (config : List ItemDef) (number : ℕ) (es : List Told) (ws : List Watched) (subs : List SubSeen) (k : Kept) (r : Record) (sub : ℕ)
    (frequency : Option ℕ) (code : Option ℕ) → LivesAs config number es ws subs k r → length es < GREATEST_NUMBER → changing_code r.session sub ≡ code
    → Finds config number es ws (op.Reconf sub frequency) code
finds_reconfed config number es ws subs k r sub frequency code l low is =
    subst (Finds config number es ws (op.Reconf sub frequency))
    (ap (λ b. cond b (Some (unwrap_or (changing_code r.session sub) 74)) (changing_code r.session sub)) (fresh_is es low) ∙ is)
    (finds_reconf config number es ws subs k r sub frequency l)

-- a session whose subscription may change hasn't ended
pub change_alive : (s : Session) (sub : ℕ) → changing_code s sub ≡ None → is_alive s.life ≡ true
change_alive s sub none = by_life (is_alive s.life) refl none
  where
    by_life : (b : Bool) → is_alive s.life ≡ b → cond b (change_code s sub) (Some 20) ≡ None → is_alive s.life ≡ true
    by_life true is none = is
    by_life false is none = absurd (let x : Some 20 ≡ None = none in cc)

-- the text of the last line
text_last : (lines : List Line) (l : Line) → text_at (l ∷ lines) (length (l ∷ lines)) ≡ line_text lines l
text_last lines l =
    let same : suc (length lines) ≡ length lines + 1 = omega arith in
    ap (λ b. cond b (line_text lines l) (text_at lines (suc (length lines)))) (eq-eqb (suc (length lines)) (length lines + 1) same)

-- the entry of a line without a slot
abbrev pub plain_line : List ℕ → ℕ → NumberedLine
plain_line text tick = record { text = text; slot = None; before = 0; upto = 0; at = 0; begun = None; tick = tick }

plain_is : (text : List ℕ) (tick : ℕ) → IsPlain (plain_line text tick)
plain_is text tick = record { plain = record { slot = refl; before = refl; upto = refl; at = refl }; begun = refl }

-- a seat of another subscription stays when one ends
pub seated_removed : (config : List ItemDef) (ws : List Watched) (old new : List SubSeen) (sub : ℕ) (vs : List LiveSlot)
    → ((v : LiveSlot) → is_of sub v ≡ false → HasSeat config ws old v → HasSeat config ws new v) → Each (HasSeat config ws old) vs
    → Each (HasSeat config ws new) (without sub vs)
seated_removed config ws old new sub [] keep e = tt
seated_removed config ws old new sub (v ∷ vs) keep e = by_test (is_of sub v) refl (seated_removed config ws old new sub vs keep e.1)
  where
    by_test : (b : Bool) → is_of sub v ≡ b → Each (HasSeat config ws new) (without sub vs)
        → Each (HasSeat config ws new) (cond b (without sub vs) (v ∷ without sub vs))
    by_test true is rest = rest
    by_test false is rest = (keep v is e.0, rest)

-- and all of them stay where one has another frequency
seat_frequency : (config : List ItemDef) (ws : List Watched) (subs : List SubSeen) (sub : ℕ) (frequency : Option ℕ) (v : LiveSlot)
    → HasSeat config ws subs v → HasSeat config ws subs (with_frequency sub frequency v)
seat_frequency config ws subs sub frequency v h =
    cond_rule (HasSeat config ws subs) (is_of sub v) (record v { frequency = frequency }) v
    (λ t. record {
      place = h.place;
      group = h.group;
      seat = h.seat;
      there = h.there;
      named = h.named;
      only = h.only;
      ranked = h.ranked;
      of = record {
        sub = h.of.sub;
        rank = h.of.rank;
        item = h.of.item;
        number = h.of.number;
        shape = h.of.shape;
        at = h.of.at;
        last = h.of.last;
        cursor = h.of.cursor;
        quiet = h.of.quiet;
      };
    }) (λ t. h)

module _ (config : List ItemDef) (number : ℕ) (es : List Told) (ws : List Watched) (subs : List SubSeen) (k : Kept) (r : Record)
    (l : LivesAs config number es ws subs k r) (low : length es < GREATEST_NUMBER) (tick : ℕ) (most : tick ≤ GREATEST_TICK) where
  -- a subscription ends
  pub lives_removed : (sub : ℕ) (subs2 : List SubSeen) (k2 : Kept) → IsOrdinal sub
      → ((v : LiveSlot) → is_of sub v ≡ false → HasSeat config ws subs v → HasSeat config ws subs2 v)
      → StandsSession k2 (begun_again (numbered (removed sub) r.session) r)
      → LivesAs config number (es ++ plain (line_text [] (Ends sub)) tick ∷ []) ws subs2 k2 (begun_again (numbered (removed sub) r.session) r)
  lives_removed sub subs2 k2 ordinal keep stands =
      let e : Told = plain (line_text [] (Ends sub)) tick in
      record {
        stands = stands;
        number_is = l.number_is;
        floor = omega (arith, l.floor, latest_rises es (e ∷ []));
        latest = latest_at es e tick GREATEST_TICK refl l.latest most;
        told = keeps_removed config number es ws r.session sub (plain_line (line_text [] (Ends sub)) tick) ordinal refl
            (plain_is (line_text [] (Ends sub)) tick) l.told;
        seated = seated_removed config ws subs subs2 sub r.session.board.round keep l.seated;
        fits = fits_numbered number es (plain_line (line_text [] (Ends sub)) tick) l.fits low;
      }

  -- one has another frequency
  pub lives_reconfigured : (sub : ℕ) (frequency : Option ℕ) (k2 : Kept) → IsOrdinal sub
      → StandsSession k2 (begun_again (numbered (reconfigured sub frequency) r.session) r)
      → LivesAs config number
      (es ++ plain (line_text [] (Configures sub (frequency_in (mode_in sub r.session.board.round) frequency) (is_filtered (mode_in sub r.session.board.round)))) tick ∷ [])
      ws subs k2 (begun_again (numbered (reconfigured sub frequency) r.session) r)
  lives_reconfigured sub frequency k2 ordinal stands =
      let text : List ℕ = line_text [] (Configures sub (frequency_in (mode_in sub r.session.board.round) frequency) (is_filtered (mode_in sub r.session.board.round))) in
      record {
        stands = stands;
        number_is = l.number_is;
        floor = omega (arith, l.floor, latest_rises es (plain text tick ∷ []));
        latest = latest_at es (plain text tick) tick GREATEST_TICK refl l.latest most;
        told = keeps_reconfigured config number es ws r.session sub frequency (plain_line text tick) ordinal refl (plain_is text tick) l.told;
        seated = each_mapped (HasSeat config ws subs) (HasSeat config ws subs)
            (with_frequency sub (frequency_in (mode_in sub r.session.board.round) frequency)) r.session.board.round
            (λ v h. seat_frequency config ws subs sub (frequency_in (mode_in sub r.session.board.round) frequency) v h) l.seated;
        fits = fits_numbered number es (plain_line text tick) l.fits low;
      }

  -- the last line is the one of the change, and it is kept
  last_is : (f : Board → Board) (line : Line) (text : List ℕ) (k2 : Kept) (subs2 : List SubSeen) (e : Told)
      → (f r.session.board).lines ≡ line ∷ r.session.board.lines → line_text r.session.board.lines line ≡ text → IsShort text
      → is_alive r.session.life ≡ true → LivesAs config number (es ++ e ∷ []) ws subs2 k2 (begun_again (numbered f r.session) r)
      → HasLast k2 text
  last_is f line text k2 subs2 e is said short alive new =
      let lines : List Line = (f r.session.board).lines in
      let more : length lines ≡ length r.session.board.lines + 1 = ap length is ∙ omega arith in
      record {
        of = begun_again (numbered f r.session) r;
        stands = new.stands;
        alive = alive;
        some = omega (arith, new.told.alone.session.given_up, l.told.alone.session.sent, more);
        text_is = subst (λ (ls : List Line). text_at ls (length ls) ≡ text) (sym is) (text_last r.session.board.lines line ∙ said);
        short = short;
      }

  pub last_removed : (sub : ℕ) (k2 : Kept) → IsOrdinal sub → sub < 2 ^ 64 → changing_code r.session sub ≡ None
      → StandsSession k2 (begun_again (numbered (removed sub) r.session) r) → HasLast k2 (line_text [] (Ends sub))
  last_removed sub k2 ordinal small none stands =
      last_is (removed sub) (Ends sub) (line_text [] (Ends sub)) k2 subs (plain (line_text [] (Ends sub)) tick) refl refl (unsub_short sub small)
      (change_alive r.session sub none) (lives_removed sub subs k2 ordinal (λ v is h. h) stands)

  pub last_reconfigured : (sub : ℕ) (frequency : Option ℕ) (k2 : Kept) → IsOrdinal sub → sub < 2 ^ 64 → ForSome frequency (λ f. f < 2 ^ 64)
      → changing_code r.session sub ≡ None → StandsSession k2 (begun_again (numbered (reconfigured sub frequency) r.session) r)
      → HasLast k2 (line_text [] (Configures sub (frequency_in (mode_in sub r.session.board.round) frequency) (is_filtered (mode_in sub r.session.board.round))))
  last_reconfigured sub frequency k2 ordinal small range none stands =
      let m : Mode = mode_in sub r.session.board.round in
      last_is (reconfigured sub frequency) (Configures sub (frequency_in m frequency) (is_filtered m))
      (line_text [] (Configures sub (frequency_in m frequency) (is_filtered m))) k2 subs
      (plain (line_text [] (Configures sub (frequency_in m frequency) (is_filtered m))) tick) refl refl
      (conf_short sub (frequency_in m frequency) (is_filtered m) small (in_mode m))
      (change_alive r.session sub none) (lives_reconfigured sub frequency k2 ordinal stands)
    where
      in_mode : (m : Mode) → ForSome (frequency_in m frequency) (λ f. f < 2 ^ 64)
      in_mode mode.Raw = λ x e. absurd (let y : None ≡ Some x = e in cc)
      in_mode mode.Merge = range
      in_mode mode.Distinct = range
      in_mode mode.Command = range

  -- what the end of a subscription makes of the history
  slots_filtered : (sub : ℕ) (vs : List LiveSlot) → length (slots_of sub vs) ≡ length (filter (is_of sub) vs)
  slots_filtered sub [] = refl
  slots_filtered sub (v ∷ vs) = by_test (is_of sub v) (slots_filtered sub vs)
    where
      by_test : (b : Bool) → length (slots_of sub vs) ≡ length (filter (is_of sub) vs)
          → length (cond b (v ∷ slots_of sub vs) (slots_of sub vs)) ≡ length (cond b (v ∷ filter (is_of sub) vs) (filter (is_of sub) vs))
      by_test true e = ap suc e
      by_test false e = e

  pub ends_removed : (sub slots : ℕ) (es2 : List Told) (left : List SubSeen) (k2 : Kept) → IsOrdinal sub
      → slots ≡ length (slots_of sub r.session.board.round)
      → es2 ≡ es ++ plain (line_text [] (Ends sub)) tick ∷ []
      → ((v : LiveSlot) → is_of sub v ≡ true → HasSeat config ws subs v → HasSeat config ws left v)
      → StandsSession k2 (begun_again (numbered (removed sub) r.session) r) → EndsSub config number sub tick es es2 ws slots left
  ends_removed sub slots es2 left k2 ordinal count lines taken stands =
      record {
        lines = lines;
        earlier = r.session;
        was = l.told;
        session = numbered (removed sub) r.session;
        told = subst (λ (h : List Told). KeepsTold config number h ws (numbered (removed sub) r.session)) (sym lines)
            (lives_removed sub subs k2 ordinal (λ v is h. h) stands).told;
        gone = without_used sub sub r.session.board.round
            ∙ ap (λ (b : Bool). cond b false (is_used sub r.session.board.round)) (eq-eqb sub sub refl);
        count = count ∙ slots_filtered sub r.session.board.round;
        seats = each_filtered (is_of sub) (HasSeat config ws subs) (HasSeat config ws left) r.session.board.round taken l.seated;
      }

  pub sets_reconfigured : (sub : ℕ) (frequency : Option ℕ) (es2 : List Told)
      → es2 ≡ es ++ plain (line_text [] (Configures sub (frequency_in (mode_in sub r.session.board.round) frequency) (is_filtered (mode_in sub r.session.board.round)))) tick ∷ []
      → SetsFrequency config number sub frequency tick es es2 ws
  sets_reconfigured sub frequency es2 lines = record { earlier = r.session; was = l.told; lines = lines }

-- a seat of another subscription stays where one subscription's are taken out
take_drop : (xs : List SubSeen) (i k : ℕ) (g : SubSeen) → k < i → slice_get xs k ≡ Some g → slice_get (take i xs ++ drop (suc i) xs) k ≡ Some g
take_drop [] i k g low is = absurd (let x : None ≡ Some g = is in cc)
take_drop (x ∷ xs) zero k g low is = absurd (omega (arith, low))
take_drop (x ∷ xs) (suc i) zero g low is = is
take_drop (x ∷ xs) (suc i) (suc k) g low is = take_drop xs i k g (omega (arith, low)) is

take_drop_behind : (xs : List SubSeen) (i k : ℕ) (g : SubSeen) → i < suc k → slice_get xs (suc k) ≡ Some g
    → slice_get (take i xs ++ drop (suc i) xs) k ≡ Some g
take_drop_behind [] i k g low is = absurd (let x : None ≡ Some g = is in cc)
take_drop_behind (x ∷ xs) zero k g low is = is
take_drop_behind (x ∷ xs) (suc i) zero g low is = absurd (omega (arith, low))
take_drop_behind (x ∷ xs) (suc i) (suc k) g low is = take_drop_behind xs i k g (omega (arith, low)) is

came_from : (xs : List SubSeen) (i j : ℕ) (g : SubSeen) → slice_get (take i xs ++ drop (suc i) xs) j ≡ Some g
    → ((j < i) × (slice_get xs j ≡ Some g)) ⊎ ((i ≤ j) × (slice_get xs (suc j) ≡ Some g))
came_from [] zero j g is = absurd (let x : None ≡ Some g = is in cc)
came_from [] (suc i) j g is = absurd (let x : None ≡ Some g = is in cc)
came_from (x ∷ xs) zero j g is = inr (omega arith, is)
came_from (x ∷ xs) (suc i) zero g is = inl (omega arith, is)
came_from (x ∷ xs) (suc i) (suc j) g is = up (came_from xs i j g is)
  where
    up : ((j < i) × (slice_get xs j ≡ Some g)) ⊎ ((i ≤ j) × (slice_get xs (suc j) ≡ Some g))
        → ((suc j < suc i) × (slice_get xs j ≡ Some g)) ⊎ ((suc i ≤ suc j) × (slice_get xs (suc j) ≡ Some g))
    up (inl a) = inl (omega (arith, a.0), a.1)
    up (inr a) = inr (omega (arith, a.0), a.1)

order : (a b : ℕ) → (a < b) ⊎ ((a ≡ b) ⊎ (b < a))
order zero zero = inr (inl refl)
order zero (suc b) = inl (omega arith)
order (suc a) zero = inr (inr (omega arith))
order (suc a) (suc b) = up (order a b)
  where
    up : (a < b) ⊎ ((a ≡ b) ⊎ (b < a)) → (suc a < suc b) ⊎ ((suc a ≡ suc b) ⊎ (suc b < suc a))
    up (inl l) = inl (omega (arith, l))
    up (inr (inl e)) = inr (inl (ap suc e))
    up (inr (inr l)) = inr (inr (omega (arith, l)))

pub has_seat_removed : (config : List ItemDef) (ws : List Watched) (xs : List SubSeen) (i : ℕ) (g : SubSeen) (sub : ℕ) (v : LiveSlot)
    → slice_get xs i ≡ Some g → g.sub ≡ sub → is_of sub v ≡ false → HasSeat config ws xs v → HasSeat config ws (remove xs i) v
has_seat_removed config ws xs i g sub v is named other h = by_side (order h.place i)
  where
    at_place : (k : ℕ) → slice_get (remove xs i) k ≡ Some h.group → NoneBehind (remove xs i) k v.sub → HasSeat config ws (remove xs i) v
    at_place k there only =
        record { place = k; group = h.group; seat = h.seat; there = there; named = h.named; only = only; ranked = h.ranked; of = h.of }

    low_only : h.place < i → NoneBehind (remove xs i) h.place v.sub
    low_only low = λ j u less at one. by_origin j u less one (came_from xs i j u at)
      where
        by_origin : (j : ℕ) (u : SubSeen) → h.place < j → u.sub ≡ v.sub
            → ((j < i) × (slice_get xs j ≡ Some u)) ⊎ ((i ≤ j) × (slice_get xs (suc j) ≡ Some u)) → ⊥
        by_origin j u less one (inl a) = h.only j u less a.1 one
        by_origin j u less one (inr a) = h.only (suc j) u (omega (arith, less)) a.1 one

    high_only : (k : ℕ) → i < suc k → h.place ≡ suc k → NoneBehind (remove xs i) k v.sub
    high_only k high here = λ j u less at one. by_origin j u less one (came_from xs i j u at)
      where
        by_origin : (j : ℕ) (u : SubSeen) → k < j → u.sub ≡ v.sub
            → ((j < i) × (slice_get xs j ≡ Some u)) ⊎ ((i ≤ j) × (slice_get xs (suc j) ≡ Some u)) → ⊥
        by_origin j u less one (inl a) = omega (arith, less, high, a.0)
        by_origin j u less one (inr a) = h.only (suc j) u (omega (arith, less, here)) a.1 one

    before_it : (k : ℕ) → h.place ≡ k → i < k → slice_get xs k ≡ Some h.group → HasSeat config ws (remove xs i) v
    before_it zero here low there = absurd (omega (arith, low))
    before_it (suc k) here low there = at_place k (take_drop_behind xs i k h.group low there) (high_only k low here)

    same_sub : h.place ≡ i → ⊥
    same_sub e =
        let x : Some g ≡ Some h.group = sym is ∙ (ap (λ (n : ℕ). slice_get xs n) (sym e) ∙ h.there) in
        let same : g ≡ h.group = cc in
        let one : sub ≡ v.sub = sym named ∙ (ap (λ (y : SubSeen). y.sub) same ∙ h.named) in
        let t : true ≡ false = sym (eq-eqb sub v.sub one) ∙ other in
        cc

    by_side : (h.place < i) ⊎ ((h.place ≡ i) ⊎ (i < h.place)) → HasSeat config ws (remove xs i) v
    by_side (inl low) = at_place h.place (take_drop xs i h.place h.group low h.there) (low_only low)
    by_side (inr (inl e)) = absurd (same_sub e)
    by_side (inr (inr high)) = before_it h.place refl high h.there

-- the seats of a subscription, which are the last ones, stand alone among those that were taken out
pub has_seat_taken : (config : List ItemDef) (ws : List Watched) (xs : List SubSeen) (k : ℕ) (g : SubSeen) (sub : ℕ) (v : LiveSlot)
    → slice_get xs k ≡ Some g → g.sub ≡ sub → NoneBehind xs k sub → is_of sub v ≡ true → HasSeat config ws xs v → HasSeat config ws (g ∷ []) v
has_seat_taken config ws xs k g sub v there named last of h =
    record {
      place = 0;
      group = g;
      seat = h.seat;
      there = refl;
      named = named ∙ own;
      only = λ j other behind is same. alone j other behind is;
      ranked = subst (λ (x : SubSeen). slice_get x.seats (v.rank - 1) ≡ Some h.seat) one h.ranked;
      of = h.of;
    }
  where
    own : sub ≡ v.sub
    own = eqb-true sub v.sub of

    not_behind : k < h.place → ⊥
    not_behind low = last h.place h.group low h.there (h.named ∙ sym own)

    not_before : h.place < k → ⊥
    not_before low = h.only k g low there (named ∙ own)

    same_place : (k < h.place) ⊎ (h.place ≤ k) → h.place ≡ k
    same_place (inl low) = absurd (not_behind low)
    same_place (inr high) = by_other (eq-or-lt_of_le high)
      where
        by_other : (h.place ≡ k) ⊎ (h.place < k) → h.place ≡ k
        by_other (inl is) = is
        by_other (inr low) = absurd (not_before low)

    one : h.group ≡ g
    one =
        let x : Some h.group ≡ Some g = sym h.there ∙ (ap (slice_get xs) (same_place (cases_lt k h.place)) ∙ there) in
        cc

    alone : (j : ℕ) (other : SubSeen) → 0 < j → slice_get (g ∷ []) j ≡ Some other → ⊥
    alone zero other low is = omega (arith, low)
    alone (suc j) other low is = let x : None ≡ Some other = is in cc

-- where it has none, none of its slots has one
pub has_no_seat : (config : List ItemDef) (ws : List Watched) (xs : List SubSeen) (sub : ℕ) (v : LiveSlot) → NoneFrom xs 0 sub → is_of sub v ≡ true
    → HasSeat config ws xs v → ⊥
has_no_seat config ws xs sub v none of h = none h.place h.group (omega arith) h.there (h.named ∙ sym (eqb-true sub v.sub of))
