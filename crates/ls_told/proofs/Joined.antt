-- What is kept of a session is kept by a new subscription, whose slots joined their items.
use Rattle.std.proofs.Common.{◌≡◌, ◌==◌, ◌||◌, ◌≤◌, ℕ, ◌+◌, List, [], ◌∷◌, ◌++◌, length, refl, sym, ◌∙◌, ap, arith, subst, cond, Bool, true, false}
use Rattle.std.proofs.Common.{map, Option, None, Some, is_some}
use Rattle.ls_value.specs.Each.{Each}
use Rattle.ls_value.proofs.Each.{each_append}
use Rattle.ls_record.proofs.Each.{each_map}
use Rattle.ls_event.specs.declared.item.ItemDef.{ItemDef}
use Rattle.ls_request.specs.declared.request.Add.{Add}
use Rattle.ls_record.specs.Acting.{asks_of, ask_of, group_of, places_among, add_refusals, subscribed_on}
use Rattle.ls_record.specs.Cases.{first_code}
use Rattle.ls_record.specs.Cutting.{Ask}
use Rattle.ls_record.specs.Lines.{Line, Begins, Configures, line_text, texts}
use Rattle.ls_record.specs.Records.{Item, LiveSlot, Session, definitions, joined_all, numbered, is_used, is_alive, fields_in, frequency_in, frequency_of, are_filtered}
use Rattle.ls_lawful.specs.Lawful.{LawfulLive}
use Rattle.ls_lawful.proofs.Asked.{asked_is}
use Rattle.ls_lawful.proofs.Legible.{Shown, shown_numbered}
use Rattle.ls_lawful.proofs.OneSession.{KeptAlone, alone_added}
use Rattle.ls_lawful.proofs.Requested.{IsAdd}
use Rattle.ls_subs.proofs.Rounds.{AreSlots, slots_unused, slots_apart, unused_apart, apart_append, used_append, eqb_swap}
use Rattle.ls_subs.specs.Plans.{keys_of_asks}
use Rattle.ls_session.specs.Record.{with_plan}
use Rattle.ls_register.specs.Begun.{BegunSeen}
use Rattle.ls_register.specs.declared.told.Told.{Told}
use Rattle.ls_register.specs.declared.told.Told.TheVariants.{Numbered}
use Rattle.ls_register.specs.declared.told.Numbered.{Numbered as NumberedLine}
use Rattle.ls_told.specs.Spoken.{Spoken}
use Rattle.ls_told.specs.Heard.{hears}
use Rattle.ls_told.specs.Telling.{numbered_of, HasNoSlot, IsPlain, AreOf, AreOpen}
use Rattle.ls_told.specs.Slots.{AreSettled, HasSlots}
use Rattle.ls_told.specs.Joining.{joins_as, AreJoined}
use Rattle.ls_told.specs.Seen.{Watched, items_seen, IsWatched}
use Rattle.ls_told.specs.Keeping.{KeepsTold}
use Rattle.ls_told.proofs.Appended.{heard_one, counts_one, numbered_one, ends_one}
use Rattle.ls_told.proofs.Moves.{spoken_numbered_two}
use Rattle.ls_told.proofs.Watching.{definitions_seen}
use Rattle.ls_told.proofs.Keeps.{no_end}
use Rattle.ls_told.proofs.Settled.{slots_added}

-- slots that joined are of the subscription, and their ranks count on
joined_slots : (items : List Item) (sub rank : ℕ) (asks : List Ask) (vs : List LiveSlot) → AreJoined items sub rank asks vs → AreSlots sub rank vs
joined_slots items sub rank [] [] j = tt
joined_slots items sub rank [] (v ∷ vs) j = absurd j
joined_slots items sub rank (a ∷ asks) [] j = absurd j
joined_slots items sub rank (a ∷ asks) (v ∷ vs) j =
    (ap (λ (x : LiveSlot). x.sub) j.0, ap (λ (x : LiveSlot). x.rank) j.0, joined_slots items sub (rank + 1) asks vs j.1)

joined_used : (items : List Item) (sub rank : ℕ) (asks : List Ask) (vs : List LiveSlot) (q : ℕ) → AreJoined items sub rank asks vs → 1 ≤ length asks
    → (sub == q) ≡ true → is_used q vs ≡ true
joined_used items sub rank [] vs q j some is = absurd (omega (arith, some))
joined_used items sub rank (a ∷ asks) [] q j some is = absurd j
joined_used items sub rank (a ∷ asks) (v ∷ vs) q j some is =
    ap (λ (k : ℕ). (q == k) || is_used q vs) (ap (λ (x : LiveSlot). x.sub) j.0)
    ∙ ap (λ (b : Bool). b || is_used q vs) (eqb_swap q sub ∙ is)

-- what is true of slots whatever their numbers are
renumbered : (P : LiveSlot → Type 0) → ((v : LiveSlot) (n : ℕ) → P v → P (record v { number = n })) → (items : List Item) (sub rank : ℕ) (asks : List Ask)
    (vs : List LiveSlot) → AreJoined items sub rank asks vs → Each P (joined_all items (λ (i : ℕ). 0) sub rank asks) → Each P vs
renumbered P any items sub rank [] [] j e = tt
renumbered P any items sub rank [] (v ∷ vs) j e = absurd j
renumbered P any items sub rank (a ∷ asks) [] j e = absurd j
renumbered P any items sub rank (a ∷ asks) (v ∷ vs) j e = (
  subst P (sym j.0) (any (joins_as items sub rank a 0) v.number e.0),
  renumbered P any items sub (rank + 1) asks vs j.1 e.1,
)

each_behind : (P : LiveSlot → Type 0) (xs ys : List LiveSlot) → Each P (xs ++ ys) → Each P ys
each_behind P [] ys e = e
each_behind P (x ∷ xs) ys e = each_behind P xs ys e.1

each_before : (P : LiveSlot → Type 0) (xs ys : List LiveSlot) → Each P (xs ++ ys) → Each P xs
each_before P [] ys e = tt
each_before P (x ∷ xs) ys e = (e.0, each_before P xs ys e.1)

-- a session with a new subscription by itself
abbrev planned : List ItemDef → Add → List LiveSlot → Session → Session
planned defs a vs s = numbered (with_plan defs a vs) s

alone_planned : (items : List Item) (free : ℕ) (s : Session) (a : Add) (vs : List LiveSlot) → IsAdd a
    → first_code (add_refusals (definitions items) free s a) ≡ None → AreJoined items a.sub 1 (asks_of (definitions items) a) vs → KeptAlone items s
    → KeptAlone items (planned (definitions items) a vs s)
alone_planned items free s a vs add none joined k =
    let asks : List Ask = asks_of (definitions items) a in
    let lines : List Line = (planned (definitions items) a vs s).board.lines in
    let like : KeptAlone items (subscribed_on items (λ (i : ℕ). 0) a s) = alone_added items (λ (i : ℕ). 0) free s a add none k in
    let news : List LiveSlot = joined_all items (λ (i : ℕ). 0) a.sub 1 asks in
    let slots : AreSlots a.sub 1 vs = joined_slots items a.sub 1 asks vs joined in
    record {
      sound = k.sound;
      textual = k.textual;
      session = record {
        board = record {
          apart = apart_append s.board.round vs k.session.board.apart (slots_apart a.sub 1 vs slots)
              (unused_apart a.sub 1 s.board.round vs (asked_is items free s a none).new slots);
          slots = each_append (LawfulLive items lines) s.board.round vs
              (each_before (LawfulLive items lines) s.board.round news like.session.board.slots)
              (renumbered (LawfulLive items lines) (λ v n l. record { declared = l.declared; shape = l.shape; came = l.came }) items a.sub 1 asks vs joined
              (each_behind (LawfulLive items lines) s.board.round news like.session.board.slots));
        };
        sent = like.session.sent;
        given_up = like.session.given_up;
        streams = like.session.streams;
      };
      board = record {
        lines = like.board.lines;
        slots = each_append (Shown lines) s.board.round vs (each_before (Shown lines) s.board.round news like.board.slots)
            (renumbered (Shown lines) (shown_numbered lines) items a.sub 1 asks vs joined
            (each_behind (Shown lines) s.board.round news like.board.slots));
      };
    }

-- what of it is told
pub record Joins (config : List ItemDef) (ws : List Watched) (s : Session) (free : ℕ) (a : Add) (vs : List LiveSlot) (first second : NumberedLine)
    : Type 0 where
  pub add : IsAdd a
  pub none : first_code (add_refusals config free s a) ≡ None
  pub joined : AreJoined (items_seen config ws) a.sub 1 (asks_of config a) vs
  pub watched : Each (λ (v : LiveSlot). IsWatched ws v.item) vs
  pub begins : first.text ≡ line_text [] (Begins a.sub (length (asks_of config a)) (length a.schema) (keys_of_asks config (asks_of config a)))
  pub begins_plain : HasNoSlot first
  pub configures : second.text ≡ line_text [] (Configures a.sub (frequency_of (asks_of config a)) (are_filtered (asks_of config a)))
  pub configures_plain : IsPlain second
  pub alive : is_alive s.life ≡ true
  pub begun : BegunSeen
  pub begun_is : first.begun ≡ Some begun
  pub settled : AreSettled config begun.schema begun.slots vs

alone_joins : (config : List ItemDef) (ws : List Watched) (s : Session) (free : ℕ) (a : Add) (vs : List LiveSlot) (first second : NumberedLine)
    → Joins config ws s free a vs first second → KeptAlone (items_seen config ws) s → KeptAlone (items_seen config ws) (planned config a vs s)
alone_joins config ws s free a vs first second j k =
    subst (λ (defs : List ItemDef). KeptAlone (items_seen config ws) (planned defs a vs s)) (definitions_seen config ws)
    (alone_planned (items_seen config ws) free s a vs j.add
    (subst (λ (defs : List ItemDef). first_code (add_refusals defs free s a) ≡ None) (sym (definitions_seen config ws)) j.none)
    (subst (λ (defs : List ItemDef). AreJoined (items_seen config ws) a.sub 1 (asks_of defs a) vs) (sym (definitions_seen config ws)) j.joined) k)

open_joins : (config : List ItemDef) (ws : List Watched) (s : Session) (free : ℕ) (a : Add) (vs : List LiveSlot) (first second : NumberedLine)
    → Joins config ws s free a vs first second → AreOpen s → AreOpen (planned config a vs s)
open_joins config ws s free a vs first second j subs = λ alive q.
    used_append q s.board.round vs ∙ by_test q (a.sub == q) refl ∙ ap (λ (b : Bool). cond (a.sub == q) true b) (subs alive q)
  where
    some : 1 ≤ length (asks_of config a)
    some = subst (λ (defs : List ItemDef). 1 ≤ length (asks_of defs a)) (definitions_seen config ws)
        (asked_is (items_seen config ws) free s a
        (subst (λ (defs : List ItemDef). first_code (add_refusals defs free s a) ≡ None) (sym (definitions_seen config ws)) j.none)).some

    or_true : (b : Bool) → (b || true) ≡ true
    or_true true = refl
    or_true false = refl

    or_false : (b : Bool) → (b || false) ≡ b
    or_false true = refl
    or_false false = refl

    by_test : (q : ℕ) (b : Bool) → (a.sub == q) ≡ b → (is_used q s.board.round || is_used q vs) ≡ cond b true (is_used q s.board.round)
    by_test q true t =
        ap (λ (b : Bool). is_used q s.board.round || b) (joined_used (items_seen config ws) a.sub 1 (asks_of config a) vs q j.joined some t)
        ∙ or_true (is_used q s.board.round)
    by_test q false t =
        ap (λ (b : Bool). is_used q s.board.round || b)
        (slots_unused a.sub q 1 vs (joined_slots (items_seen config ws) a.sub 1 (asks_of config a) vs j.joined) t)
        ∙ or_false (is_used q s.board.round)

-- all of its slots have one frequency, that of its CONF
asks_alike : (config : List ItemDef) (a : Add) (ns : List ℕ)
    → Each (λ (q : Ask). q.frequency ≡ frequency_in a.mode a.frequency) (map (λ (n : ℕ). ask_of a n (places_among (fields_in config n) a.schema)) ns)
asks_alike config a [] = tt
asks_alike config a (n ∷ ns) = (refl, asks_alike config a ns)

as_first : (o : Option ℕ) (asks : List Ask) → Each (λ (q : Ask). q.frequency ≡ o) asks → Each (λ (q : Ask). q.frequency ≡ frequency_of asks) asks
as_first o [] e = tt
as_first o (a ∷ asks) e =
    each_map (λ (q : Ask). q.frequency ≡ o) (λ (q : Ask). q.frequency ≡ a.frequency) (a ∷ asks) (λ q is. is ∙ sym e.0) e

joined_alike : (items : List Item) (sub rank : ℕ) (o : Option ℕ) (asks : List Ask) (vs : List LiveSlot) → AreJoined items sub rank asks vs
    → Each (λ (q : Ask). q.frequency ≡ o) asks → Each (λ (v : LiveSlot). v.frequency ≡ o) vs
joined_alike items sub rank o asks [] j e = tt
joined_alike items sub rank o [] (v ∷ vs) j e = absurd j
joined_alike items sub rank o (a ∷ asks) (v ∷ vs) j e =
    (ap (λ (x : LiveSlot). x.frequency) j.0 ∙ e.0, joined_alike items sub (rank + 1) o asks vs j.1 e.1)

-- and they are those with which it begins
slots_joins : (config : List ItemDef) (ns : List NumberedLine) (ws : List Watched) (s : Session) (free : ℕ) (a : Add) (vs : List LiveSlot)
    (first second : NumberedLine) → Joins config ws s free a vs first second → HasSlots config ns s
    → HasSlots config (second ∷ first ∷ ns) (planned config a vs s)
slots_joins config ns ws s free a vs first second j h =
    slots_added config ns s a vs j.begun first second
    (record {
      alive = j.alive;
      begun = j.begun_is;
      settled = j.settled;
      slots = joined_slots (items_seen config ws) a.sub 1 (asks_of config a) vs j.joined;
      frequency = joined_alike (items_seen config ws) a.sub 1 (frequency_of (asks_of config a)) (asks_of config a) vs j.joined
          (as_first (frequency_in a.mode a.frequency) (asks_of config a) (asks_alike config a (group_of config a.group)));
      unused = (asked_is (items_seen config ws) free s a
          (subst (λ (defs : List ItemDef). first_code (add_refusals defs free s a) ≡ None) (sym (definitions_seen config ws)) j.none)).new;
    }) h

pub keeps_added : (config : List ItemDef) (number : ℕ) (lines : List Told) (ws : List Watched) (s : Session) (free : ℕ) (a : Add) (vs : List LiveSlot)
    (first second : NumberedLine) → Joins config ws s free a vs first second → KeepsTold config number lines ws s
    → KeepsTold config number ((lines ++ Numbered first ∷ []) ++ Numbered second ∷ []) ws (numbered (with_plan config a vs) s)
keeps_added config number lines ws s free a vs first second j k =
    let once : List Told = lines ++ Numbered first ∷ [] in
    record {
      told = spoken_numbered_two number first second (with_plan config a vs) s all_texts
          ∙ ap (λ (p : Spoken). hears number (hears number p (Numbered first)) (Numbered second)) k.told
          ∙ ap (λ (p : Spoken). hears number p (Numbered second)) (sym (heard_one number lines (Numbered first)))
          ∙ sym (heard_one number once (Numbered second));
      alone = alone_joins config ws s free a vs first second j k.alone;
      none = k.none;
      watched = each_append (λ (v : LiveSlot). IsWatched ws v.item) s.board.round vs k.watched j.watched;
      ends = ends_one number once (Numbered second) (ends_one number lines (Numbered first) k.ends (no_end number lines (Numbered first) (λ tick is. cc)))
          (no_end number once (Numbered second) (λ tick is. cc));
      counts = counts_one once (Numbered second) (counts_one lines (Numbered first) k.counts tt) tt;
      subs = open_joins config ws s free a vs first second j k.subs;
      numbered = subst (λ (ns : List NumberedLine). AreOf ns (planned config a vs s).board.lines)
          (sym (numbered_one once (Numbered second) ∙ ap (λ (ns : List NumberedLine). second ∷ ns) (numbered_one lines (Numbered first))))
          (j.configures_plain, (record { plain = j.begins_plain; begun = ap (λ (o : Option BegunSeen). is_some o) j.begun_is }, k.numbered));
      slots = subst (λ (ns : List NumberedLine). HasSlots config ns (planned config a vs s))
          (sym (numbered_one once (Numbered second) ∙ ap (λ (ns : List NumberedLine). second ∷ ns) (numbered_one lines (Numbered first))))
          (slots_joins config (numbered_of lines) ws s free a vs first second j k.slots);
    }
  where
    all_texts : texts (with_plan config a vs s.board).lines ≡ second.text ∷ first.text ∷ texts s.board.lines
    all_texts =
        ap (λ (t : List ℕ). t ∷ line_text [] (Begins a.sub (length (asks_of config a)) (length a.schema) (keys_of_asks config (asks_of config a)))
        ∷ texts s.board.lines) (sym j.configures)
        ∙ ap (λ (t : List ℕ). second.text ∷ t ∷ texts s.board.lines) (sym j.begins)
