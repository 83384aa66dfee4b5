-- What is kept of a session is kept by each of its steps, with the entry that it appends to the history.
use Rattle.std.proofs.Common.{◌≡◌, ◌==◌, ◌≤◌, ℕ, suc, ◌+◌, List, [], ◌∷◌, ◌++◌, length, take, drop, refl, sym, ◌∙◌, ap, arith, subst, cond}
use Rattle.std.proofs.Common.{Bool, true, false, Option, Some, None, slice_get, is_some}
use Rattle.std.specs.Prelude.{unwrap_or}
use Rattle.ls_value.specs.Each.{Each}
use Rattle.ls_value.proofs.Each.{each_append}
use Rattle.ls_event.specs.declared.event.Taken.{Taken}
use Rattle.ls_event.specs.declared.item.ItemDef.{ItemDef}
use Rattle.ls_event.specs.Cuts.{cut}
use Rattle.ls_event.specs.Slots.{Slot, passed}
use Rattle.ls_mirror.specs.Client.{What}
use Rattle.ls_request.specs.declared.request.Bind.{Bind}
use Rattle.ls_record.specs.Acting.{bind_code}
use Rattle.ls_record.specs.Came.{came_by}
use Rattle.ls_record.specs.Cutting.{what_of_cut}
use Rattle.ls_record.specs.Lines.{Line, Ends, Configures, Tells, came, line_text, texts}
use Rattle.ls_record.specs.Records.{LiveSlot, Session, history_of, on_board, numbered, opened, rebound}
use Rattle.ls_record.specs.Records.{unbound_at, forced, constrained, ended, timed_out, is_of, removed, reconfigured}
use Rattle.ls_record.specs.Records.{with_frequency, frequency_in, mode_in, is_filtered, is_alive, is_used}
use Rattle.ls_subs.proofs.Rounds.{without_used}
use Rattle.ls_record.specs.declared.TheConstants.{MOST_UNBOUND}
use Rattle.ls_record.proofs.Each.{each_mapped, each_at, each_take, each_drop, each_changed}
use Rattle.ls_record.proofs.Rules.{cond_rule}
use Rattle.ls_lawful.specs.Ranges.{IsOrdinal}
use Rattle.ls_lawful.proofs.Frame.{without_each}
use Rattle.ls_lawful.proofs.Heard.{HasNoOutcome}
use Rattle.ls_lawful.proofs.Modes.{passed_plan}
use Rattle.ls_lawful.proofs.SmallSteps.{moved_at, told_at, with_slot}
use Rattle.ls_lawful.proofs.OneSession.{KeptAlone, alone_opened, alone_rebound, alone_unbound, alone_forced, alone_constrained}
use Rattle.ls_lawful.proofs.OneSession.{alone_ended, alone_caught_up, alone_silent, alone_told, alone_removed, alone_reconfigured}
use Rattle.ls_register.specs.declared.told.Told.{Told}
use Rattle.ls_register.specs.declared.told.Told.TheVariants.{Numbered, Gave, Bound, Rate, Rebind, Unbound, Ended}
use Rattle.ls_register.specs.declared.told.Numbered.{Numbered as NumberedLine}
use Rattle.ls_told.specs.Spoken.{Spoken, spoken_of, GivesNothing, next_of, giving, Next}
use Rattle.ls_told.specs.Heard.{hears, epoch_of, CountsOne}
use Rattle.ls_told.specs.Telling.{numbered_or, numbered_of, TellsOf, IsPlain, AreOf, is_open, AreOpen}
use Rattle.ls_told.specs.Slots.{HasSlots}
use Rattle.ls_told.specs.Seen.{Watched, seen_of, items_seen, IsWatched, IsDeclared}
use Rattle.ls_told.specs.Keeping.{KeepsTold}
use Rattle.ls_told.proofs.Appended.{heard_one, counts_one, numbered_one, InTime, ends_one}
use Rattle.ls_told.proofs.Used.{used_changed, used_mapped, used_back}
use Rattle.ls_told.proofs.Moves.{spoken_bound, spoken_constrained, spoken_numbered}
use Rattle.ls_told.proofs.Watching.{history_seen, length_seen, sound_seen, textual_seen}
use Rattle.ls_told.proofs.Facts.{epoch_is}
use Rattle.ls_told.proofs.Settled.{slots_opened, slots_ended, slots_same, slots_moved, slots_line, slots_removed, slots_reconfigured}

-- the items of a session's slots are watched
abbrev pub AreWatched : List Watched → Session → Type 0
AreWatched ws s = Each (λ (v : LiveSlot). IsWatched ws v.item) s.board.round

-- a session after a step, of which one entry more tells
pub record Steps (config : List ItemDef) (number : ℕ) (lines : List Told) (ws : List Watched) (s t : Session) (e : Told) : Type 0 where
  pub spoken : spoken_of t ≡ hears number (spoken_of s) e
  pub alone : KeptAlone (items_seen config ws) t
  pub none : HasNoOutcome t.board.lines
  pub watched : AreWatched ws t
  pub ends : InTime number lines e
  pub counts : CountsOne (epoch_of lines) e
  pub subs : AreOpen t
  pub numbered : AreOf (numbered_or (numbered_of lines) e) t.board.lines
  pub slots : HasSlots config (numbered_or (numbered_of lines) e) t

pub keeps_step : (config : List ItemDef) (number : ℕ) (lines : List Told) (ws : List Watched) (s t : Session) (e : Told)
    → Steps config number lines ws s t e → KeepsTold config number lines ws s → KeepsTold config number (lines ++ e ∷ []) ws t
keeps_step config number lines ws s t e step k =
    record {
      told = step.spoken ∙ ap (λ (p : Spoken). hears number p e) k.told ∙ sym (heard_one number lines e);
      alone = step.alone;
      none = step.none;
      watched = step.watched;
      ends = ends_one number lines e k.ends step.ends;
      counts = counts_one lines e k.counts step.counts;
      subs = step.subs;
      numbered = subst (λ (ns : List NumberedLine). AreOf ns t.board.lines) (sym (numbered_one lines e)) step.numbered;
      slots = subst (λ (ns : List NumberedLine). HasSlots config ns t) (sym (numbered_one lines e)) step.slots;
    }

-- entries that are no end
pub no_end : (number : ℕ) (lines : List Told) (e : Told) → ((tick : ℕ) → e ≡ Ended timed_out tick → ⊥) → InTime number lines e
no_end number lines e other = λ tick is. absurd (other tick is)

-- it begins
pub keeps_opened : (config : List ItemDef) (number keepalive now : ℕ) (limit content : Option ℕ) → Each IsDeclared config
    → KeepsTold config number (Rate limit now ∷ Bound 1 0 false keepalive content ∷ []) [] (opened number keepalive limit content)
keeps_opened config number keepalive now limit content declared =
    record {
      told = refl;
      alone = alone_opened (items_seen config []) number keepalive limit content
          (sound_seen config [] declared (λ n l. record { history = record { few = omega arith; each = tt }; textual = tt }))
          (textual_seen config [] (λ n l. record { history = record { few = omega arith; each = tt }; textual = tt }));
      none = tt;
      watched = tt;
      ends = λ before after tick is. absurd (nowhere before after tick is);
      counts = (tt, (omega arith, tt));
      subs = λ alive sub. refl;
      numbered = tt;
      slots = slots_opened config number keepalive limit content;
    }
  where
    nowhere : (before after : List Told) (tick : ℕ)
        → Rate limit now ∷ Bound 1 0 false keepalive content ∷ [] ≡ before ++ Ended timed_out tick ∷ after → ⊥
    nowhere [] after tick is = cc
    nowhere (a ∷ []) after tick is = cc
    nowhere (a ∷ b ∷ []) after tick is = cc
    nowhere (a ∷ b ∷ c ∷ before) after tick is = cc

-- another stream of it is bound, behind the count that its client tells, or behind the line given last
pub keeps_bound : (config : List ItemDef) (number : ℕ) (lines : List Told) (ws : List Watched) (s : Session) (b : Bind) (epoch : ℕ)
    → bind_code s b ≡ None → epoch ≡ length s.streams + 1 → KeepsTold config number lines ws s
    → KeepsTold config number (lines ++ Bound epoch (unwrap_or b.recover s.sent) (is_some b.recover) b.keepalive b.length ∷ []) ws (rebound number b s)
keeps_bound config number lines ws s b epoch may next k =
    keeps_step config number lines ws s (rebound number b s) (Bound epoch (unwrap_or b.recover s.sent) (is_some b.recover) b.keepalive b.length)
    (record {
      spoken = spoken_bound number epoch b s;
      alone = alone_rebound (items_seen config ws) number s b may k.alone;
      none = k.none;
      watched = k.watched;
      ends = no_end number lines _ (λ tick is. cc);
      counts = next ∙ ap (λ n. n + 1) (epoch_is config number lines ws s k);
      subs = k.subs;
      numbered = k.numbered;
      slots = slots_same config (numbered_of lines) s (rebound number b s) refl refl k.slots;
    }) k

-- its stream is lost, and forced to be over
pub keeps_unbound : (config : List ItemDef) (number : ℕ) (lines : List Told) (ws : List Watched) (s : Session) (tick : ℕ)
    → KeepsTold config number lines ws s → KeepsTold config number (lines ++ Unbound tick ∷ []) ws (unbound_at tick s)
keeps_unbound config number lines ws s tick k =
    keeps_step config number lines ws s (unbound_at tick s) (Unbound tick)
    (record {
      spoken = refl;
      alone = alone_unbound (items_seen config ws) tick s k.alone;
      none = k.none;
      watched = k.watched;
      ends = no_end number lines (Unbound tick) (λ tick is. cc);
      counts = tt;
      subs = k.subs;
      numbered = k.numbered;
      slots = slots_same config (numbered_of lines) s (unbound_at tick s) refl refl k.slots;
    }) k

pub keeps_forced : (config : List ItemDef) (number : ℕ) (lines : List Told) (ws : List Watched) (s : Session) → KeepsTold config number lines ws s
    → KeepsTold config number (lines ++ Rebind ∷ []) ws (forced s)
keeps_forced config number lines ws s k =
    keeps_step config number lines ws s (forced s) Rebind
    (record {
      spoken = refl;
      alone = alone_forced (items_seen config ws) s k.alone;
      none = k.none;
      watched = k.watched;
      ends = no_end number lines Rebind (λ tick is. cc);
      counts = tt;
      subs = k.subs;
      numbered = k.numbered;
      slots = slots_same config (numbered_of lines) s (forced s) refl refl k.slots;
    }) k

-- it has another bandwidth, and it ends
pub keeps_constrained : (config : List ItemDef) (number : ℕ) (lines : List Told) (ws : List Watched) (s : Session) (limit : Option ℕ) (tick : ℕ)
    → KeepsTold config number lines ws s → KeepsTold config number (lines ++ Rate limit tick ∷ []) ws (constrained limit s)
keeps_constrained config number lines ws s limit tick k =
    keeps_step config number lines ws s (constrained limit s) (Rate limit tick)
    (record {
      spoken = spoken_constrained number limit tick s;
      alone = alone_constrained (items_seen config ws) limit s k.alone;
      none = k.none;
      watched = k.watched;
      ends = no_end number lines (Rate limit tick) (λ tick is. cc);
      counts = tt;
      subs = k.subs;
      numbered = k.numbered;
      slots = slots_same config (numbered_of lines) s (constrained limit s) refl refl k.slots;
    }) k

pub keeps_ended : (config : List ItemDef) (number : ℕ) (lines : List Told) (ws : List Watched) (s : Session) (code tick : ℕ)
    → (code ≡ timed_out → (since : ℕ) × (s.unbound ≡ Some since) × (since + MOST_UNBOUND ≤ tick)) → KeepsTold config number lines ws s
    → KeepsTold config number (lines ++ Ended code tick ∷ []) ws (ended code s)
keeps_ended config number lines ws s code tick late k =
    keeps_step config number lines ws s (ended code s) (Ended code tick)
    (record {
      spoken = refl;
      alone = alone_ended (items_seen config ws) code s k.alone;
      none = k.none;
      watched = tt;
      ends = λ at is.
          let same : code ≡ timed_out = cc in
          let then : tick ≡ at = cc in
          let l = late same in
          (l.0, sym (ap (λ (p : Spoken). p.unbound) k.told) ∙ l.1, omega (arith, l.2, then));
      counts = tt;
      subs = λ alive. absurd (let x : false ≡ true = alive in cc);
      numbered = k.numbered;
      slots = slots_ended config (numbered_of lines) code s;
    }) k

-- a PROBE is given where nothing else is to be
pub keeps_probe : (config : List ItemDef) (number : ℕ) (lines : List Told) (ws : List Watched) (s : Session) (epoch tick : ℕ) (text : List ℕ)
    → next_of (spoken_of s) ≡ GivesNothing → KeepsTold config number lines ws s → KeepsTold config number (lines ++ Gave epoch text tick ∷ []) ws s
keeps_probe config number lines ws s epoch tick text none k =
    keeps_step config number lines ws s s (Gave epoch text tick)
    (record {
      spoken = sym (ap (λ (n : Next). giving tick n (spoken_of s)) none);
      alone = k.alone;
      none = k.none;
      watched = k.watched;
      ends = no_end number lines (Gave epoch text tick) (λ at is. cc);
      counts = tt;
      subs = k.subs;
      numbered = k.numbered;
      slots = k.slots;
    }) k

-- slots move, of which no entry tells
pub record MovesSlots (config : List ItemDef) (ws : List Watched) (s t : Session) : Type 0 where
  pub spoken : spoken_of t ≡ spoken_of s
  pub alone : KeptAlone (items_seen config ws) t
  pub lines : t.board.lines ≡ s.board.lines
  pub life : t.life ≡ s.life
  pub used : (sub : ℕ) → is_used sub t.board.round ≡ is_used sub s.board.round
  pub watched : AreWatched ws t
  pub slots : (ns : List NumberedLine) → HasSlots config ns s → HasSlots config ns t

pub keeps_moved : (config : List ItemDef) (number : ℕ) (lines : List Told) (ws : List Watched) (s t : Session) → MovesSlots config ws s t
    → KeepsTold config number lines ws s → KeepsTold config number lines ws t
keeps_moved config number lines ws s t moves k =
    record {
      told = moves.spoken ∙ k.told;
      alone = moves.alone;
      none = subst (λ (ls : List Line). HasNoOutcome ls) (sym moves.lines) k.none;
      watched = moves.watched;
      ends = k.ends;
      counts = k.counts;
      subs = λ alive sub.
          moves.used sub ∙ k.subs (ap is_alive (sym moves.life) ∙ alive) sub ∙ ap (is_open sub) (sym moves.lines);
      numbered = subst (λ (ls : List Line). AreOf (numbered_of lines) ls) (sym moves.lines) k.numbered;
      slots = moves.slots (numbered_of lines) k.slots;
    }

-- a slot's item is declared, and its history is what was seen of it
pub slot_seen : (config : List ItemDef) (number : ℕ) (lines : List Told) (ws : List Watched) (s : Session) (n : ℕ) (v : LiveSlot)
    → slice_get s.board.round n ≡ Some v → KeepsTold config number lines ws s → history_of (items_seen config ws) v.item ≡ seen_of ws v.item
slot_seen config number lines ws s n v is k =
    let live = each_at _ n v s.board.round is k.alone.session.board.slots in
    history_seen config ws v.item (omega (arith, live.declared, length_seen config ws))

-- a slot enqueued events up to a number
pub keeps_caught_up : (config : List ItemDef) (number : ℕ) (lines : List Told) (ws : List Watched) (s : Session) (n m : ℕ) (v : LiveSlot)
    → slice_get s.board.round n ≡ Some v → v.slot.last ≤ m → m ≤ length (seen_of ws v.item) → KeepsTold config number lines ws s
    → KeepsTold config number lines ws (on_board (moved_at n (λ (x : Slot). record x { last = m })) s)
keeps_caught_up config number lines ws s n m v is low high k =
    keeps_moved config number lines ws s (on_board (moved_at n (λ (x : Slot). record x { last = m })) s)
    (record {
      spoken = refl;
      alone = alone_caught_up (items_seen config ws) n m v s is low
          (omega (arith, high, ap length (slot_seen config number lines ws s n v is k))) k.alone;
      lines = refl;
      life = refl;
      used = λ sub. used_changed (with_slot (λ (x : Slot). record x { last = m })) (λ u. refl) n s.board.round sub;
      watched = each_changed (λ (u : LiveSlot). IsWatched ws u.item) n (with_slot (λ (x : Slot). record x { last = m })) v s.board.round is
          (λ w. w) k.watched;
      slots = λ ns h. slots_moved config ns s n (λ (x : Slot). record x { last = m }) v is refl h;
    }) k

-- a slot passed a cut that makes no line, and one that makes one
pub keeps_passed : (config : List ItemDef) (number : ℕ) (lines : List Told) (ws : List Watched) (s : Session) (n : ℕ) (v : LiveSlot) (t : Taken)
    → slice_get s.board.round n ≡ Some v → cut (seen_of ws v.item) v.slot ≡ Some t
    → what_of_cut v.wanted v.slot (came v.sub v.rank s.board.lines) t ≡ None → KeepsTold config number lines ws s
    → KeepsTold config number lines ws (on_board (moved_at n (λ (x : Slot). passed x t)) s)
keeps_passed config number lines ws s n v t is cuts silent k =
    keeps_moved config number lines ws s (on_board (moved_at n (λ (x : Slot). passed x t)) s)
    (record {
      spoken = refl;
      alone = alone_silent (items_seen config ws) n v t s is
          (ap (λ h. cut h v.slot) (slot_seen config number lines ws s n v is k) ∙ cuts) silent k.alone;
      lines = refl;
      life = refl;
      used = λ sub. used_changed (with_slot (λ (x : Slot). passed x t)) (λ u. refl) n s.board.round sub;
      watched = each_changed (λ (u : LiveSlot). IsWatched ws u.item) n (with_slot (λ (x : Slot). passed x t)) v s.board.round is (λ w. w) k.watched;
      slots = λ ns h. slots_moved config ns s n (λ (x : Slot). passed x t) v is (passed_plan v.slot t) h;
    }) k

pub keeps_line : (config : List ItemDef) (number : ℕ) (lines : List Told) (ws : List Watched) (s : Session) (now n : ℕ) (v : LiveSlot) (t : Taken)
    (what : What) (line : NumberedLine) → slice_get s.board.round n ≡ Some v → cut (seen_of ws v.item) v.slot ≡ Some t
    → what_of_cut v.wanted v.slot (came v.sub v.rank s.board.lines) t ≡ Some what
    → line.text ≡ line_text s.board.lines (Tells v.sub v.rank now (came_by v.slot t what)) → TellsOf line v.sub v.rank now (came_by v.slot t what)
    → KeepsTold config number lines ws s → KeepsTold config number (lines ++ Numbered line ∷ []) ws (numbered (told_at now n v t what) s)
keeps_line config number lines ws s now n v t what line is cuts tells text of k =
    keeps_step config number lines ws s (numbered (told_at now n v t what) s) (Numbered line)
    (record {
      spoken = spoken_numbered number line (told_at now n v t what) s (ap (λ (x : List ℕ). x ∷ texts s.board.lines) (sym text));
      alone = alone_told (items_seen config ws) now n v t what s is
          (ap (λ h. cut h v.slot) (slot_seen config number lines ws s n v is k) ∙ cuts) tells k.alone;
      none = k.none;
      watched = each_append (λ (u : LiveSlot). IsWatched ws u.item) (take n s.board.round ++ drop (suc n) s.board.round) _
          (each_append (λ (u : LiveSlot). IsWatched ws u.item) (take n s.board.round) (drop (suc n) s.board.round)
          (each_take (λ (u : LiveSlot). IsWatched ws u.item) n s.board.round k.watched)
          (each_drop (λ (u : LiveSlot). IsWatched ws u.item) (suc n) s.board.round k.watched))
          (each_at (λ (u : LiveSlot). IsWatched ws u.item) n v s.board.round is k.watched, tt);
      ends = no_end number lines (Numbered line) (λ tick is. cc);
      counts = tt;
      subs = λ alive sub. used_back sub n s.board.round v (record v { slot = passed v.slot t }) is refl ∙ k.subs alive sub;
      numbered = (of, k.numbered);
      slots = slots_line config (numbered_of lines) s now n v t what line is k.slots;
    }) k

-- a subscription ends, and has another frequency
pub keeps_removed : (config : List ItemDef) (number : ℕ) (lines : List Told) (ws : List Watched) (s : Session) (sub : ℕ) (line : NumberedLine)
    → IsOrdinal sub → line.text ≡ line_text [] (Ends sub) → IsPlain line → KeepsTold config number lines ws s
    → KeepsTold config number (lines ++ Numbered line ∷ []) ws (numbered (removed sub) s)
keeps_removed config number lines ws s sub line is text plain k =
    keeps_step config number lines ws s (numbered (removed sub) s) (Numbered line)
    (record {
      spoken = spoken_numbered number line (removed sub) s (ap (λ (x : List ℕ). x ∷ texts s.board.lines) (sym text));
      alone = alone_removed (items_seen config ws) sub s is k.alone;
      none = k.none;
      watched = without_each (λ (u : LiveSlot). IsWatched ws u.item) sub s.board.round k.watched;
      ends = no_end number lines (Numbered line) (λ tick is. cc);
      counts = tt;
      subs = λ alive q. without_used sub q s.board.round ∙ ap (λ (b : Bool). cond (sub == q) false b) (k.subs alive q);
      numbered = (plain, k.numbered);
      slots = slots_removed config (numbered_of lines) s sub line k.slots;
    }) k

pub keeps_reconfigured : (config : List ItemDef) (number : ℕ) (lines : List Told) (ws : List Watched) (s : Session) (sub : ℕ)
    (frequency : Option ℕ) (line : NumberedLine) → IsOrdinal sub
    → line.text ≡ line_text [] (Configures sub (frequency_in (mode_in sub s.board.round) frequency) (is_filtered (mode_in sub s.board.round)))
    → IsPlain line → KeepsTold config number lines ws s → KeepsTold config number (lines ++ Numbered line ∷ []) ws (numbered (reconfigured sub frequency) s)
keeps_reconfigured config number lines ws s sub frequency line is text plain k =
    keeps_step config number lines ws s (numbered (reconfigured sub frequency) s) (Numbered line)
    (record {
      spoken = spoken_numbered number line (reconfigured sub frequency) s (ap (λ (x : List ℕ). x ∷ texts s.board.lines) (sym text));
      alone = alone_reconfigured (items_seen config ws) sub frequency s is k.alone;
      none = k.none;
      watched = each_mapped (λ (u : LiveSlot). IsWatched ws u.item) (λ (u : LiveSlot). IsWatched ws u.item)
          (with_frequency sub (frequency_in (mode_in sub s.board.round) frequency)) s.board.round
          (λ u w. cond_rule (λ (x : LiveSlot). IsWatched ws x.item) (is_of sub u) _ u (λ t. w) (λ t. w)) k.watched;
      ends = no_end number lines (Numbered line) (λ tick is. cc);
      counts = tt;
      subs = λ alive q.
          used_mapped (with_frequency sub (frequency_in (mode_in sub s.board.round) frequency))
          (λ u. cond_rule (λ (x : LiveSlot). x.sub ≡ u.sub) (is_of sub u) _ u (λ t. refl) (λ t. refl)) s.board.round q
          ∙ k.subs alive q;
      numbered = (plain, k.numbered);
      slots = slots_reconfigured config (numbered_of lines) s sub frequency line k.slots;
    }) k
