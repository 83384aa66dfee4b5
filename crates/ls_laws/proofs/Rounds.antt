-- A turn of a session moves its round.
use Rattle.std.proofs.Common.{◌≡◌, ◌==◌, ℕ, List, [], ◌∷◌, ◌++◌, refl, sym, ◌∙◌, ap, arith, subst, cond, Bool, true, false, not, Option, None, Some}
use Rattle.std.proofs.Common.{◌||◌, length, map, nat_lt, append_assoc, append-nil}
use Rattle.std.specs.List.{filter, list_any}
use Rattle.std.proofs.lemmas.Bool.{eq-eqb}
use Rattle.std.proofs.lemmas.Bool.Decides.{nat_tests}
use Rattle.std.proofs.lemmas.List.{map-append}
use Rattle.ls_turns.specs.declared.slot_ref.SlotRef.{SlotRef}
use Rattle.ls_turns.specs.Moves.{Left, is_same, MayMoveAll}
use Rattle.ls_event.specs.Slots.{Slot, enqueued}
use Rattle.ls_record.specs.Came.{Came}
use Rattle.ls_value.specs.Each.{Each}
use Rattle.ls_record.specs.Apart.{Apart}
use Rattle.ls_record.specs.Lines.{Line}
use Rattle.ls_record.specs.Cutting.{Ask}
use Rattle.ls_record.specs.Records.{Item, LiveSlot, Board, RoundLine, Round, is_at, is_used, joined_all, added, without}
use Rattle.ls_record.specs.Records.{removed, live_turn, round_of, taken_in}
use Rattle.ls_record.specs.Records.{history_of, is_of, enqueue_slot, enqueue_at, enqueued_in, with_frequency}
use Rattle.ls_record.specs.Records.{frequency_in, mode_in, reconfigured}
use Rattle.ls_record.proofs.Each.{each_within}
use Rattle.ls_record.proofs.Parts.{met_by, given_by}
use Rattle.ls_record.proofs.Rules.{cond_rule}
use Rattle.ls_laws.specs.Rounds.{slot_of, slots_of, after_moves, MoveTo, GivesBehind, joins_of}
use Rattle.ls_lawful.proofs.Frame.{added_apart}

equal_either_way : (m n : ℕ) → (m == n) ≡ (n == m)
equal_either_way m n = grind (arith, nat_tests)

-- the slot of a round's line, with those before it and behind it
record Gives (due : LiveSlot → Bool) (items : List Item) (lines : List Line) (vs : List LiveSlot) (r : Round) (t : RoundLine) : Type 0 where
  asked : List LiveSlot
  giver : LiveSlot
  behind : List LiveSlot
  parts : vs ≡ asked ++ giver ∷ behind
  vain : Each (λ v. (live_turn due items lines v).came ≡ None) asked
  named : slot_of t.live ≡ slot_of giver
  kept : slots_of r.kept ≡ slots_of asked ++ slots_of behind

the_line : (a b : RoundLine) → Some a ≡ Some b → a ≡ b
the_line a b is = cc

met_gives : (due : LiveSlot → Bool) (items : List Item) (lines : List Line) (v : LiveSlot) (s : Slot) (o : Option Came) (vs : List LiveSlot) (rest : Round) (t : RoundLine)
    → (live_turn due items lines v).came ≡ o → (rest.came ≡ Some t → Gives due items lines vs rest t) → (met_by (record v { slot = s }) o vs rest).came ≡ Some t
    → Gives due items lines (v ∷ vs) (met_by (record v { slot = s }) o vs rest) t
met_gives due items lines v s None vs rest t none more is =
    let g = more is in
    record {
      asked = v ∷ g.asked;
      giver = g.giver;
      behind = g.behind;
      parts = ap (λ xs. v ∷ xs) g.parts;
      vain = (none, g.vain);
      named = g.named;
      kept = ap (λ xs. slot_of v ∷ xs) g.kept;
    }
met_gives due items lines v s (Some c) vs rest t some more is =
    record {
      asked = [];
      giver = v;
      behind = vs;
      parts = refl;
      vain = tt;
      named = sym (ap (λ (x : RoundLine). slot_of x.live) (the_line (record { live = record v { slot = s }; came = c }) t is));
      kept = refl;
    }

round_gives : (due : LiveSlot → Bool) (items : List Item) (lines : List Line) (vs : List LiveSlot) (t : RoundLine) → (round_of due items lines vs).came ≡ Some t
    → Gives due items lines vs (round_of due items lines vs) t
round_gives due items lines [] t is = absurd (let x : None ≡ Some t = is in cc)
round_gives due items lines (v ∷ vs) t is =
    met_gives due items lines v (live_turn due items lines v).slot (live_turn due items lines v).came vs (round_of due items lines vs) t refl
    (round_gives due items lines vs t) is

-- the slots of other names, which all are that stand apart
abbrev others : LiveSlot → List LiveSlot → List SlotRef
others g vs = filter (λ x. not (is_same (slot_of g) x)) (slots_of vs)

others_stay : (g : LiveSlot) (vs : List LiveSlot) → Each (λ u. is_at g.sub g.rank u ≡ false) vs → others g vs ≡ slots_of vs
others_stay g [] away = refl
others_stay g (u ∷ vs) away = ap (λ b. cond (not b) (slot_of u ∷ others g vs) (others g vs)) away.0 ∙ ap (λ xs. slot_of u ∷ xs) (others_stay g vs away.1)

same_itself : (g : LiveSlot) → is_same (slot_of g) (slot_of g) ≡ true
same_itself g = rw (eq-eqb g.sub g.sub refl) (eq-eqb g.rank g.rank refl)

is_at_swap : (v g : LiveSlot) → is_at v.sub v.rank g ≡ false → is_same (slot_of g) (slot_of v) ≡ false
is_at_swap v g h = rw (equal_either_way g.sub v.sub, equal_either_way g.rank v.rank) h

others_kept : (g : LiveSlot) (asked behind : List LiveSlot) → Apart (asked ++ g ∷ behind) → others g (asked ++ g ∷ behind) ≡ slots_of asked ++ slots_of behind
others_kept g [] behind apart =
    ap (λ b. cond (not b) (slot_of g ∷ others g behind) (others g behind)) (same_itself g) ∙ others_stay g behind apart.0
others_kept g (v ∷ asked) behind apart =
    ap (λ b. cond (not b) (slot_of v ∷ others g (asked ++ g ∷ behind)) (others g (asked ++ g ∷ behind)))
    (is_at_swap v g (each_within (λ u. is_at v.sub v.rank u ≡ false) asked behind g apart.0))
    ∙ ap (λ xs. slot_of v ∷ xs) (others_kept g asked behind apart.1)

pub turn_orders : (due : LiveSlot → Bool) (now : ℕ) (items : List Item) (b : Board) (t : RoundLine) → (round_of due items b.lines b.round).came ≡ Some t
    → (asked : List LiveSlot) × (giver : LiveSlot) × (rest : List LiveSlot) × (b.round ≡ asked ++ giver ∷ rest)
    × Each (λ v. (live_turn due items b.lines v).came ≡ None) asked
    × (map slot_of (taken_in due now items b).round ≡ map slot_of (asked ++ rest ++ giver ∷ []))
turn_orders due now items b t is =
    let g : Gives due items b.lines b.round (round_of due items b.lines b.round) t = round_gives due items b.lines b.round t is in
    let taken : slots_of (taken_in due now items b).round ≡ slots_of (round_of due items b.lines b.round).kept ++ slot_of t.live ∷ [] =
    ap (λ o. slots_of (given_by now b (round_of due items b.lines b.round).kept o).round) is
    ∙ map-append slot_of (round_of due items b.lines b.round).kept (t.live ∷ []) in
    let all : slots_of (g.asked ++ g.behind ++ g.giver ∷ []) ≡ (slots_of g.asked ++ slots_of g.behind) ++ slot_of g.giver ∷ [] =
    map-append slot_of (g.asked ++ g.behind) (g.giver ∷ []) ∙ ap (λ xs. xs ++ slot_of g.giver ∷ []) (map-append slot_of g.asked g.behind) in (
      g.asked,
      g.giver,
      g.behind,
      g.parts,
      g.vain,
      taken ∙ ap (λ xs. xs ++ slot_of t.live ∷ []) g.kept
          ∙ ap (λ (a : SlotRef). (slots_of g.asked ++ slots_of g.behind) ++ a ∷ []) g.named ∙ sym all,
    )

pub turn_moves : (due : LiveSlot → Bool) (now : ℕ) (items : List Item) (b : Board) (t : RoundLine) → Apart b.round
    → (round_of due items b.lines b.round).came ≡ Some t → GivesBehind due now items b t
turn_moves due now items b t apart is =
    let g : Gives due items b.lines b.round (round_of due items b.lines b.round) t = round_gives due items b.lines b.round t is in
    let taken : slots_of (taken_in due now items b).round ≡ slots_of (round_of due items b.lines b.round).kept ++ slot_of t.live ∷ [] =
    ap (λ o. slots_of (given_by now b (round_of due items b.lines b.round).kept o).round) is
    ∙ map-append slot_of (round_of due items b.lines b.round).kept (t.live ∷ []) in
    let rest : others t.live b.round ≡ slots_of g.asked ++ slots_of g.behind =
    ap (λ (a : SlotRef). filter (λ x. not (is_same a x)) (slots_of b.round)) g.named ∙ ap (others g.giver) g.parts
    ∙ others_kept g.giver g.asked g.behind (subst Apart g.parts apart) in
    record {
      asked = g.asked;
      vain = g.vain;
      moved = (
        (
          (
            slots_of g.behind,
            ap slots_of g.parts ∙ map-append slot_of g.asked (g.giver ∷ g.behind)
                ∙ ap (λ (a : SlotRef). slots_of g.asked ++ a ∷ slots_of g.behind) (sym g.named),
          ),
          tt,
        ),
        taken ∙ ap (λ xs. xs ++ slot_of t.live ∷ []) (g.kept ∙ sym rest),
      );
    }

-- a turn without a line
met_waits : (v : LiveSlot) (s : Slot) (o : Option Came) (vs : List LiveSlot) (rest : Round) → (rest.came ≡ None → slots_of rest.kept ≡ slots_of vs)
    → (met_by (record v { slot = s }) o vs rest).came ≡ None → slots_of (met_by (record v { slot = s }) o vs rest).kept ≡ slots_of (v ∷ vs)
met_waits v s None vs rest more is = ap (λ xs. slot_of v ∷ xs) (more is)
met_waits v s (Some c) vs rest more is = absurd (let x : Some (record { live = record v { slot = s }; came = c }) ≡ None = is in cc)

round_waits : (due : LiveSlot → Bool) (items : List Item) (lines : List Line) (vs : List LiveSlot) → (round_of due items lines vs).came ≡ None
    → slots_of (round_of due items lines vs).kept ≡ slots_of vs
round_waits due items lines [] is = refl
round_waits due items lines (v ∷ vs) is =
    met_waits v (live_turn due items lines v).slot (live_turn due items lines v).came vs (round_of due items lines vs) (round_waits due items lines vs) is

pub turn_waits : (due : LiveSlot → Bool) (now : ℕ) (items : List Item) (b : Board) → (round_of due items b.lines b.round).came ≡ None
    → MoveTo b.round [] (taken_in due now items b).round
turn_waits due now items b is =
    (tt, ap (λ o. slots_of (given_by now b (round_of due items b.lines b.round).kept o).round) is ∙ round_waits due items b.lines b.round is)

-- a subscription's slots leave
without_slots : (sub : ℕ) (vs : List LiveSlot) → slots_of (without sub vs) ≡ filter (λ x. not (x.sub == sub)) (slots_of vs)
without_slots sub [] = refl
without_slots sub (v ∷ vs) =
    by_test (sub == v.sub) (without_slots sub vs)
    ∙ ap (λ b. cond (not b) (slot_of v ∷ filter (λ x. not (x.sub == sub)) (slots_of vs)) (filter (λ x. not (x.sub == sub)) (slots_of vs)))
    (equal_either_way sub v.sub)
  where
    by_test : (b : Bool) → slots_of (without sub vs) ≡ filter (λ x. not (x.sub == sub)) (slots_of vs)
        → slots_of (cond b (without sub vs) (v ∷ without sub vs))
        ≡ cond (not b) (slot_of v ∷ filter (λ x. not (x.sub == sub)) (slots_of vs)) (filter (λ x. not (x.sub == sub)) (slots_of vs))
    by_test true more = more
    by_test false more = ap (λ xs. slot_of v ∷ xs) more

pub end_moves : (sub : ℕ) (b : Board) → MoveTo b.round (Left sub ∷ []) (removed sub b).round
end_moves sub b = ((tt, tt), without_slots sub b.round)

-- slots join
none_same : (v : LiveSlot) (round behind : List LiveSlot) → Apart (round ++ v ∷ behind) → list_any (is_same (slot_of v)) (slots_of round) ≡ false
none_same v [] behind apart = refl
none_same v (u ∷ round) behind apart =
    ap (λ b. b || list_any (is_same (slot_of v)) (slots_of round))
    (is_at_swap u v (each_within (λ x. is_at u.sub u.rank x ≡ false) round behind v apart.0))
    ∙ none_same v round behind apart.1

join_moves : (round joining : List LiveSlot) → Apart (round ++ joining) → MoveTo round (joins_of joining) (round ++ joining)
join_moves round [] apart = (tt, ap slots_of (append-nil round))
join_moves round (v ∷ joining) apart =
    let same : (round ++ v ∷ []) ++ joining ≡ round ++ v ∷ joining = append_assoc round (v ∷ []) joining in
    let one : slots_of (round ++ v ∷ []) ≡ slots_of round ++ slot_of v ∷ [] = map-append slot_of round (v ∷ []) in
    let rest = join_moves (round ++ v ∷ []) joining (subst Apart (sym same) apart) in (
      (none_same v round joining apart, subst (λ (xs : List SlotRef). MayMoveAll xs (joins_of joining)) one rest.0),
      ap slots_of (sym same) ∙ rest.1 ∙ ap (λ xs. after_moves xs (joins_of joining)) one,
    )

pub add_moves : (items : List Item) (free : ℕ → ℕ) (sub fields : ℕ) (asks : List Ask) (b : Board) → Apart b.round → is_used sub b.round ≡ false
    → MoveTo b.round (joins_of (joined_all items free sub 1 asks)) (added items free sub fields asks b).round
add_moves items free sub fields asks b apart new =
    join_moves b.round (joined_all items free sub 1 asks) (added_apart items free sub asks b.round apart new)

-- nothing is moved where each slot is changed and keeps its name
each_named : (f : LiveSlot → LiveSlot) → ((v : LiveSlot) → slot_of (f v) ≡ slot_of v) → (vs : List LiveSlot) → slots_of (map f vs) ≡ slots_of vs
each_named f same [] = refl
each_named f same (v ∷ vs) = ap (λ x. x ∷ slots_of (map f vs)) (same v) ∙ ap (λ xs. slot_of v ∷ xs) (each_named f same vs)

pub enqueue_moves : (items : List Item) (sub rank : ℕ) (b : Board) → MoveTo b.round [] (enqueued_in items sub rank b).round
enqueue_moves items sub rank b = (tt, each_named (enqueue_at items sub rank) named b.round)
  where
    named : (v : LiveSlot) → slot_of (enqueue_at items sub rank v) ≡ slot_of v
    named v =
        cond_rule (λ u. slot_of u ≡ slot_of v) (is_at sub rank v) (enqueue_slot (history_of items v.item) v) v
        (λ t. cond_rule (λ u. slot_of u ≡ slot_of v) (nat_lt v.slot.last (length (history_of items v.item))) (record v { slot = enqueued v.slot }) v (λ e. refl)
        (λ e. refl))
        (λ t. refl)

pub frequency_moves : (sub : ℕ) (frequency : Option ℕ) (b : Board) → MoveTo b.round [] (reconfigured sub frequency b).round
frequency_moves sub frequency b =
    (tt, each_named (with_frequency sub (frequency_in (mode_in sub b.round) frequency)) (named (frequency_in (mode_in sub b.round) frequency)) b.round)
  where
    named : (f : Option ℕ) (v : LiveSlot) → slot_of (with_frequency sub f v) ≡ slot_of v
    named f v = cond_rule (λ u. slot_of u ≡ slot_of v) (is_of sub v) (record v { frequency = f }) v (λ e. refl) (λ e. refl)

-- slots that join stand at the end, in their order
joined_after : (round : List SlotRef) (news : List LiveSlot) → after_moves round (joins_of news) ≡ round ++ slots_of news
joined_after round [] = sym (append-nil round)
joined_after round (v ∷ news) = joined_after (round ++ slot_of v ∷ []) news ∙ append_assoc round (slot_of v ∷ []) (slots_of news)

pub joined_round : (before news after : List LiveSlot) → MoveTo before (joins_of news) after → map slot_of after ≡ map slot_of (before ++ news)
joined_round before news after m = m.1 ∙ joined_after (slots_of before) news ∙ sym (map-append slot_of before news)
