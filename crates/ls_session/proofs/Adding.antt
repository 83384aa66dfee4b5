-- A subscription that begins.
use Rattle.std.proofs.Common.{◌≡◌, ◌+◌, ◌++◌, ℕ, Bool, Option, None, Some, List, [], ◌∷◌, ◌==◌, ◌||◌, cond, true, false, length, map, refl, sym, ◌∙◌, ap, subst}
use Rattle.std.proofs.lemmas.List.{map-append}
use Rattle.ls_event.specs.declared.item.ItemDef.{ItemDef}
use Rattle.ls_request.specs.declared.request.Add.{Add}
use Rattle.ls_turns.specs.Round.{slots_of, left}
use Rattle.ls_record.specs.Lines.{Line, Begins, Configures}
use Rattle.ls_stream.proofs.Moving.{lines_numbered, lines_twice, with_next}
use Rattle.ls_stream.specs.Standing.{NumbersLine}
use Rattle.ls_stream.specs.declared.lines.Lines.{Lines as KeptLines}
use Rattle.ls_record.specs.Records.{LiveSlot, numbered, are_filtered, frequency_of, without, is_used}
use Rattle.ls_record.specs.Acting.{asks_of}
use Rattle.ls_mirror.specs.declared.command.KeyPlaces.{KeyPlaces}
use Rattle.ls_subs.specs.declared.plan.AddPlan.{AddPlan}
use Rattle.ls_subs.specs.declared.plan.PlanItem.{PlanItem}
use Rattle.ls_subs.specs.declared.subs.Subs.{Subs}
use Rattle.ls_subs.specs.Plans.{IsPlan, JoinAll, AreRanked, keys_of_asks}
use Rattle.ls_subs.specs.Standing.{ref_of, StandsSubs}
use Rattle.ls_session.specs.Asking.{Asking, with_turns}
use Rattle.ls_session.specs.Record.{Record, begun_again, with_plan}
use Rattle.ls_session.specs.Session.{StandsSession, IsReady, refs_from}
use Rattle.ls_session.specs.declared.session.Session.{Session as Kept}
use Rattle.ls_session.proofs.Changing.{round_with}
use Rattle.ls_session.proofs.Moves.{rate_numbered}
use Rattle.ls_session.proofs.Seats.{left_slots}

-- the slots that joined are named by their places
refs_are : (sub rank : ℕ) (items : List PlanItem) (numbers : List ℕ) (vs : List LiveSlot) → AreRanked sub rank items → JoinAll items numbers vs
    → refs_from sub rank items numbers ≡ map ref_of vs
refs_are sub rank [] [] [] a j = refl
refs_are sub rank [] [] (v ∷ vs) a j = absurd j
refs_are sub rank [] (n ∷ ns) vs a j = absurd j
refs_are sub rank (p ∷ ps) [] vs a j = absurd j
refs_are sub rank (p ∷ ps) (n ∷ ns) [] a j = absurd j
refs_are sub rank (p ∷ ps) (n ∷ ns) (v ∷ vs) a j =
    ap (λ x. record { sub = x; place = rank; item = p.item; slot = n } ∷ refs_from sub (rank + 1) ps ns) (sym (j.0.sub ∙ a.0))
    ∙ ap (λ x. record { sub = v.sub; place = x; item = p.item; slot = n } ∷ refs_from sub (rank + 1) ps ns) (sym (j.0.rank ∙ a.1))
    ∙ ap (λ x. record { sub = v.sub; place = v.rank; item = x; slot = n } ∷ refs_from sub (rank + 1) ps ns) (sym j.0.item)
    ∙ ap (λ x. record { sub = v.sub; place = v.rank; item = v.item; slot = x } ∷ refs_from sub (rank + 1) ps ns) (sym j.0.number)
    ∙ ap (λ xs. ref_of v ∷ xs) (refs_are sub (rank + 1) ps ns vs a.2 j.1)

-- no slot leaves where a subscription isn't live
unused_same : (sub : ℕ) (vs : List LiveSlot) → is_used sub vs ≡ false → without sub vs ≡ vs
unused_same sub [] none = refl
unused_same sub (v ∷ vs) none = by_test (sub == v.sub) none (unused_same sub vs)
  where
    by_test : (b : Bool) → (b || is_used sub vs) ≡ false → (is_used sub vs ≡ false → without sub vs ≡ vs)
        → cond b (without sub vs) (v ∷ without sub vs) ≡ v ∷ vs
    by_test true e more = absurd (let x : true ≡ false = e in cc)
    by_test false e more = ap (λ xs. v ∷ xs) (more e)

-- a plan's slots join the round, and its two lines are numbered
pub added : (k : Kept) (lines₁ lines₂ : KeptLines) (subs' : Subs) (asking' : Asking) (r : Record) (defs : List ItemDef) (a : Add) (p : AddPlan)
    (numbers : List ℕ) (vs : List LiveSlot) → StandsSession k r → IsReady k p → NumbersLine k.lines p.begins lines₁ → NumbersLine lines₁ p.configures lines₂
    → ((filtered : Bool) (most fields : ℕ) (keys : Option KeyPlaces) (frequency : Option ℕ)
    → StandsSubs subs' (Configures p.sub frequency filtered ∷ Begins p.sub most fields keys ∷ r.session.board.lines) (r.session.board.round ++ vs))
    → slots_of asking'.turns ≡ slots_of (left p.sub k.asking.turns) ++ refs_from p.sub 1 p.items.items numbers
    → asking' ≡ with_turns asking'.turns k.asking → IsPlan defs a p → JoinAll p.items.items numbers vs
    → StandsSession (record k { lines = lines₂; subs = subs'; asking = asking' }) (begun_again (numbered (with_plan defs a vs) r.session) r)
added k lines₁ lines₂ subs' asking' r defs a p numbers vs st ready first_line second_line subs joined anew is joins =
    let lines : List Line = r.session.board.lines in
    let round : List LiveSlot = r.session.board.round in
    let first : Line = Begins a.sub (length (asks_of defs a)) (length a.schema) (keys_of_asks defs (asks_of defs a)) in
    let second : Line = Configures a.sub (frequency_of (asks_of defs a)) (are_filtered (asks_of defs a)) in
    let unused : is_used p.sub round ≡ false = sym (st.subs.used p.sub) ∙ ready.new in
    record {
      number = st.number;
      lines = lines_twice lines₂ r.session first second round (round ++ vs)
          (lines_numbered lines₁ lines₂ (numbered (with_next first round) r.session) second (round ++ vs) p.configures
          (lines_numbered k.lines lines₁ r.session first round p.begins st.lines first_line is.begins ready.begins) second_line is.configures
          ready.configures);
      round = round_with k.asking asking' asking'.turns None r.number r.floor r.tick (numbered (with_plan defs a vs) r.session) st.round.above
          st.round.most st.round.tick anew
          (joined
          ∙ ap (λ xs. xs ++ refs_from p.sub 1 p.items.items numbers)
          (left_slots p.sub k.asking.turns round st.round.slots ∙ ap (map ref_of) (unused_same p.sub round unused))
          ∙ ap (λ xs. map ref_of round ++ xs) (refs_are p.sub 1 p.items.items numbers vs ready.items.ranked joins) ∙ sym (map-append ref_of round vs));
      subs = subst (λ (n : ℕ). StandsSubs subs' (Configures n (frequency_of (asks_of defs a)) (are_filtered (asks_of defs a))
          ∷ Begins n (length (asks_of defs a)) (length a.schema) (keys_of_asks defs (asks_of defs a)) ∷ lines) (round ++ vs)) is.sub
          (subs (are_filtered (asks_of defs a)) (length (asks_of defs a)) (length a.schema) (keys_of_asks defs (asks_of defs a)) (frequency_of
          (asks_of defs a)));
      rate = rate_numbered k.bandwidth r.session.rate (first ∷ lines) r.floor second
          (rate_numbered k.bandwidth r.session.rate lines r.floor first st.rate refl) refl;
      front = λ f e. absurd (let x : None ≡ Some f = sym (ap (λ (a : Asking). a.front) anew) ∙ e in cc);
    }
