-- What is kept of a session in threads stays right as one of its slots is asked.
use Rattle.std.proofs.Common.{◌≡◌, ◌<◌, ◌+◌, ℕ, zero, suc, Bool, true, false, Option, None, Some, List, [], ◌∷◌, ◌++◌, length, refl, sym, ◌∙◌, ap}
use Rattle.std.proofs.Common.{subst, arith, cond, slice_get, eq-eqb}
use Rattle.ls_value.specs.Each.{Each}
use Rattle.ls_value.specs.declared.limits.TheConstants.{GREATEST_NUMBER, GREATEST_TICK}
use Rattle.ls_event.specs.declared.event.Taken.{Taken}
use Rattle.ls_event.specs.declared.item.ItemDef.{ItemDef}
use Rattle.ls_event.specs.Cuts.{cut}
use Rattle.ls_event.specs.Slots.{Plan, Slot, passed}
use Rattle.ls_cell.proofs.Passing.{passed_last, passed_plan}
use Rattle.ls_mirror.specs.Client.{What}
use Rattle.ls_record.specs.Came.{came_by, upto_of}
use Rattle.ls_record.specs.Lines.{Line, Tells, line_text, text_at}
use Rattle.ls_record.specs.Records.{LiveSlot, change, shape_in, is_alive}
use Rattle.ls_record.proofs.Each.{each_at}
use Rattle.ls_register.specs.declared.told.Told.{Told}
use Rattle.ls_register.specs.declared.told.Told.TheVariants.{Numbered}
use Rattle.ls_register.specs.declared.told.Numbered.{Numbered as NumberedLine}
use Rattle.ls_seated.specs.Seats.{SeatSeen}
use Rattle.ls_seated.proofs.Tied.{at_passed}
use Rattle.ls_subs.specs.Standing.{passed_live, what_of}
use Rattle.ls_session.specs.declared.session.Session.{Session as Kept}
use Rattle.ls_session.specs.Record.{Record, waited, answered, answered_by}
use Rattle.ls_session.specs.Session.{StandsSession}
use Rattle.ls_stream.specs.Standing.{IsShort}
use Rattle.ls_told.specs.Seen.{Watched, seen_of}
use Rattle.ls_told.specs.Keeping.{KeepsTold}
use Rattle.ls_told.specs.Telling.{TellsOf}
use Rattle.ls_told.proofs.Answered.{keeps_silent, keeps_told}
use Rattle.ls_event.specs.declared.event.Taken.TheVariants as cuts
use Rattle.ls_taking.specs.Groups.{SubSeen}
use Rattle.ls_taking.specs.Lives.{LivesAs, IsSeatOf, HasSeat, HasNothing}
use Rattle.ls_taking.specs.Taking.{told_to, cursor_after}
use Rattle.ls_taking.proofs.Moving.{SeatMoves, own_seat, other_seat, each_moved, each_back}
use Rattle.ls_taking.proofs.Catching.{moving_seat}
use Rattle.ls_parts.specs.Leaving.{HasLast}
use Rattle.ls_parts.specs.Replying.{seat_after}
use Rattle.ls_parts.proofs.Bounds.{fits_numbered}
use Rattle.ls_parts.proofs.Living.{latest_at, at_latest}

-- a cut moves the cursor of its slot, and tells up to a number, as a seat's cursor says
passed_cursor : (s : Slot) (t : Taken) → (passed s t).cursor ≡ cursor_after s.cursor t
passed_cursor s (cuts.Row row upto) = refl
passed_cursor s (cuts.Lost count upto) = refl
passed_cursor s (cuts.Change cells upto) = refl
passed_cursor s (cuts.Key key row upto) = refl
passed_cursor s (cuts.Cleared upto) = refl
passed_cursor s cuts.EndOfSnapshot = refl

pub told_upto : (s : Slot) (t : Taken) → upto_of s t ≡ told_to s.cursor t
told_upto s (cuts.Row row upto) = refl
told_upto s (cuts.Lost count upto) = refl
told_upto s (cuts.Change cells upto) = refl
told_upto s (cuts.Key key row upto) = refl
told_upto s (cuts.Cleared upto) = refl
told_upto s cuts.EndOfSnapshot = refl

change_same : (n : ℕ) (vs : List LiveSlot) → change n (λ x. x) vs ≡ vs
change_same n [] = refl
change_same zero (v ∷ vs) = refl
change_same (suc n) (v ∷ vs) = ap (λ l. v ∷ l) (change_same n vs)

module _ (config : List ItemDef) (number : ℕ) (es : List Told) (ws : List Watched) (subs new : List SubSeen) (k : Kept) (r : Record)
    (v : LiveSlot) (here : slice_get r.session.board.round r.asked ≡ Some v) where
  -- it waits until it is due
  pub lives_waited : (k2 : Kept) → LivesAs config number es ws subs k r → StandsSession k2 (waited r v)
      → LivesAs config number es ws subs k2 (waited r v)
  lives_waited k2 l stands =
      record {
        stands = stands;
        number_is = l.number_is;
        floor = l.floor;
        latest = l.latest;
        told = l.told;
        seated = l.seated;
        fits = l.fits;
      }

  -- it has nothing, and its seat knows that
  pub lives_quiet : (t : SeatSeen) (b : Bool) → LivesAs config number es ws subs k r → SeatMoves subs new v.sub v.rank t (record t { quiet = b })
      → (b ≡ true → HasNothing (seen_of ws v.item) v.slot) → LivesAs config number es ws new k r
  lives_quiet t b l m nothing =
      let u : SeatSeen = record t { quiet = b } in
      let own = moving_seat config ws subs new v t u m (each_at (HasSeat config ws subs) r.asked v r.session.board.round here l.seated) in
      let is : IsSeatOf config ws u v =
      record {
        sub = own.sub;
        rank = own.rank;
        item = own.item;
        number = own.number;
        shape = own.shape;
        at = own.at;
        last = own.last;
        cursor = own.cursor;
        quiet = nothing;
      } in
      record {
        stands = l.stands;
        number_is = l.number_is;
        floor = l.floor;
        latest = l.latest;
        told = l.told;
        seated =
            subst (Each (HasSeat config ws new)) (change_same r.asked r.session.board.round)
            (each_moved (HasSeat config ws subs) (HasSeat config ws new) (λ x. x) r.asked r.session.board.round v l.stands.subs.apart here
            (λ x away has. other_seat config ws subs new v.sub v.rank t u m x away has)
            (own_seat config ws subs new v.sub v.rank t u m v refl refl is) l.seated);
        fits = l.fits;
      }

  -- its seat after a cut that both passed
  passed_seat : (t : SeatSeen) (taken : Taken) → IsSeatOf config ws t v → v.slot.last ≡ length (seen_of ws v.item)
      → cut (seen_of ws v.item) v.slot ≡ Some taken
      → IsSeatOf config ws (seat_after t (length (seen_of ws v.item)) taken) (passed_live taken v)
  passed_seat t taken own whole cuts =
      record {
        sub = own.sub;
        rank = own.rank;
        item = own.item;
        number = own.number;
        shape = ap (λ (p : Plan). p.shape) (passed_plan v.slot taken) ∙ own.shape;
        at = at_passed (shape_in config v.item) (seen_of ws v.item) t.plan t.list v.slot taken own.at whole cuts;
        last = own.last ∙ sym (passed_last v.slot taken);
        cursor = ap (λ (n : ℕ). cursor_after n taken) own.cursor ∙ sym (passed_cursor v.slot taken);
        quiet = λ b. absurd (let x : false ≡ true = b in cc);
      }

  moved_round : (t : SeatSeen) (taken : Taken) → LivesAs config number es ws subs k r → v.slot.last ≡ length (seen_of ws v.item)
      → cut (seen_of ws v.item) v.slot ≡ Some taken
      → SeatMoves subs new v.sub v.rank t (seat_after t (length (seen_of ws v.item)) taken)
      → HasSeat config ws new (passed_live taken v) × Each (HasSeat config ws new) (change r.asked (passed_live taken) r.session.board.round)
  moved_round t taken l whole cuts m =
      let u : SeatSeen = seat_after t (length (seen_of ws v.item)) taken in
      let own = moving_seat config ws subs new v t u m (each_at (HasSeat config ws subs) r.asked v r.session.board.round here l.seated) in
      let mine = own_seat config ws subs new v.sub v.rank t u m (passed_live taken v) refl refl (passed_seat t taken own whole cuts) in (
        mine,
        each_moved (HasSeat config ws subs) (HasSeat config ws new) (passed_live taken) r.asked r.session.board.round v l.stands.subs.apart here
            (λ x away has. other_seat config ws subs new v.sub v.rank t u m x away has) mine l.seated,
      )

  -- its cut makes no line
  pub lives_silent : (k2 : Kept) (t : SeatSeen) (taken : Taken) → LivesAs config number es ws subs k r
      → v.slot.last ≡ length (seen_of ws v.item) → cut (seen_of ws v.item) v.slot ≡ Some taken
      → SeatMoves subs new v.sub v.rank t (seat_after t (length (seen_of ws v.item)) taken)
      → what_of r.session.board.lines v taken ≡ None → StandsSession k2 (answered r v taken)
      → LivesAs config number es ws new k2 (answered r v taken)
  lives_silent k2 t taken l whole cuts m silent stands =
      subst (λ (o : Option What). LivesAs config number es ws new k2 (answered_by r v taken o)) (sym silent)
      (record {
        stands = subst (λ (o : Option What). StandsSession k2 (answered_by r v taken o)) silent stands;
        number_is = l.number_is;
        floor = l.floor;
        latest = l.latest;
        told =
            subst (λ (o : Option What). KeepsTold config number es ws (answered_by r v taken o).session) silent
            (keeps_silent config number es ws r v taken here cuts silent l.told);
        seated = (moved_round t taken l whole cuts m).1;
        fits = l.fits;
      })

  -- its cut makes a line
  pub lives_line : (k2 : Kept) (t : SeatSeen) (taken : Taken) (what : What) (line : NumberedLine) → LivesAs config number es ws subs k r
      → length es < GREATEST_NUMBER → v.slot.last ≡ length (seen_of ws v.item) → cut (seen_of ws v.item) v.slot ≡ Some taken
      → SeatMoves subs new v.sub v.rank t (seat_after t (length (seen_of ws v.item)) taken)
      → what_of r.session.board.lines v taken ≡ Some what → StandsSession k2 (answered r v taken)
      → line.text ≡ line_text r.session.board.lines (Tells v.sub v.rank r.tick (came_by v.slot taken what))
      → TellsOf line v.sub v.rank r.tick (came_by v.slot taken what)
      → LivesAs config number (es ++ Numbered line ∷ []) ws new k2 (answered r v taken)
  lives_line k2 t taken what line l low whole cuts m tells stands text of =
      let moved = moved_round t taken l whole cuts m in
      subst (λ (o : Option What). LivesAs config number (es ++ Numbered line ∷ []) ws new k2 (answered_by r v taken o)) (sym tells)
      (record {
        stands = subst (λ (o : Option What). StandsSession k2 (answered_by r v taken o)) tells stands;
        number_is = l.number_is;
        floor = omega (arith, at_latest es (Numbered line) line.tick refl, of.tick_is);
        latest = latest_at es (Numbered line) line.tick GREATEST_TICK refl l.latest (omega (arith, of.tick_is, l.stands.round.most));
        told =
            subst (λ (o : Option What). KeepsTold config number (es ++ Numbered line ∷ []) ws (answered_by r v taken o).session) tells
            (keeps_told config number es ws r v taken what line here cuts tells text of l.told);
        seated =
            each_back (HasSeat config ws new) (passed_live taken) r.asked r.session.board.round (passed_live taken v) moved.1 moved.0;
        fits = fits_numbered number es line l.fits low;
      })

-- the text of the last line
text_last : (lines : List Line) (l : Line) → text_at (l ∷ lines) (length (l ∷ lines)) ≡ line_text lines l
text_last lines l =
    let same : suc (length lines) ≡ length lines + 1 = omega arith in
    ap (λ b. cond b (line_text lines l) (text_at lines (suc (length lines)))) (eq-eqb (suc (length lines)) (length lines + 1) same)

-- the line that a cut made is kept
pub line_last : (config : List ItemDef) (number : ℕ) (es es2 : List Told) (ws : List Watched) (subs subs2 : List SubSeen) (k k2 : Kept)
    (r : Record) (v : LiveSlot) (taken : Taken) (what : What) → LivesAs config number es ws subs k r
    → LivesAs config number es2 ws subs2 k2 (answered r v taken) → what_of r.session.board.lines v taken ≡ Some what
    → is_alive r.session.life ≡ true
    → IsShort (line_text r.session.board.lines (Tells v.sub v.rank r.tick (came_by v.slot taken what)))
    → HasLast k2 (line_text r.session.board.lines (Tells v.sub v.rank r.tick (came_by v.slot taken what)))
line_last config number es es2 ws subs subs2 k k2 r v taken what l l2 tells alive short =
    let text : List ℕ = line_text r.session.board.lines (Tells v.sub v.rank r.tick (came_by v.slot taken what)) in
    let new : LivesAs config number es2 ws subs2 k2 (answered_by r v taken (Some what)) =
    subst (λ (o : Option What). LivesAs config number es2 ws subs2 k2 (answered_by r v taken o)) tells l2 in
    record {
      of = answered_by r v taken (Some what);
      stands = new.stands;
      alive = alive;
      some = omega (arith, new.told.alone.session.given_up, l.told.alone.session.sent);
      text_is = text_last r.session.board.lines (Tells v.sub v.rank r.tick (came_by v.slot taken what));
      short = short;
    }
