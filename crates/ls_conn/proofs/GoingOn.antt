-- A stream that goes on, turn by turn.
use Rattle.std.proofs.Common.{◌≡◌, ◌<◌, ℕ, List, [], ◌∷◌, ◌++◌, inl, inr, length, take, false, Option, None, Some, refl, sym, ap, subst, ◌∙◌, append_assoc, append-nil}
use Rattle.std.specs.Io.KnownBytes.{Appends, Keeps}
use Rattle.std.proofs.KnownBytes.{Appends-nil, Appends-trans, Appends-kept, Keeps-refl}
use Rattle.ls_event.specs.declared.item.ItemDef.{ItemDef}
use Rattle.ls_value.specs.Each.{Each}
use Rattle.ls_value.specs.Values.{text_eq}
use Rattle.ls_record.specs.Turning.{loop_text}
use Rattle.ls_talk.specs.Lines.{line_bytes}
use Rattle.ls_told.specs.Seen.{Testified, Grows}
use Rattle.ls_session.specs.declared.session.Turn.{Turn}
use Rattle.ls_session.specs.declared.session.Turn.TheVariants as turn
use Rattle.ls_shared.specs.Answers.{GivesLine, SeesOn, Turns}
use Rattle.ls_told.specs.Turns.{HasEnded, IsUnbound, IsSpent}
use Rattle.ls_conn.specs.declared.report.StreamEnd.{StreamEnd}
use Rattle.ls_conn.specs.declared.report.StreamEnd.TheVariants as end
use Rattle.ls_conn.specs.Streaming.{end_of, AreGiven, Puts, PutsPart, PutsFront, EndsBy, Streams, Streamed, GoesOn, PutsText, PutsNone, lines_of}
use Rattle.ls_conn.proofs.Given.{given_later, given_more, sent_there, lines_more, lines_see, sees_on}

nothing : (e : StreamEnd) → None ≡ Some e → ⊥
nothing e is = cc

some_is : (e f : StreamEnd) → Some e ≡ Some f → e ≡ f
some_is e f is = cc

each_snoc : {A : Type 0} (P : A → Type 0) (xs : List A) (x : A) → Each P xs → P x → Each P (xs ++ x ∷ [])
each_snoc P [] x e p = (p, e)
each_snoc P (y ∷ ys) x e p = (e.0, each_snoc P ys x e.1 p)

-- before the first turn
abbrev pub begun : (epoch : ℕ) (t : Testified) (held : Option (List ℕ)) → Streams epoch t t held held
begun epoch t held =
    record { places = []; texts = []; mine = sym (append-nil t.mine); given = tt; puts = Appends-nil held; none = tt; sees = inl refl }

-- nothing was given, and nothing put
abbrev pub rested : (epoch : ℕ) (old mid new : Testified) (held h1 h2 : Option (List ℕ)) → Streams epoch old mid held h1 → SeesOn mid new → new.mine ≡ mid.mine → Keeps h1 h2
    → Streams epoch old new held h2
rested epoch old mid new held h1 h2 s sees mine keeps =
    record {
      places = s.places;
      texts = s.texts;
      mine = mine ∙ s.mine;
      given = given_later mid.lines new.lines epoch s.places s.texts (lines_see mid new sees) s.given;
      puts = Appends-kept held h1 h2 (lines_of s.texts) s.puts keeps;
      none = s.none;
      sees = sees_on old mid new s.sees sees;
    }

-- all that was given was put, however the stream ends
pub puts_all : (e : StreamEnd) (old new : Option (List ℕ)) (texts : List (List ℕ)) → Appends old new (lines_of texts) → Puts e old new texts
puts_all end.Looped old new texts a = a
puts_all (end.Ended code) old new texts a = a
puts_all (end.Superseded e) old new texts a = a
puts_all end.Unbound old new texts a = a
puts_all end.PeerLeft old new texts a = a
puts_all end.WriteFault old new texts a = inl a
puts_all end.Stopped old new texts a = a
puts_all end.Spent old new texts a = a
puts_all end.NoMemory old new texts a = inl a

-- a stream that went on ends
pub over : (e : StreamEnd) (epoch : ℕ) (old new : Testified) (held h : Option (List ℕ)) (s : Streams epoch old new held h) → EndsBy e epoch new s.texts
    → Streamed e epoch old new held h
over e epoch old new held h s ends =
    record {
      places = s.places;
      texts = s.texts;
      mine = s.mine;
      given = s.given;
      puts = puts_all e held h s.texts s.puts;
      ends = ends;
      sees = s.sees;
    }

-- nothing was put, and the stream goes on, or the peer left or the wire failed
pub none_put : (r : Option StreamEnd) (epoch : ℕ) (old mid new : Testified) (held h1 h2 : Option (List ℕ)) → Streams epoch old mid held h1 → Grows mid new → new.mine ≡ mid.mine
    → PutsNone r h1 h2 → GoesOn r epoch old new held h2
none_put None epoch old mid new held h1 h2 s grows mine p = rested epoch old mid new held h1 h2 s (inr grows) mine p
none_put (Some end.Looped) epoch old mid new held h1 h2 s grows mine p = absurd p
none_put (Some (end.Ended code)) epoch old mid new held h1 h2 s grows mine p = absurd p
none_put (Some (end.Superseded e)) epoch old mid new held h1 h2 s grows mine p = absurd p
none_put (Some end.Unbound) epoch old mid new held h1 h2 s grows mine p = absurd p
none_put (Some end.PeerLeft) epoch old mid new held h1 h2 s grows mine p =
    over end.PeerLeft epoch old new held h2 (rested epoch old mid new held h1 h2 s (inr grows) mine p) s.none
none_put (Some end.WriteFault) epoch old mid new held h1 h2 s grows mine p =
    over end.WriteFault epoch old new held h2 (rested epoch old mid new held h1 h2 s (inr grows) mine p) (inl s.none)
none_put (Some end.Stopped) epoch old mid new held h1 h2 s grows mine p = absurd p
none_put (Some end.Spent) epoch old mid new held h1 h2 s grows mine p = absurd p
none_put (Some end.NoMemory) epoch old mid new held h1 h2 s grows mine p = absurd p

-- a text more was given
module _ (config : List ItemDef) (epoch now : ℕ) (old mid new : Testified) (held h1 h2 : Option (List ℕ)) (text : List ℕ) (s : Streams epoch old mid held h1) (grows : Grows mid new)
    (gives : GivesLine config epoch now mid new text) where
  more_mine : new.mine ≡ old.mine ++ (s.places ++ length gives.sends.before ∷ [])
  more_mine = gives.sends.mine ∙ ap (λ (xs : List ℕ). xs ++ length gives.sends.before ∷ []) s.mine ∙ append_assoc old.mine s.places (length gives.sends.before ∷ [])

  more_given : AreGiven new.lines epoch (s.places ++ length gives.sends.before ∷ []) (s.texts ++ text ∷ [])
  more_given =
      given_more new.lines epoch s.places s.texts (length gives.sends.before) text (given_later mid.lines new.lines epoch s.places s.texts grows.lines s.given)
      (sent_there mid new epoch text gives.tick gives.sends)

  more_put : Appends h1 h2 (line_bytes text) → Appends held h2 (lines_of (s.texts ++ text ∷ []))
  more_put a = subst (λ (xs : List ℕ). Appends held h2 xs) (sym (lines_more s.texts text)) (Appends-trans held h1 h2 (lines_of s.texts) (line_bytes text) s.puts a)

  -- and put
  abbrev went : text_eq text loop_text ≡ false → Appends h1 h2 (line_bytes text) → Streams epoch old new held h2
  went none a =
      record {
        places = s.places ++ length gives.sends.before ∷ [];
        texts = s.texts ++ text ∷ [];
        mine = more_mine;
        given = more_given;
        puts = more_put a;
        none = each_snoc (λ (t : List ℕ). text_eq t loop_text ≡ false) s.texts text s.none none;
        sees = sees_on old mid new s.sees (inr grows);
      }

  -- or put in part
  part_went : (cut : ℕ) → cut < length (line_bytes text) → Appends h1 h2 (take cut (line_bytes text)) → Streamed end.WriteFault epoch old new held h2
  part_went cut less a =
      record {
        places = s.places ++ length gives.sends.before ∷ [];
        texts = s.texts ++ text ∷ [];
        mine = more_mine;
        given = more_given;
        puts = inr (record {
          front = s.texts;
          last = text;
          are = refl;
          cut = cut;
          less = less;
          appends = Appends-trans held h1 h2 (lines_of s.texts) (take cut (line_bytes text)) s.puts a;
        });
        ends = inr (s.texts, text, refl, s.none);
        sees = sees_on old mid new s.sees (inr grows);
      }

  -- or not at all
  none_went : Keeps h1 h2 → Streamed end.NoMemory epoch old new held h2
  none_went k =
      record {
        places = s.places ++ length gives.sends.before ∷ [];
        texts = s.texts ++ text ∷ [];
        mine = more_mine;
        given = more_given;
        puts = inr (record { front = s.texts; last = text; are = refl; appends = Appends-kept held h1 h2 (lines_of s.texts) s.puts k });
        ends = inr (s.texts, text, refl, s.none);
        sees = sees_on old mid new s.sees (inr grows);
      }

  -- LOOP was put
  looped : text ≡ loop_text → Appends h1 h2 (line_bytes text) → Streamed end.Looped epoch old new held h2
  looped is a =
      record {
        places = s.places ++ length gives.sends.before ∷ [];
        texts = s.texts ++ text ∷ [];
        mine = more_mine;
        given = more_given;
        puts = more_put a;
        ends = (s.texts, ap (λ (t : List ℕ). s.texts ++ t ∷ []) is, s.none);
        sees = sees_on old mid new s.sees (inr grows);
      }

  pub text_put : (r : Option StreamEnd) → PutsText r h1 h2 text → GoesOn r epoch old new held h2
  text_put None p = went p.0 p.1
  text_put (Some end.Looped) p = looped p.0 p.1
  text_put (Some (end.Ended code)) p = absurd p
  text_put (Some (end.Superseded e)) p = absurd p
  text_put (Some end.Unbound) p = absurd p
  text_put (Some end.PeerLeft) p = let w = went p.0 p.1 in over end.PeerLeft epoch old new held h2 w w.none
  text_put (Some end.WriteFault) (inl p) = let w = went p.0 p.1 in over end.WriteFault epoch old new held h2 w (inl w.none)
  text_put (Some end.WriteFault) (inr p) = part_went p.0 p.1 p.2
  text_put (Some end.Stopped) p = absurd p
  text_put (Some end.Spent) p = absurd p
  text_put (Some end.NoMemory) p = none_went p

-- a turn that gives nothing leaves what its caller was given
pub quiet_turn : (config : List ItemDef) (epoch now : ℕ) (old new : Testified) (text : List ℕ) (t : Turn) → (t ≡ turn.Send → ⊥) → Turns config epoch now old new text t
    → new.mine ≡ old.mine
quiet_turn config epoch now old new text turn.Send quiet says = absurd (quiet refl)
quiet_turn config epoch now old new text (turn.Ask ask) quiet says = absurd says
quiet_turn config epoch now old new text turn.Idle quiet says = says.0
quiet_turn config epoch now old new text (turn.NotDue at) quiet says = says.0
quiet_turn config epoch now old new text (turn.Superseded e) quiet says = says.0
quiet_turn config epoch now old new text (turn.Ended code) quiet says = says.0
quiet_turn config epoch now old new text turn.Unbound quiet says = says.0
quiet_turn config epoch now old new text turn.Spent quiet says = says.0

-- a turn says that the stream has ended
pub turned_over : (config : List ItemDef) (epoch now : ℕ) (old mid new : Testified) (held h : Option (List ℕ)) (text : List ℕ) (t : Turn) (e : StreamEnd) → end_of t ≡ Some e
    → Streams epoch old mid held h → Grows mid new → Turns config epoch now mid new text t → Streamed e epoch old new held h
turned_over config epoch now old mid new held h text turn.Send e is s grows says = absurd (nothing e is)
turned_over config epoch now old mid new held h text (turn.Ask ask) e is s grows says = absurd says
turned_over config epoch now old mid new held h text turn.Idle e is s grows says = absurd (nothing e is)
turned_over config epoch now old mid new held h text (turn.NotDue at) e is s grows says = absurd (nothing e is)
turned_over config epoch now old mid new held h text (turn.Superseded f) e is s grows says =
    subst (λ (x : StreamEnd). Streamed x epoch old new held h) (some_is (end.Superseded f) e is)
    (over (end.Superseded f) epoch old new held h (rested epoch old mid new held h h s (inr grows) says.0 (Keeps-refl h)) (says.1, says.2, s.none))
turned_over config epoch now old mid new held h text (turn.Ended code) e is s grows says =
    subst (λ (x : StreamEnd). Streamed x epoch old new held h) (some_is (end.Ended code) e is)
    (over (end.Ended code) epoch old new held h (rested epoch old mid new held h h s (inr grows) says.0 (Keeps-refl h)) (subst (λ (n : ℕ). HasEnded n code new.lines) (sym grows.number) says.1, s.none))
turned_over config epoch now old mid new held h text turn.Unbound e is s grows says =
    subst (λ (x : StreamEnd). Streamed x epoch old new held h) (some_is end.Unbound e is)
    (over end.Unbound epoch old new held h (rested epoch old mid new held h h s (inr grows) says.0 (Keeps-refl h)) (subst (λ (n : ℕ). IsUnbound n new.lines) (sym grows.number) says.1, s.none))
turned_over config epoch now old mid new held h text turn.Spent e is s grows says =
    subst (λ (x : StreamEnd). Streamed x epoch old new held h) (some_is end.Spent e is)
    (over end.Spent epoch old new held h (rested epoch old mid new held h h s (inr grows) says.0 (Keeps-refl h)) (subst (λ (n : ℕ). IsSpent n new.lines) (sym grows.number) says.1, s.none))

-- what is done between lines doesn't end a stream by the clock
pub not_stopped : (r : Option StreamEnd) (h1 h2 : Option (List ℕ)) → PutsNone r h1 h2 → r ≡ Some end.Stopped → ⊥
not_stopped None h1 h2 p is = absurd (nothing end.Stopped is)
not_stopped (Some end.Looped) h1 h2 p is = p
not_stopped (Some (end.Ended code)) h1 h2 p is = p
not_stopped (Some (end.Superseded e)) h1 h2 p is = p
not_stopped (Some end.Unbound) h1 h2 p is = p
not_stopped (Some end.PeerLeft) h1 h2 p is = let e : end.PeerLeft ≡ end.Stopped = some_is end.PeerLeft end.Stopped is in cc
not_stopped (Some end.WriteFault) h1 h2 p is = let e : end.WriteFault ≡ end.Stopped = some_is end.WriteFault end.Stopped is in cc
not_stopped (Some end.Stopped) h1 h2 p is = p
not_stopped (Some end.Spent) h1 h2 p is = p
not_stopped (Some end.NoMemory) h1 h2 p is = p
