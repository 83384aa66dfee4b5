-- A connection that goes on, step by step.
use Rattle.std.proofs.Common.{◌≡◌, ℕ, ◌+◌, List, [], ◌∷◌, ◌++◌, inl, inr, Option, None, Some, Bool, refl, sym, ap, subst, ◌∙◌, append-nil, append_assoc, replicate, if◌then◌else◌}
use Rattle.std.proofs.lemmas.List.{replicate-append-replicate}
use mathlib.Core.List.{IsPrefix}
use Rattle.ls_value.proofs.Each.{each_append}
use Rattle.ls_talk.specs.Lines.{Logs}
use Rattle.ls_talk.specs.declared.talk.Happening.{Happening}
use Rattle.ls_talk.specs.declared.talk.Happening.TheVariants as happening
use Rattle.ls_talk.specs.declared.talk.Incoming.{Incoming}
use Rattle.ls_talk.specs.declared.talk.Incoming.TheVariants as incoming
use Rattle.ls_register.specs.Deeds.{Deed}
use Rattle.ls_conn.specs.Acting.{Known}
use Rattle.ls_conn_ws.specs.Streams.{StreamState, GrewFrom}
use Rattle.ls_conn_ws.specs.Serving.{Piece, Gives, Hears, IsPiece, HasOutcomes, Served, Spoke, EndedWithin, EndsStream, IsUnanswered, IsStream, LastIs, given_after, last_text, heard_by, has_opened, lines_in, log_of, malformed_text}
use Rattle.ls_chron.proofs.Beginnings.{prefix_self}
use Rattle.ls_register.specs.declared.told.Told.{Told}
use Rattle.ls_conn_ws.specs.Giving.{GaveLine, GivesSo, LeftSo, MayGive}
use Rattle.ls_conn_ws.specs.Answering.{StreamAfter}
use Rattle.ls_conn_ws.specs.Hearing.{GoesOn, HearsSo, HearsEnd, Learns, RestsSo}
use Rattle.ls_conn.specs.declared.ended.ConnEnd.{ConnEnd}
use Rattle.ls_conn.specs.declared.ended.ConnEnd.TheVariants as end
use Rattle.ls_conn_ws.specs.declared.running.Given.{Given}
use Rattle.ls_conn_ws.specs.declared.running.Given.TheVariants as given
use Rattle.ls_conn_ws.specs.declared.serving.Heard.{Heard}
use Rattle.ls_conn_ws.specs.declared.serving.Heard.TheVariants as heard
use Rattle.ls_conn_ws.proofs.Logging.{logs_nothing, logs_on}
use Rattle.ls_conn_ws.proofs.Pieces.{logs_more, given_gave, given_heard, last_gave, last_heard, stream_more, stream_same, last_grew}

-- before anything happened
pub begun : (deed : Deed) (log : Option (List Happening)) (k : Known) (stream : Option StreamState) → k.seen ≡ [] → stream ≡ None → Served deed log log k stream 0
begun deed log k stream unseen none =
    record {
      pieces = [];
      logs = logs_nothing log;
      are = tt;
      given = subst (λ (x : Option StreamState). IsStream x []) (sym none) refl;
      last = unseen;
      idle = record { front = []; are = refl };
    }

module _ (deed : Deed) (log0 : Option (List Happening)) where
  -- no look in a row needs to have found nothing
  pub settled : (log : Option (List Happening)) (k : Known) (stream : Option StreamState) (n : ℕ) → Served deed log0 log k stream n → Served deed log0 log k stream 0
  settled log k stream n s =
      record { pieces = s.pieces; logs = s.logs; are = s.are; given = s.given; last = s.last; idle = record { front = s.pieces; are = sym (append-nil s.pieces) } }

  -- nothing happened
  pub stayed : (log log2 : Option (List Happening)) (k : Known) (stream : Option StreamState) (n : ℕ) → Served deed log0 log k stream n → Logs log log2 []
      → Served deed log0 log2 k stream n
  stayed log log2 k stream n s logs =
      record {
        pieces = s.pieces;
        logs = subst (λ (xs : List Happening). Logs log0 log2 xs) (append-nil (log_of s.pieces)) (logs_on log0 log log2 (log_of s.pieces) [] s.logs logs);
        are = s.are;
        given = s.given;
        last = s.last;
        idle = s.idle;
      }

  -- more was seen of the stream's session
  pub looked : (log : Option (List Happening)) (k : Known) (s u : StreamState) (n : ℕ) → Served deed log0 log k (Some s) n → u.told.mine ≡ s.told.mine → GrewFrom s u
      → Served deed log0 log k (Some u) n
  looked log k s u n st mine grew =
      record {
        pieces = st.pieces;
        logs = st.logs;
        are = st.are;
        given = stream_same s u (given_after [] st.pieces) st.given mine grew;
        last = last_grew deed (last_text None st.pieces) k s u st.last grew;
        idle = st.idle;
      }

  -- a line was given, and put
  pub gave : (log log2 : Option (List Happening)) (k : Known) (s u : StreamState) (n : ℕ) (text : List ℕ) → Served deed log0 log k (Some s) n → GaveLine s.epoch s.told u.told text
      → GrewFrom s u → Logs log log2 (happening.Line text ∷ []) → Served deed log0 log2 k (Some u) 0
  gave log log2 k s u n text st line grew logs =
      record {
        pieces = st.pieces ++ Gives text ∷ [];
        logs = logs_more log0 log log2 st.pieces (Gives text) st.logs logs;
        are = each_append IsPiece st.pieces (Gives text ∷ []) st.are (tt, tt);
        given = subst (λ (ts : List (List ℕ)). IsStream (Some u) ts) (sym (given_gave [] st.pieces text)) (stream_more s u (given_after [] st.pieces) text st.given line grew);
        last = subst (λ (h : _). LastIs deed h k (Some u)) (sym (last_gave None st.pieces text)) (last_grew deed (last_text None st.pieces) k s u st.last grew);
        idle = record { front = st.pieces ++ Gives text ∷ []; are = sym (append-nil (st.pieces ++ Gives text ∷ [])) };
      }

  -- no message is there yet
  pub idled : (log log2 : Option (List Happening)) (k : Known) (stream : Option StreamState) (n : ℕ) → Served deed log0 log k stream n
      → Logs log log2 (happening.Answer incoming.NotYet ∷ []) → Served deed log0 log2 k stream (n + 1)
  idled log log2 k stream n st logs =
      record {
        pieces = st.pieces ++ Hears incoming.NotYet [] ∷ [];
        logs = logs_more log0 log log2 st.pieces (Hears incoming.NotYet []) st.logs logs;
        are = each_append IsPiece st.pieces (Hears incoming.NotYet [] ∷ []) st.are (refl, tt);
        given = subst (λ (ts : List (List ℕ)). IsStream stream ts) (sym (given_heard [] st.pieces incoming.NotYet [])) st.given;
        last = subst (λ (h : _). LastIs deed h k stream) (sym (last_heard None st.pieces incoming.NotYet [])) st.last;
        idle = record {
          front = st.idle.front;
          are = ap (λ (ps : List Piece). ps ++ Hears incoming.NotYet [] ∷ []) st.idle.are
              ∙ (append_assoc st.idle.front (replicate n (Hears incoming.NotYet [])) (Hears incoming.NotYet [] ∷ [])
              ∙ ap (λ (ps : List Piece). st.idle.front ++ ps) (replicate-append-replicate n 1 (Hears incoming.NotYet [])));
        };
      }

  -- an answer of the talk, with its outcomes
  pub listened : (log log2 : Option (List Happening)) (k k2 : Known) (stream stream2 : Option StreamState) (n : ℕ) (m : Incoming) (outs : List (Option (List ℕ)))
      (st : Served deed log0 log k stream n) → HasOutcomes m outs → Logs log log2 (happening.Answer m ∷ lines_in outs)
      → IsStream stream2 (if has_opened outs then [] else given_after [] st.pieces) → LastIs deed (heard_by (last_text None st.pieces) m outs) k2 stream2
      → Served deed log0 log2 k2 stream2 0
  listened log log2 k k2 stream stream2 n m outs st has logs is last =
      record {
        pieces = st.pieces ++ Hears m outs ∷ [];
        logs = logs_more log0 log log2 st.pieces (Hears m outs) st.logs logs;
        are = each_append IsPiece st.pieces (Hears m outs ∷ []) st.are (has, tt);
        given = subst (λ (ts : List (List ℕ)). IsStream stream2 ts) (sym (given_heard [] st.pieces m outs)) is;
        last = subst (λ (h : _). LastIs deed h k2 stream2) (sym (last_heard None st.pieces m outs)) last;
        idle = record { front = st.pieces ++ Hears m outs ∷ []; are = sym (append-nil (st.pieces ++ Hears m outs ∷ [])) };
      }

  -- one without outcomes, after which all is known that was
  bare : (log log2 : Option (List Happening)) (k k2 : Known) (stream stream2 : Option StreamState) (n : ℕ) (m : Incoming) (st : Served deed log0 log k stream n)
      → HasOutcomes m [] → Logs log log2 (happening.Answer m ∷ []) → k2 ≡ k → stream2 ≡ stream → LastIs deed (heard_by (last_text None st.pieces) m []) k stream
      → Served deed log0 log2 k2 stream2 0
  bare log log2 k k2 stream stream2 n m st has logs known_is stream_is last =
      subst (λ (x : Known). Served deed log0 log2 x stream2 0) (sym known_is)
      (subst (λ (x : Option StreamState). Served deed log0 log2 k x 0) (sym stream_is) (listened log log2 k k stream stream n m [] st has logs st.given last))

  -- the same of what is no request
  refused : (log log2 : Option (List Happening)) (k k2 : Known) (stream stream2 : Option StreamState) (n : ℕ) (m : Incoming) (outs : List (Option (List ℕ)))
      (st : Served deed log0 log k stream n) → outs ≡ Some malformed_text ∷ [] → HasOutcomes m outs → Logs log log2 (happening.Answer m ∷ lines_in outs) → k2 ≡ k → stream2 ≡ stream
      → LastIs deed (heard_by (last_text None st.pieces) m outs) k stream → Served deed log0 log2 k2 stream2 0
  refused log log2 k k2 stream stream2 n m outs st are has logs known_is stream_is last =
      subst (λ (x : Known). Served deed log0 log2 x stream2 0) (sym known_is)
      (subst (λ (x : Option StreamState). Served deed log0 log2 k x 0) (sym stream_is)
      (listened log log2 k k stream stream n m outs st has logs
      (subst (λ (os : List (Option (List ℕ))). IsStream stream (if has_opened os then [] else given_after [] st.pieces)) (sym are) st.given) last))

  -- the stream after a message
  after_message : (outs : List (Option (List ℕ))) (stream stream2 : Option StreamState) (texts : List (List ℕ)) → StreamAfter outs stream stream2 → IsStream stream texts
      → IsStream stream2 (if has_opened outs then [] else texts)
  after_message outs stream stream2 texts (inl o) is = subst (λ (b : Bool). IsStream stream2 (if b then [] else texts)) (sym o.0) o.1
  after_message outs stream stream2 texts (inr o) is =
      subst (λ (b : Bool). IsStream stream2 (if b then [] else texts)) (sym o.0) (subst (λ (x : Option StreamState). IsStream x texts) (sym o.1) is)

  message_heard : (log log2 : Option (List Happening)) (k k2 : Known) (stream stream2 : Option StreamState) (n : ℕ) (m : Incoming) (outs : List (Option (List ℕ)))
      → Served deed log0 log k stream n → HasOutcomes m outs → Learns deed m outs k k2 stream stream2 → Logs log log2 (happening.Answer m ∷ lines_in outs)
      → Served deed log0 log2 k2 stream2 0
  message_heard log log2 k k2 stream stream2 n (incoming.Text text) outs st has learns logs =
      listened log log2 k k2 stream stream2 n (incoming.Text text) outs st has logs (after_message outs stream stream2 (given_after [] st.pieces) learns.1 st.given) learns.0
  message_heard log log2 k k2 stream stream2 n incoming.Binary outs st has learns logs =
      refused log log2 k k2 stream stream2 n incoming.Binary outs st has has logs learns.0 learns.1 st.last
  message_heard log log2 k k2 stream stream2 n incoming.Long outs st has learns logs =
      refused log log2 k k2 stream stream2 n incoming.Long outs st has has logs learns.0 learns.1 st.last
  message_heard log log2 k k2 stream stream2 n incoming.Control outs st has learns logs =
      bare log log2 k k2 stream stream2 n incoming.Control st refl (subst (λ (os : List (Option (List ℕ))). Logs log log2 (happening.Answer incoming.Control ∷ lines_in os)) has logs)
      learns.0 learns.1 st.last
  message_heard log log2 k k2 stream stream2 n incoming.NotYet outs st has learns logs = absurd learns
  message_heard log log2 k k2 stream stream2 n incoming.Closed outs st has learns logs = absurd learns
  message_heard log log2 k k2 stream stream2 n incoming.Failed outs st has learns logs = absurd learns
  message_heard log log2 k k2 stream stream2 n incoming.NoMemory outs st has learns logs = absurd learns

  -- it ended in the middle of something
  within : (log log2 : Option (List Happening)) (k : Known) (stream stream2 : Option StreamState) (n : ℕ) (tail : List Happening) (st : Served deed log0 log k stream n)
      → Logs log log2 tail → EndsStream stream2 (given_after [] st.pieces) tail → EndedWithin deed log0 log2 stream2
  within log log2 k stream stream2 n tail st logs ends =
      record { pieces = st.pieces; tail = tail; logs = logs_on log0 log log2 (log_of st.pieces) tail st.logs logs; are = st.are; ends = ends }

  -- in the middle of nothing
  pub broken : (log : Option (List Happening)) (k : Known) (stream : Option StreamState) (n : ℕ) → Served deed log0 log k stream n → EndedWithin deed log0 log stream
  broken log k stream n st =
      record {
        pieces = st.pieces;
        tail = [];
        logs = subst (λ (xs : List Happening). Logs log0 log xs) (sym (append-nil (log_of st.pieces))) st.logs;
        are = st.are;
        ends = inl (st.given, inl refl);
      }

  -- how a turn of the stream goes on or ends
  abbrev GaveOn : Given → Option (List Happening) → Known → Option StreamState → ℕ → Type 0
  GaveOn given.Line log k stream n = Served deed log0 log k stream 0
  GaveOn (given.Rest due) log k stream n = Served deed log0 log k stream n
  GaveOn given.WriteFault log k stream n = EndedWithin deed log0 log stream
  GaveOn given.NoMemory log k stream n = EndedWithin deed log0 log stream

  gave_some : (g : Given) (log log2 : Option (List Happening)) (k : Known) (s u : StreamState) (n : ℕ) → Served deed log0 log k (Some s) n → GivesSo g s u log log2 → GrewFrom s u
      → GaveOn g log2 k (Some u) n
  gave_some given.Line log log2 k s u n st gives grew = gave log log2 k s u n gives.0 st gives.1 grew gives.2
  gave_some (given.Rest due) log log2 k s u n st gives grew = stayed log log2 k (Some u) n (looked log k s u n st gives.0 grew) gives.1
  gave_some given.WriteFault log log2 k s u n st gives grew =
      within log log2 k (Some s) (Some u) n gives.2.0 st gives.2.2
      (inr (gives.0, stream_more s u (given_after [] st.pieces) gives.0 st.given gives.1 grew, gives.2.1))
  gave_some given.NoMemory log log2 k s u n st (inl rests) grew = broken log2 k (Some u) n (stayed log log2 k (Some u) n (looked log k s u n st rests.0 grew) rests.1)
  gave_some given.NoMemory log log2 k s u n st (inr gives) grew =
      within log log2 k (Some s) (Some u) n [] st gives.2
      (inr (gives.0, stream_more s u (given_after [] st.pieces) gives.0 st.given gives.1 grew, inl refl))

  pub gave_any : (g : Given) (log log2 : Option (List Happening)) (k : Known) (stream stream2 : Option StreamState) (n : ℕ) → Served deed log0 log k stream n
      → MayGive g stream stream2 log log2 → GaveOn g log2 k stream2 n
  gave_any g log log2 k None None n st gives =
      subst (λ (x : Given). GaveOn x log2 k None n) (sym gives.1) (stayed log log2 k None n st gives.2)
  gave_any g log log2 k None (Some u) n st gives = absurd gives
  gave_any g log log2 k (Some s) None n st gives = absurd gives
  gave_any g log log2 k (Some s) (Some u) n st gives = gave_some g log log2 k s u n st gives.0 gives.1

  -- a message that wasn't answered whole
  unanswered : (log log2 : Option (List Happening)) (k : Known) (stream stream2 : Option StreamState) (n : ℕ) (tail : List Happening) → Served deed log0 log k stream n
      → stream2 ≡ stream → IsUnanswered tail → Logs log log2 tail → EndedWithin deed log0 log2 stream2
  unanswered log log2 k stream stream2 n tail st same is logs =
      subst (λ (x : Option StreamState). EndedWithin deed log0 log2 x) (sym same) (within log log2 k stream stream n tail st logs (inl (st.given, inr is)))

  -- how a look for a message ends a connection
  hears_end : (e : ConnEnd) (log log2 : Option (List Happening)) (k k2 : Known) (stream stream2 : Option StreamState) (n : ℕ) → Served deed log0 log k stream n
      → HearsEnd e k k2 stream stream2 log log2 → Spoke deed e log0 log2 k2 stream2
  hears_end end.Served log log2 k k2 stream stream2 n st h = absurd h
  hears_end (end.Refused status) log log2 k k2 stream stream2 n st h = absurd h
  hears_end end.PeerLeft log log2 k k2 stream stream2 n st h = bare log log2 k k2 stream stream2 n incoming.Closed st refl h.2 h.0 h.1 st.last
  hears_end end.TooSlow log log2 k k2 stream stream2 n st h = absurd h
  hears_end end.ReadFault log log2 k k2 stream stream2 n st h = bare log log2 k k2 stream stream2 n incoming.Failed st refl h.2 h.0 h.1 st.last
  hears_end end.WriteFault log log2 k k2 stream stream2 n st (same, inl logs) =
      broken log2 k stream2 0 (bare log log2 k k stream stream2 n incoming.Failed st refl logs refl same st.last)
  hears_end end.WriteFault log log2 k k2 stream stream2 n st (same, inr within_) = unanswered log log2 k stream stream2 n within_.0 st same within_.1 within_.2
  hears_end end.Stopped log log2 k k2 stream stream2 n st h = absurd h
  hears_end end.NoMemory log log2 k k2 stream stream2 n st (same, inl logs) =
      subst (λ (x : Option StreamState). EndedWithin deed log0 log2 x) (sym same) (broken log2 k stream n (stayed log log2 k stream n st logs))
  hears_end end.NoMemory log log2 k k2 stream stream2 n st (same, inr within_) = unanswered log log2 k stream stream2 n within_.0 st same within_.1 within_.2

  -- how a connection goes on after a look for a message
  abbrev pub HeardOn : Heard → Option (List Happening) → Known → Option StreamState → ℕ → Type 0
  HeardOn heard.Message log k stream n = Served deed log0 log k stream 0
  HeardOn heard.Nothing log k stream n = Served deed log0 log k stream (n + 1)
  HeardOn (heard.End e) log k stream n = Spoke deed e log0 log k stream

  pub heard_on : (h : Heard) (log log2 : Option (List Happening)) (k k2 : Known) (stream stream2 : Option StreamState) (n : ℕ) → Served deed log0 log k stream n
      → HearsSo deed h k k2 stream stream2 log log2 → HeardOn h log2 k2 stream2 n
  heard_on heard.Message log log2 k k2 stream stream2 n st h = message_heard log log2 k k2 stream stream2 n h.0 h.1 st h.2 h.3 h.4
  heard_on heard.Nothing log log2 k k2 stream stream2 n st h =
      subst (λ (x : Known). Served deed log0 log2 x stream2 (n + 1)) (sym h.0)
      (subst (λ (x : Option StreamState). Served deed log0 log2 k x (n + 1)) (sym h.1) (idled log log2 k stream n st h.2))
  heard_on (heard.End e) log log2 k k2 stream stream2 n st h = hears_end e log log2 k k2 stream stream2 n st h

  -- and after a rest
  pub rested : (r : Option ConnEnd) (log log2 : Option (List Happening)) (k : Known) (stream : Option StreamState) (n m f g : ℕ) → Served deed log0 log k stream (n + 1)
      → RestsSo r n m log log2 f g → GoesOn deed r log0 log2 k stream m
  rested None log log2 k stream n m f g st (logs, later, few, inl none) =
      subst (λ (x : ℕ). Served deed log0 log2 k stream x) (sym none) (settled log2 k stream (n + 1) (stayed log log2 k stream (n + 1) st logs))
  rested None log log2 k stream n m f g st (logs, later, few, inr more) =
      subst (λ (x : ℕ). Served deed log0 log2 k stream x) (sym more) (stayed log log2 k stream (n + 1) st logs)
  rested (Some end.Served) log log2 k stream n m f g st r = absurd r
  rested (Some (end.Refused status)) log log2 k stream n m f g st r = absurd r
  rested (Some end.PeerLeft) log log2 k stream n m f g st r = absurd r
  rested (Some end.TooSlow) log log2 k stream n m f g st r =
      subst (λ (x : ℕ). Served deed log0 log2 k stream x) (sym r.2 ∙ r.3) (stayed log log2 k stream (n + 1) st r.0)
  rested (Some end.ReadFault) log log2 k stream n m f g st r = absurd r
  rested (Some end.WriteFault) log log2 k stream n m f g st r = broken log2 k stream (n + 1) (stayed log log2 k stream (n + 1) st r.0)
  rested (Some end.Stopped) log log2 k stream n m f g st r = absurd r
  rested (Some end.NoMemory) log log2 k stream n m f g st r = absurd r

  -- the stream was left
  grew_left : (s u : StreamState) → LeftSo (Some s) (Some u) → GrewFrom s u
  grew_left s u left = record { number = left.0; epoch = left.1; lines = subst (λ (es : List Told). IsPrefix s.told.lines es) (sym left.2) (prefix_self s.told.lines) }

  left_served : (log : Option (List Happening)) (k : Known) (stream stream2 : Option StreamState) (n : ℕ) → Served deed log0 log k stream n → LeftSo stream stream2
      → Served deed log0 log k stream2 n
  left_served log k None None n st left = st
  left_served log k None (Some u) n st left = absurd left
  left_served log k (Some s) None n st left = absurd left
  left_served log k (Some s) (Some u) n st left = looked log k s u n st left.3 (grew_left s u left)

  left_stream : (stream stream2 : Option StreamState) (texts : List (List ℕ)) → IsStream stream texts → LeftSo stream stream2 → IsStream stream2 texts
  left_stream None None texts is left = is
  left_stream None (Some u) texts is left = absurd left
  left_stream (Some s) None texts is left = absurd left
  left_stream (Some s) (Some u) texts is left = stream_same s u texts is left.3 (grew_left s u left)

  left_ends : (stream stream2 : Option StreamState) (texts : List (List ℕ)) (tail : List Happening) → EndsStream stream texts tail → LeftSo stream stream2 → EndsStream stream2 texts tail
  left_ends stream stream2 texts tail (inl e) left = inl (left_stream stream stream2 texts e.0 left, e.1)
  left_ends stream stream2 texts tail (inr e) left = inr (e.0, left_stream stream stream2 (texts ++ e.0 ∷ []) e.1 left, e.2)

  left_within : (log log2 : Option (List Happening)) (stream stream2 : Option StreamState) → EndedWithin deed log0 log stream → Logs log log2 [] → LeftSo stream stream2
      → EndedWithin deed log0 log2 stream2
  left_within log log2 stream stream2 w logs left =
      record {
        pieces = w.pieces;
        tail = w.tail;
        logs = subst (λ (xs : List Happening). Logs log0 log2 xs) (append-nil (log_of w.pieces ++ w.tail)) (logs_on log0 log log2 (log_of w.pieces ++ w.tail) [] w.logs logs);
        are = w.are;
        ends = left_ends stream stream2 (given_after [] w.pieces) w.tail w.ends left;
      }

  pub spoke_left : (e : ConnEnd) (log log2 : Option (List Happening)) (k : Known) (stream stream2 : Option StreamState) → Spoke deed e log0 log k stream → Logs log log2 []
      → LeftSo stream stream2 → Spoke deed e log0 log2 k stream2
  spoke_left end.Served log log2 k stream stream2 s logs left = absurd s
  spoke_left (end.Refused status) log log2 k stream stream2 s logs left = absurd s
  spoke_left end.PeerLeft log log2 k stream stream2 s logs left = left_served log2 k stream stream2 0 (stayed log log2 k stream 0 s logs) left
  spoke_left end.TooSlow log log2 k stream stream2 s logs left = left_served log2 k stream stream2 3000 (stayed log log2 k stream 3000 s logs) left
  spoke_left end.ReadFault log log2 k stream stream2 s logs left = left_served log2 k stream stream2 0 (stayed log log2 k stream 0 s logs) left
  spoke_left end.WriteFault log log2 k stream stream2 s logs left = left_within log log2 stream stream2 s logs left
  spoke_left end.Stopped log log2 k stream stream2 s logs left = left_served log2 k stream stream2 0 (stayed log log2 k stream 0 s logs) left
  spoke_left end.NoMemory log log2 k stream stream2 s logs left = left_within log log2 stream stream2 s logs left
