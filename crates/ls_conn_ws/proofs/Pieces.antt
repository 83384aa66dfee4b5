-- Pieces one after another, and what follows from them.
use Rattle.std.proofs.Common.{◌≡◌, ℕ, List, [], ◌∷◌, ◌++◌, inl, inr, Option, None, Some, refl, sym, ap, subst, ◌∙◌, append-nil, if◌then◌else◌}
use Rattle.std.proofs.lemmas.Grind.{flat_map-append}
use mathlib.Core.List.{IsPrefix}
use Rattle.ls_chron.proofs.Beginnings.{prefix_trans}
use Rattle.ls_talk.specs.Lines.{Logs}
use Rattle.ls_talk.specs.declared.talk.Happening.{Happening}
use Rattle.ls_talk.specs.declared.talk.Incoming.{Incoming}
use Rattle.ls_register.specs.Deeds.{Deed}
use Rattle.ls_conn.specs.Acting.{Known}
use Rattle.ls_conn.specs.Streaming.{AreGiven}
use Rattle.ls_conn.proofs.Given.{given_later, given_more}
use Rattle.ls_conn_ws.specs.Streams.{StreamState, GrewFrom}
use Rattle.ls_conn_ws.specs.Serving.{Piece, Gives, Hears, happenings, log_of, has_opened, given_after, last_text, TextHeard, heard_by, IsStream, Keeps, LastIs}
use Rattle.ls_conn_ws.specs.Giving.{GaveLine}
use Rattle.ls_conn_ws.proofs.Logging.{logs_on}

-- the log of one piece more
pub log_more : (ps : List Piece) (p : Piece) → log_of (ps ++ p ∷ []) ≡ log_of ps ++ happenings p
log_more ps p = flat_map-append happenings ps (p ∷ []) ∙ ap (λ (xs : List Happening). log_of ps ++ xs) (append-nil (happenings p))

pub logs_more : (a b c : Option (List Happening)) (ps : List Piece) (p : Piece) → Logs a b (log_of ps) → Logs b c (happenings p) → Logs a c (log_of (ps ++ p ∷ []))
logs_more a b c ps p early late =
    subst (λ (xs : List Happening). Logs a c xs) (sym (log_more ps p)) (logs_on a b c (log_of ps) (happenings p) early late)

-- what was given, with one piece more
pub given_gave : (ts : List (List ℕ)) (ps : List Piece) (text : List ℕ) → given_after ts (ps ++ Gives text ∷ []) ≡ given_after ts ps ++ text ∷ []
given_gave ts [] text = refl
given_gave ts (Gives t ∷ ps) text = given_gave (ts ++ t ∷ []) ps text
given_gave ts (Hears m outs ∷ ps) text = given_gave (if has_opened outs then [] else ts) ps text

pub given_heard : (ts : List (List ℕ)) (ps : List Piece) (m : Incoming) (outs : List (Option (List ℕ)))
    → given_after ts (ps ++ Hears m outs ∷ []) ≡ (if has_opened outs then [] else given_after ts ps)
given_heard ts [] m outs = refl
given_heard ts (Gives t ∷ ps) m outs = given_heard (ts ++ t ∷ []) ps m outs
given_heard ts (Hears n os ∷ ps) m outs = given_heard (if has_opened os then [] else ts) ps m outs

-- the last text, with one piece more
pub last_gave : (l : Option TextHeard) (ps : List Piece) (text : List ℕ) → last_text l (ps ++ Gives text ∷ []) ≡ last_text l ps
last_gave l [] text = refl
last_gave l (Gives t ∷ ps) text = last_gave l ps text
last_gave l (Hears m outs ∷ ps) text = last_gave (heard_by l m outs) ps text

pub last_heard : (l : Option TextHeard) (ps : List Piece) (m : Incoming) (outs : List (Option (List ℕ)))
    → last_text l (ps ++ Hears m outs ∷ []) ≡ heard_by (last_text l ps) m outs
last_heard l [] m outs = refl
last_heard l (Gives t ∷ ps) m outs = last_heard l ps m outs
last_heard l (Hears n os ∷ ps) m outs = last_heard (heard_by l n os) ps m outs

-- a line more was given on a stream
pub stream_more : (s u : StreamState) (texts : List (List ℕ)) (text : List ℕ) → IsStream (Some s) texts → GaveLine s.epoch s.told u.told text → GrewFrom s u
    → IsStream (Some u) (texts ++ text ∷ [])
stream_more s u texts text is gave grew =
    subst (λ (e : ℕ). AreGiven u.told.lines e u.told.mine (texts ++ text ∷ [])) (sym grew.epoch)
    (subst (λ (ps : List ℕ). AreGiven u.told.lines s.epoch ps (texts ++ text ∷ [])) (sym gave.1)
    (given_more u.told.lines s.epoch s.told.mine texts gave.0 text (given_later s.told.lines u.told.lines s.epoch s.told.mine texts grew.lines is) gave.2))

-- none was
pub stream_same : (s u : StreamState) (texts : List (List ℕ)) → IsStream (Some s) texts → u.told.mine ≡ s.told.mine → GrewFrom s u → IsStream (Some u) texts
stream_same s u texts is mine grew =
    subst (λ (e : ℕ). AreGiven u.told.lines e u.told.mine texts) (sym grew.epoch)
    (subst (λ (ps : List ℕ). AreGiven u.told.lines s.epoch ps texts) (sym mine)
    (given_later s.told.lines u.told.lines s.epoch s.told.mine texts grew.lines is))

-- what a stream is, of which there is one
some_is : (s t : StreamState) → Some s ≡ Some t → s ≡ t
some_is s t e = cc

-- what is known goes on with the stream
pub keeps_grew : (after k : Known) (s u : StreamState) → Keeps after k (Some s) → GrewFrom s u → Keeps after k (Some u)
keeps_grew after k s u (begins, inl same) grew = (begins, inl same)
keeps_grew after k s u (begins, inr o) grew =
    let e : s ≡ o.1.1 = some_is s o.1.1 o.1.3 in (
      begins,
      inr (
        o.0,
        (
          o.1.0,
          u,
          o.1.2,
          refl,
          grew.number ∙ (ap (λ (x : StreamState). x.told.number) e ∙ o.1.4),
          prefix_trans o.1.0.lines s.told.lines u.told.lines (subst (λ (x : StreamState). IsPrefix o.1.0.lines x.told.lines) (sym e) o.1.5) grew.lines,
        ),
      ),
    )

pub last_grew : (deed : Deed) (h : Option TextHeard) (k : Known) (s u : StreamState) → LastIs deed h k (Some s) → GrewFrom s u → LastIs deed h k (Some u)
last_grew deed None k s u is grew = is
last_grew deed (Some h) k s u is grew =
    record { own = is.own; now = is.now; register = is.register; after = is.after; outcomes = is.outcomes; keeps = keeps_grew is.after k s u is.keeps grew }
