-- What was written of a stream behind a head.
use Rattle.std.proofs.Common.{◌≡◌, ◌≤◌, arith, ℕ, List, [], ◌∷◌, ◌++◌, inl, inr, take, drop, Bool, true, false, Option, Some, None, refl, sym, ap, ◌∙◌, append_assoc, append-nil, take-append-drop}
use Rattle.std.specs.Io.KnownBytes.{Appends, Keeps, append_known}
use Rattle.std.proofs.KnownBytes.{Appends-kept}
use mathlib.Core.List.{IsPrefix}
use Rattle.ls_chron.proofs.Beginnings.{prefix_self}
use Rattle.ls_wire.specs.Writing.{cut_to}
use Rattle.ls_wire.proofs.Begun.{begun_grows}
use Rattle.ls_talk.specs.Lines.{line_bytes}
use Rattle.ls_told.specs.Seen.{Testified}
use Rattle.ls_conn.specs.declared.report.StreamEnd.{StreamEnd}
use Rattle.ls_conn.specs.declared.report.StreamEnd.TheVariants as stream
use Rattle.ls_conn.specs.Streaming.{Puts, PutsPart, PutsFront, Streamed, lines_of}
use Rattle.ls_conn.proofs.Given.{lines_more, bound_sees}
use Rattle.ls_outside.specs.Causes.{Rose, one_more}
use Rattle.ls_talk.specs.Lines.{Lender}
use Rattle.ls_told.specs.Requests.{HasBound}
use Rattle.ls_conn.specs.Lasting.{HasLast, LastBecomes, OpenedOne}
use Rattle.ls_conn.proofs.Lasts.{last_holds}
use Rattle.ls_conn_http.specs.Opening.{SentOver, is_put}

-- what was put of texts: a part of their lines, or all
pub record Put (e : StreamEnd) (old new : Option (List ℕ)) (texts : List (List ℕ)) : Type 0 where
  pub bytes : List ℕ
  pub appends : Appends old new bytes
  pub part : IsPrefix bytes (lines_of texts)
  pub all : is_put e ≡ true → bytes ≡ lines_of texts

all_put : (e : StreamEnd) (old new : Option (List ℕ)) (texts : List (List ℕ)) → Appends old new (lines_of texts) → Put e old new texts
all_put e old new texts a = record { bytes = lines_of texts; appends = a; part = prefix_self (lines_of texts); all = λ is. refl }

part_put : (old new : Option (List ℕ)) (texts : List (List ℕ)) → PutsPart old new texts → Put stream.WriteFault old new texts
part_put old new texts p =
    record {
      bytes = lines_of p.front ++ take p.cut (line_bytes p.last);
      appends = p.appends;
      part = (
        drop p.cut (line_bytes p.last),
        append_assoc (lines_of p.front) (take p.cut (line_bytes p.last)) (drop p.cut (line_bytes p.last))
            ∙ ap (λ (x : List ℕ). lines_of p.front ++ x) (take-append-drop p.cut (line_bytes p.last))
            ∙ sym (lines_more p.front p.last) ∙ ap lines_of (sym p.are),
      );
      all = λ is. absurd (let f : false ≡ true = is in cc);
    }

front_put : (old new : Option (List ℕ)) (texts : List (List ℕ)) → PutsFront old new texts → Put stream.NoMemory old new texts
front_put old new texts p =
    record {
      bytes = lines_of p.front;
      appends = p.appends;
      part = (line_bytes p.last, sym (lines_more p.front p.last) ∙ ap lines_of (sym p.are));
      all = λ is. absurd (let f : false ≡ true = is in cc);
    }

pub was_put : (e : StreamEnd) (old new : Option (List ℕ)) (texts : List (List ℕ)) → Puts e old new texts → Put e old new texts
was_put stream.Looped old new texts p = all_put stream.Looped old new texts p
was_put (stream.Ended code) old new texts p = all_put (stream.Ended code) old new texts p
was_put (stream.Superseded e) old new texts p = all_put (stream.Superseded e) old new texts p
was_put stream.Unbound old new texts p = all_put stream.Unbound old new texts p
was_put stream.PeerLeft old new texts p = all_put stream.PeerLeft old new texts p
was_put stream.WriteFault old new texts (inl a) = all_put stream.WriteFault old new texts a
was_put stream.WriteFault old new texts (inr p) = part_put old new texts p
was_put stream.Stopped old new texts p = all_put stream.Stopped old new texts p
was_put stream.Spent old new texts p = all_put stream.Spent old new texts p
was_put stream.NoMemory old new texts (inl a) = all_put stream.NoMemory old new texts a
was_put stream.NoMemory old new texts (inr p) = front_put old new texts p

-- what was written where the rest is held back
pub record Wrote (a c : Option (List ℕ)) (head unsent put : List ℕ) : Type 0 where
  pub written : List ℕ
  pub appends : Appends a c written
  pub part : IsPrefix written (head ++ put)
  pub all : unsent ≡ [] → written ≡ head ++ put

cancel : (x y z : List ℕ) → x ++ y ≡ x ++ z → y ≡ z
cancel [] y z e = e
cancel (b ∷ x) y z e = cancel x y z (let f : b ∷ (x ++ y) ≡ b ∷ (x ++ z) = e in cc)

by_rest : (head put unsent written : List ℕ) → written ++ unsent ≡ head ++ put → unsent ≡ [] → written ≡ head ++ put
by_rest head put unsent written e none = sym (append-nil written) ∙ ap (λ (x : List ℕ). written ++ x) (sym none) ∙ e

pub wrote : (a c : Option (List ℕ)) (head unsent put : List ℕ) → cut_to a c ≡ a → Appends (append_known a head) (append_known c unsent) put → Wrote a c head unsent put
wrote None c head [] put begun p = record { written = head ++ put; appends = tt; part = prefix_self (head ++ put); all = λ none. refl }
wrote None c head (u ∷ us) put begun p =
    record { written = []; appends = tt; part = (head ++ put, refl); all = λ none. absurd (let e : u ∷ us ≡ [] = none in cc) }
wrote (Some x) None head unsent put begun p = absurd p
wrote (Some x) (Some z) head unsent put begun p =
    let g = begun_grows (Some x) (Some z) begun in
    let e : g.0 ++ unsent ≡ head ++ put =
    cancel x (g.0 ++ unsent) (head ++ put)
    (sym (append_assoc x g.0 unsent) ∙ ap (λ (w : List ℕ). w ++ unsent) (sym g.1) ∙ p ∙ append_assoc x head put) in
    record { written = g.0; appends = g.1; part = (unsent, e); all = λ none. by_rest head put unsent g.0 e none }

longer_part : (head written put all : List ℕ) → IsPrefix written (head ++ put) → IsPrefix put all → IsPrefix written (head ++ all)
longer_part head written put all p q =
    (p.0 ++ q.0, sym (append_assoc written p.0 q.0) ∙ ap (λ (x : List ℕ). x ++ q.0) p.1 ∙ append_assoc head put q.0 ∙ ap (λ (x : List ℕ). head ++ x) q.1)

pub sent_over : (e : StreamEnd) (whole : Bool) (epoch : ℕ) (head unsent unsent2 : List ℕ) (a b c : Option (List ℕ)) (t u : Testified)
    → Streamed e epoch t u (append_known a head) (append_known b unsent) → Keeps (append_known b unsent) (append_known c unsent2) → cut_to a c ≡ a
    → (whole ≡ true → unsent2 ≡ []) → SentOver e whole epoch head a c t u
sent_over e whole epoch head unsent unsent2 a b c t u s keeps begun clear =
    let p = was_put e (append_known a head) (append_known b unsent) s.texts s.puts in
    let w = wrote a c head unsent2 p.bytes begun (Appends-kept (append_known a head) (append_known b unsent) (append_known c unsent2) p.bytes p.appends keeps) in
    record {
      places = s.places;
      texts = s.texts;
      mine = s.mine;
      given = s.given;
      sees = s.sees;
      ends = s.ends;
      written = w.written;
      appends = w.appends;
      part = longer_part head w.written p.bytes (lines_of s.texts) w.part p.part;
      all = λ is put. w.all (clear is) ∙ ap (λ (x : List ℕ). head ++ x) (p.all put);
    }

-- one lender
pub name_is : (a b : Lender) → Some a ≡ Some b → a.name ≡ b.name
name_is a b e = cc

pub lent_is : (a b : Lender) → Some a ≡ Some b → a.held ≡ b.held
lent_is a b e = cc

pub rose_part : (a b c : ℕ) → a ≤ b → c ≡ one_more b → Rose a c
rose_part a b c low is = omega (arith, low, is)

-- what was seen last has the Bound of a stream that was opened, and after the stream too
pub one_has_bound : (session epoch : ℕ) (ts : List Testified) → OpenedOne session epoch ts → HasLast ts (λ (t : Testified). HasBound epoch t.lines)
one_has_bound session epoch ts o = record { front = []; last = o.t; are = o.are; holds = o.bound }

pub sent_bound : (e : StreamEnd) (whole : Bool) (epoch session : ℕ) (head : List ℕ) (a c : Option (List ℕ)) (ts us : List Testified) → OpenedOne session epoch ts
    → LastBecomes ts us (SentOver e whole epoch head a c) → HasLast us (λ (t : Testified). HasBound epoch t.lines)
sent_bound e whole epoch session head a c ts us o b =
    record {
      front = b.front;
      last = b.after;
      are = b.are;
      holds = bound_sees b.before b.after epoch b.holds.sees
          (last_holds ts b.front b.before (λ (t : Testified). HasBound epoch t.lines) (one_has_bound session epoch ts o) b.were);
    }
