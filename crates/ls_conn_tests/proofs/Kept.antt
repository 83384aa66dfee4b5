-- What was seen last keeps its session's number and the Bound of its stream.
use Rattle.std.proofs.Common.{◌≡◌, ℕ, List, Option, sym, subst, ◌∙◌}
use Rattle.ls_told.specs.Seen.{Testified}
use Rattle.ls_told.specs.Requests.{HasBound, OnlyLater}
use Rattle.ls_conn.specs.declared.report.StreamEnd.{StreamEnd}
use Rattle.ls_conn.specs.Streaming.{Streamed}
use Rattle.ls_conn.specs.Lasting.{HasLast, LastBecomes}
use Rattle.ls_conn.proofs.Given.{bound_sees, number_sees}
use Rattle.ls_conn.proofs.Lasts.{last_holds}

-- of a session of this number, of which this stream was bound
abbrev pub IsOf : ℕ → ℕ → Testified → Type 0
IsOf session epoch t = (session ≡ t.number) × HasBound epoch t.lines

pub keeps_last : (P : Testified → Type 0) (Q : Testified → Testified → Type 0) (ts us : List Testified) → ((t u : Testified) → Q t u → P t → P u) → HasLast ts P
    → LastBecomes ts us Q → HasLast us P
keeps_last P Q ts us keeps h b =
    record {
      front = b.front;
      last = b.after;
      are = b.are;
      holds = keeps b.before b.after b.holds (last_holds ts b.front b.before P h b.were);
    }

pub streamed_keeps : (ending : StreamEnd) (session epoch : ℕ) (held held2 : Option (List ℕ)) (t u : Testified) → Streamed ending epoch t u held held2 → IsOf session epoch t
    → IsOf session epoch u
streamed_keeps ending session epoch held held2 t u s is = (is.0 ∙ sym (number_sees t u s.sees), bound_sees t u epoch s.sees is.1)

pub lost_keeps : (session epoch : ℕ) (t u : Testified) → OnlyLater t u → IsOf session epoch t → IsOf session epoch u
lost_keeps session epoch t u only is = subst (IsOf session epoch) (sym only.rest) is

pub bound_last : (session epoch : ℕ) (ts : List Testified) → HasLast ts (IsOf session epoch) → HasLast ts (λ (t : Testified). HasBound epoch t.lines)
bound_last session epoch ts h = record { front = h.front; last = h.last; are = h.are; holds = h.holds.1 }
