-- A session ends, and gives the memory of its lines back.
use Rattle.std.proofs.Common.{◌≡◌, ◌≤◌, ◌⊎◌, inl, inr, ℕ, List, [], length, true, false, refl, sym, ◌∙◌, ap, subst, arith}
use Rattle.ls_value.specs.Each.{Each}
use Rattle.ls_record.specs.Records.{Life, Alive, Ending, Closed, Session, ended, is_alive, timed_out}
use Rattle.ls_record.specs.Acting.{destroyed}
use Rattle.ls_record.specs.Turning.{end_text}
use Rattle.ls_keep.specs.Keeping.{Numbered, pushed}
use Rattle.ls_keep.specs.Kept.{KeptLines as KeptNumbered, StandsKeep}
use Rattle.ls_stream.specs.Standing.{PushesLine, ClearsEnded, NumbersLine, StandsLines, StandsStream, KeepsLines, KeepsEnd, IsShort, last_line, life_of}
use Rattle.ls_stream.specs.declared.lines.Life.TheVariants as life
use Rattle.ls_stream.specs.declared.lines.Lines.{Lines as Kept}
use Rattle.ls_stream.proofs.Reading.{lines_last, lines_numbered_first}

-- the lines were given back, and all else stays
pub record GaveBack (k k' : Kept) : Type 0 where
  pub owed : k'.owed.items ≡ []
  pub texts : k'.keep.texts ≡ []
  pub last : k'.keep.given_up ≡ last_line k
  pub freed : k'.keep.freed ≡ []
  pub sent : k'.sent ≡ k.keep.sent
  pub rest : k' ≡ record k { owed = k'.owed; keep = k'.keep; sent = k'.sent }

-- the texts of END are ready
ends_by : (for_destroyed for_timed_out end : List ℕ) (l : Life) → KeepsEnd for_destroyed for_timed_out end l → is_alive l ≡ true
    → (for_destroyed ≡ end_text destroyed) × (for_timed_out ≡ end_text timed_out)
ends_by for_destroyed for_timed_out end Alive ready alive = ready
ends_by for_destroyed for_timed_out end (Ending code) ready alive = absurd (let x : false ≡ true = alive in cc)
ends_by for_destroyed for_timed_out end (Closed code) ready alive = absurd (let x : false ≡ true = alive in cc)

pub ends_ready : (k : Kept) (s : Session) → StandsLines k s → is_alive s.life ≡ true
    → (k.destroyed ≡ end_text destroyed) × (k.timed_out ≡ end_text timed_out)
ends_ready k s st alive = ends_by k.destroyed k.timed_out k.end s.life st.end alive

pub or_else : {A B : Type 0} → A ⊎ B → (A → ⊥) → B
or_else (inl a) none = absurd (none a)
or_else (inr b) none = b

-- a session that ended, and its END is ready
pub ended_lines : (k k₁ : Kept) (s : Session) (code : ℕ) (for_destroyed for_timed_out end : List ℕ) → StandsLines k s → is_alive s.life ≡ true
    → GaveBack k k₁ → end ≡ end_text code → IsShort for_destroyed → IsShort for_timed_out → IsShort end
    → StandsLines (record k₁ { life = life.Ending code; destroyed = for_destroyed; timed_out = for_timed_out; end = end }) (ended code s)
ended_lines k k₁ s code for_destroyed for_timed_out end st alive g is short₁ short₂ short₃ =
    let kept : KeepsLines k s = st.alive alive in
    record {
      alive = λ a. absurd (let x : false ≡ true = a in cc);
      over = λ d.
          record {
            owed = g.owed;
            texts = g.texts;
            last = g.last ∙ lines_last k s st;
            sent = g.sent ∙ kept.keep.sent;
            numbered = lines_numbered_first k s st;
          };
      stream = subst (λ (x : Kept). StandsStream x.stream s.streams) (sym g.rest) st.stream;
      unbound = ap (λ (x : Kept). x.unbound) g.rest ∙ st.unbound;
      life = refl;
      end = is;
      short = record {
        owed = subst (λ (ts : List (List ℕ)). Each IsShort ts) (sym g.owed) tt;
        kept = subst (λ (ts : List (List ℕ)). Each IsShort ts) (sym g.texts) tt;
        freed = subst (λ (t : List ℕ). IsShort t) (sym g.freed) (omega arith);
        given = subst (λ (x : Kept). IsShort x.given) (sym g.rest) st.short.given;
        destroyed = short₁;
        timed_out = short₂;
        end = short₃;
      };
    }

-- a line is numbered, and none is kept where the session has ended
pub numbers : (old mid new : Kept) (text : List ℕ) → PushesLine old text mid → ClearsEnded mid new → NumbersLine old text new
numbers old mid new text p c =
    let same : life_of mid.life ≡ life_of old.life = ap (λ (k : Kept). life_of k.life) p.rest in
    record {
      keep = λ a n st. subst (λ (k : Kept). StandsKeep k.keep (pushed text n)) (sym (c.alive (ap is_alive same ∙ a))) (p.keep n st);
      none = λ d. c.over (ap is_alive same ∙ d);
      last = c.last ∙ p.last;
      room = omega (arith, c.room, p.room);
      short = λ all few. c.short (p.short all few);
      rest = c.rest ∙ ap (λ (k : Kept). record k { keep = new.keep }) p.rest;
    }

-- the lines of a session that has ended are none
pub cleared_is : (old : Kept) (keep : KeptNumbered) → keep.texts ≡ [] → keep.given_up ≡ last_line old → keep.freed ≡ old.keep.freed
    → old.keep.spare ≤ keep.spare → (is_alive (life_of old.life) ≡ false) → ClearsEnded old (record old { keep = keep })
cleared_is old keep none last freed room ended =
    record {
      alive = λ a. absurd (let x : true ≡ false = sym a ∙ ended in cc);
      over = λ d. none;
      last = omega (arith, last, ap {B = ℕ} length none);
      room = room;
      short = λ all. record {
        owed = all.owed;
        kept = subst (λ (ts : List (List ℕ)). Each IsShort ts) (sym none) tt;
        freed = subst (λ (t : List ℕ). IsShort t) (sym freed) all.freed;
        given = all.given;
        destroyed = all.destroyed;
        timed_out = all.timed_out;
        end = all.end;
      };
      rest = refl;
    }
