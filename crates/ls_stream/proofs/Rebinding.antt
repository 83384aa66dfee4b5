-- A client goes on behind a count, on a new stream.
use Rattle.std.proofs.Common.{◌≡◌, ◌≤◌, ℕ, ◌+◌, ◌-◌, List, [], ◌∷◌, ◌++◌, length, true, false, ◌&&◌, nat_le, Option, None, Some, refl, sym}
use Rattle.std.proofs.Common.{◌∙◌, ap, subst, arith, option_map, unwrap_or}
use Rattle.std.proofs.lemmas.Bool.{le-leb}
use Rattle.ls_value.specs.declared.limits.TheConstants.{GREATEST_NUMBER}
use Rattle.ls_keep.specs.Kept.{KeptLines as KeptNumbered}
use Rattle.ls_request.specs.declared.request.Bind.{Bind}
use Rattle.ls_record.specs.Acting.{may_resume}
use Rattle.ls_value.specs.Each.{Each}
use Rattle.ls_record.specs.Records.{Session, Stream, begun_stream, rebound, opening_lines, count_lines, is_alive}
use Rattle.ls_stream.specs.Standing.{StandsLines, StandsStream, ResumesAt, IsShort, last_line, numbered_of}
use Rattle.ls_stream.specs.declared.lines.Lines.{Lines as Kept}
use Rattle.ls_stream.specs.declared.stream.Stream.{Stream as KeptStream}
use Rattle.ls_stream.proofs.Reading.{lines_last}

-- whether it may, where the next line isn't given up
pub resumes_is : (k : Kept) (s : Session) (recover : Option ℕ) (count last : ℕ) → StandsLines k s → is_alive s.life ≡ true → recover ≡ Some count → k.keep.given_up ≤ count
    → last ≡ last_line k → nat_le count last ≡ may_resume s recover
resumes_is k s recover count last st alive is from all =
    let kept : nat_le s.given_up count ≡ true = le-leb s.given_up count (subst (λ (n : ℕ). n ≤ count) (st.alive alive).keep.given_up from) in
    ap (nat_le count) (all ∙ lines_last k s st) ∙ ap (λ v. v && nat_le count (length s.board.lines)) (sym kept) ∙ ap (may_resume s) (sym is)

-- on a stream that begins all of its content length is left
all_left : (content : Option ℕ) → content ≡ option_map (λ most. most - 0) content
all_left None = refl
all_left (Some most) = ap Some {x = most} {y = most - 0} (omega arith)

pub new_stream : (k : KeptStream) (epoch from : ℕ) (content : Option ℕ) (streams : List Stream)
    → k ≡ record { epoch = epoch; left = content; forced = false } → epoch ≡ length streams + 1 → epoch ≤ GREATEST_NUMBER
    → StandsStream k (begun_stream from content ∷ streams)
new_stream k epoch from content streams is next low =
    subst (λ (x : KeptStream). StandsStream x (begun_stream from content ∷ streams)) (sym is)
    (all_left content, refl, omega (arith, next), omega (arith, next, low))

-- the epoch of the newest stream
pub epoch_is : (k : KeptStream) (streams : List Stream) → StandsStream k streams → k.epoch ≡ length streams
epoch_is k [] st = absurd st
epoch_is k (t ∷ ts) st = st.2

-- the lines of a new stream
pub rebound_stands : (k k' : Kept) (s : Session) (b : Bind) (limit : Option ℕ) → StandsLines k s → is_alive s.life ≡ true → limit ≡ s.rate.limit
    → k' ≡ record k { owed = k'.owed; keep = k'.keep; stream = k'.stream; unbound = None }
    → k'.owed.items ≡ opening_lines b.session b.keepalive limit ++ count_lines b.recover → Each IsShort k'.owed.items
    → ResumesAt b.recover k.keep k'.keep → k'.stream ≡ record { epoch = k.stream.epoch + 1; left = b.length; forced = false }
    → k.stream.epoch + 1 ≤ GREATEST_NUMBER
    → (k'.stream.epoch ≡ length s.streams + 1) × StandsLines k' (rebound b.session b s)
rebound_stands k k' s b limit st alive rate rest owed short resumes stream low =
    let epoch : k.stream.epoch + 1 ≡ length s.streams + 1 = omega (arith, epoch_is k.stream s.streams st.stream) in (
      ap (λ (x : KeptStream). x.epoch) stream ∙ epoch,
      subst (λ (x : Kept). StandsLines x (rebound b.session b s)) (sym rest)
          (record {
            alive = λ a.
                record {
                  owed = owed ∙ ap (λ (o : Option ℕ). opening_lines b.session b.keepalive o ++ count_lines b.recover) rate;
                  keep = resumes.stands (numbered_of s) (st.alive a).keep;
                };
            over = λ d. absurd (let x : true ≡ false = sym alive ∙ d in cc);
            stream = new_stream k'.stream (k.stream.epoch + 1) (unwrap_or b.recover s.sent) b.length s.streams stream epoch low;
            unbound = refl;
            life = st.life;
            end = st.end;
            short = record {
              owed = short;
              kept = subst (λ (x : KeptNumbered). Each IsShort x.texts) (sym resumes.rest) st.short.kept;
              freed = subst (λ (x : KeptNumbered). IsShort x.freed) (sym resumes.rest) st.short.freed;
              given = st.short.given;
              destroyed = st.short.destroyed;
              timed_out = st.short.timed_out;
              end = st.short.end;
            };
          }),
    )
