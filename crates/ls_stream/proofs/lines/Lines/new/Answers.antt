use Rattle.std.proofs.Common.{◌≡◌, ℕ, List, [], true, false, subst, sym, ◌∙◌, refl, arith}
use Rattle.ls_value.specs.Each.{Each}
use Rattle.ls_stream.specs.Standing.{IsShort}
use Rattle.ls_stream.proofs.Lengths.{destroyed_short, timed_out_short}
use Rattle.ls_stream.proofs.Rebinding.{new_stream}
use Rattle.ls_stream.proofs.lines.Lines.new.Goals as goal

pub returns : goal.returns
returns c =
    record {
      alive = λ a. record { owed = c.from_vec-owed.ensures.items ∙ c.in_ok-opening.ensures.lines; keep = c.in_ok-keep.ensures.stands };
      over = λ d. absurd (let x : true ≡ false = d in cc);
      stream = new_stream c.new-2.result 1 0 c.args.create.now.length [] c.new-2.ensures (omega arith) (omega arith);
      unbound = refl;
      life = refl;
      end = (c.in_ok-destroyed.ensures, c.in_ok-timed_out.ensures);
      short = record {
        owed = subst (λ (ts : List (List ℕ)). Each IsShort ts) (sym c.from_vec-owed.ensures.items) c.in_ok-opening.ensures.short;
        kept = subst (λ (ts : List (List ℕ)). Each IsShort ts) (sym c.in_ok-keep.ensures.stands.texts) tt;
        freed = subst (λ (t : List ℕ). IsShort t) (sym c.in_ok-keep.ensures.freed) (omega arith);
        given = subst (λ (t : List ℕ). IsShort t) (sym (c.from_vec.ensures ∙ c.new-3.ensures.items)) (omega arith);
        destroyed = subst (λ (t : List ℕ). IsShort t) (sym c.in_ok-destroyed.ensures) destroyed_short;
        timed_out = subst (λ (t : List ℕ). IsShort t) (sym c.in_ok-timed_out.ensures) timed_out_short;
        end = subst (λ (t : List ℕ). IsShort t) (sym (c.from_vec-2.ensures ∙ c.new-4.ensures.items)) (omega arith);
      };
    }
