-- Pieces that are read one after another.
use Rattle.std.proofs.Common.{◌≡◌, ℕ, List, [], ◌++◌, Option, sym, ap, ◌∙◌, append_assoc, append-nil, arith}
use Rattle.std.specs.Io.KnownBytes.{Keeps}
use Rattle.std.proofs.KnownBytes.{Consumes-nil, Consumes-trans, Consumes-kept}
use Rattle.ls_conn_http.specs.Taking.{Reads, Counts}

pub reads_none : (a b : Option (List ℕ)) (x y : List ℕ) → Keeps a b → y ≡ x → Reads a b x y
reads_none a b x y k same = record { gained = []; consumes = Consumes-kept a a b [] (Consumes-nil a) k; are = same ∙ sym (append-nil x) }

pub reads_start : (a : Option (List ℕ)) (x : List ℕ) → Reads a a x x
reads_start a x = record { gained = []; consumes = Consumes-nil a; are = sym (append-nil x) }

pub reads_on : (a b c : Option (List ℕ)) (x y z : List ℕ) → Reads a b x y → Reads b c y z → Reads a c x z
reads_on a b c x y z p q =
    record {
      gained = p.gained ++ q.gained;
      consumes = Consumes-trans a b c p.gained q.gained p.consumes q.consumes;
      are = q.are ∙ ap (λ (w : List ℕ). w ++ q.gained) p.are ∙ append_assoc x p.gained q.gained;
    }

pub counts_start : (n w f : ℕ) → Counts n n w w f f
counts_start n w f = record { later = omega arith; faults = omega arith; rises = omega arith; counted = λ before by'. by' }

pub counts_on : (l m n u v w f g h : ℕ) → Counts l m u v f g → Counts m n v w g h → Counts l n u w f h
counts_on l m n u v w f g h p q =
    record {
      later = omega (arith, p.later, q.later);
      faults = omega (arith, p.faults, q.faults);
      rises = omega (arith, p.rises, q.rises);
      counted = λ before by'. q.counted before (p.counted before by');
    }
