-- A part of a line that is kept.
use Rattle.std.proofs.Common.{◌≡◌, ℕ, ◌≤◌, ◌-◌, List, ◌++◌, length, subst, arith, length-append}
use Rattle.ls_lines.specs.Lines.{IsPlain, IsLine, Cutting}
use Rattle.ls_lines.proofs.Cutting.{plain_on}

pub plain_by : (c : Cutting) (limit : ℕ) (joined carry part : List ℕ) → record { limit = limit; joined = joined; carry = carry } ≡ c → IsLine limit carry
    → IsPlain part → IsPlain (c.carry ++ part)
plain_by c limit joined carry part is l p = subst (λ (d : Cutting). IsPlain (d.carry ++ part)) is (plain_on carry part l.plain p)

pub line_on : (limit : ℕ) (carry part : List ℕ) (n m : ℕ) → n ≡ length carry → m ≡ length part → m ≤ limit - n → IsLine limit carry → IsPlain part
    → IsLine limit (carry ++ part)
line_on limit carry part n m is too within l p =
    record { plain = plain_on carry part l.plain p; short = omega (arith, length-append carry part, is, too, within, l.short) }

pub line_by : (c : Cutting) (limit : ℕ) (joined carry part : List ℕ) → record { limit = limit; joined = joined; carry = carry } ≡ c
    → IsLine limit (carry ++ part) → IsLine c.limit (c.carry ++ part)
line_by c limit joined carry part is l = subst (λ (d : Cutting). IsLine d.limit (d.carry ++ part)) is l
