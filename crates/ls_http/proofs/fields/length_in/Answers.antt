use Rattle.std.proofs.Common.{ℕ, ◌<◌, ◌≤◌, ◌^◌, arith}
use Rattle.std.proofs.Math.Nat.{pow-le-pow_right}
use Rattle.ls_http.proofs.fields.length_in.Goals as goal

small : (n i : ℕ) → n < 10 ^ i → i ≤ 18 → n < 10 ^ 18
small n i h le = let p : 10 ^ i ≤ 10 ^ 18 = pow-le-pow_right {n = 10} (omega arith) le in omega (arith, h, p)

pub overflow_mul-n : goal.overflow_mul-n
overflow_mul-n c = let h = small c.loop-digit.n c.loop-digit.digit-index c.loop-digit.invariant.0 (omega arith) in omega (arith, h)

pub overflow_add-n : goal.overflow_add-n
overflow_add-n c = let h = small c.loop-digit.n c.loop-digit.digit-index c.loop-digit.invariant.0 (omega arith) in omega (arith, h)
