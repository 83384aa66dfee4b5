use Rattle.std.proofs.Common.{sym, subst, ℕ, List}
use Rattle.ls_register.specs.Sessions.{IsCounted}
use Rattle.ls_register.proofs.Counting.{counted_items}
use Rattle.ls_register.proofs.book.Book.new.Goals as goal

pub invariant_of-result : goal.invariant_of-result
invariant_of-result g c = (
  c.requires.table,
  c.requires.items,
  subst (λ (p : ℕ × List ℕ). IsCounted 0 0 p.0 p.1 c.args.writer.list) (λ i. (sym c.requires.number i, sym c.new.ensures i))
      (counted_items c.args.writer.list c.requires.nothing),
)
