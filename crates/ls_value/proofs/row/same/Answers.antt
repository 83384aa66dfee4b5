use Rattle.std.proofs.Common.{◌≡◌, ◌↔◌, Bool, IsTrue, subst, sym}
use Rattle.ls_value.specs.Values.{row_eq}
use Rattle.ls_value.proofs.Rows.{row_eq_exact}
use Rattle.ls_value.proofs.row.same.Goals as goal

pub returns-clause-equal : goal.returns-clause-equal
returns-clause-equal c =
    let test : c.same_values.result ≡ row_eq c.args.a.now c.args.b.now = cc in
    subst (λ (v : Bool). IsTrue v ↔ (c.args.a.now ≡ c.args.b.now)) (sym test) (row_eq_exact c.args.a.now c.args.b.now)
