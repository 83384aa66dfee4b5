use Rattle.std.proofs.Common.{◌≡◌, arith, sym, ap, ◌∙◌, subst, unwrap_or}
use Rattle.ls_mirror.specs.Standing.{IsTableOf, table_at}
use Rattle.ls_mirror.specs.Tables.{blank_table}
use Rattle.ls_mirror.proofs.Feeding.{table_stands}
use Rattle.ls_mirror.proofs.client.Client.table.Goals as goal

pub returns-in-Some-get-clause-table : goal.returns-in-Some-get-clause-table
returns-in-Some-get-clause-table c = λ lines st.
    let at : table_at c.in-Some.subscription.now.tables c.args.item ≡ c.in-Some-get.table.now =
    ap (λ o. unwrap_or o blank_table) (sym c.in-Some-get.ensures.value) in
    subst (λ t. IsTableOf c.args.sub c.args.item lines t) at
    (table_stands c.args.self.now lines c.args.sub c.args.item c.in-Some.subscription.now (sym c.in-Some.ensures.value) (omega (arith, c.if-item-eq0.false))
    (omega (arith, c.if-subscription-item.false)) st)

pub returns-in-None-clause-table : goal.returns-in-None-clause-table
returns-in-None-clause-table c = λ lines st.
    let at : table_at c.in-Some.subscription.now.tables c.args.item ≡ c.args.self.now.blank =
    ap (λ o. unwrap_or o blank_table) (sym c.in-None.ensures.value) ∙ sym st.blank in
    subst (λ t. IsTableOf c.args.sub c.args.item lines t) at
    (table_stands c.args.self.now lines c.args.sub c.args.item c.in-Some.subscription.now (sym c.in-Some.ensures.value) (omega (arith, c.if-item-eq0.false))
    (omega (arith, c.if-subscription-item.false)) st)
