use Rattle.std.proofs.Common.{◌≡◌, ◌<◌, ◌^◌, Some, arith, rules, subst}
use Rattle.std.proofs.lemmas.Grind.{common_steps}
use Rattle.ls_mirror.specs.Standing.{table_at}
use Rattle.ls_mirror.specs.Tables.{blank_table}
use Rattle.ls_mirror.proofs.Feeding.{kept_on_err, some_one, stands_begun}
use Rattle.ls_mirror.proofs.client.Client.begin.Goals as goal

pub returns-clause-ok : goal.returns-clause-ok
returns-clause-ok c =
    stands_begun c.args.self.now c.insert.new.self c.args.sub
    (Some (record {
      items = c.args.items;
      fields = c.args.fields;
      places = c.args.places;
      tables = c.new-tables.result;
    }))
    (grind (arith, common_steps)) (λ q other. grind (arith, common_steps))
    (λ s e. subst (λ x. x.fields < 2 ^ 64) (some_one _ _ e) (omega (arith, c.ranges.fields.fits)))
    (λ s e i. subst (λ x. table_at x.tables i ≡ blank_table) (some_one _ _ e) (search rules))

pub returns-in_err-insert-clause-err : goal.returns-in_err-insert-clause-err
returns-in_err-insert-clause-err c =
    kept_on_err c.from_residual.result c.args.self.now c.insert.new.self c.in_err-insert.ensures.err
