use Rattle.std.proofs.Common.{◌≡◌, drop}
use Rattle.std.specs.List.{list_all}
use Rattle.ls_record.specs.Acting.{are_among}
use Rattle.ls_record.specs.Records.{fields_in}
use Rattle.ls_subs.proofs.adding.have_fields.Given as goal

-- the items so far have the fields
abbrev pub invariant-loop-n : goal.invariant-loop-n
invariant-loop-n l = list_all (λ n. are_among (fields_in l.defs n) l.schema) (drop l.n-index l.group)
    ≡ list_all (λ n. are_among (fields_in l.defs n) l.schema) l.group
