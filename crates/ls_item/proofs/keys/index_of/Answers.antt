use Rattle.std.proofs.Common.{rules}
use Rattle.std.proofs.lemmas.List.Sorted.{IsPartitionPoint-from_clause}
use Rattle.ls_event.specs.Keyed.{is_before}
use Rattle.ls_item.proofs.Places.{parted, point_place}
use Rattle.ls_item.proofs.keys.index_of.Goals as goal

pub returns-clause-index : goal.returns-clause-index
returns-clause-index c =
    let point = IsPartitionPoint-from_clause (λ k. is_before k.key c.args.key.now) _ _
    c.partition_point.ensures.partitioned (parted _ _ c.requires) (λ a r q k. search rules) in
    point_place _ _ _ c.partition_point.ensures.bound point
