use Rattle.std.proofs.Common.{rules}
use Rattle.std.proofs.lemmas.List.Sorted.{IsPartitionPoint-from_clause}
use Rattle.matcher.specs.Rows.{stands_before}
use Rattle.matcher.proofs.rows.place_for.Goals as goal

pub returns-clause-parted : goal.returns-clause-parted
returns-clause-parted c = λ by.
    IsPartitionPoint-from_clause (λ held. stands_before held c.args.row.now) c.args.rows.now c.partition_point.result c.partition_point.ensures.partitioned by (λ a r g called. (search rules, search rules))
