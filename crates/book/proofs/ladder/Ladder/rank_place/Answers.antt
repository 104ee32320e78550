use Rattle.std.proofs.Common.{rules, ◌≡◌, ap, ◌∙◌, subst, arith, length}
use Rattle.std.proofs.lemmas.List.Sorted.{IsPartitionPoint-from_clause}
use Rattle.std.specs.List.{insert}
use Rattle.book.specs.Ladders.{ahead, enter, ranked}
use Rattle.book.proofs.Places.{rank_parted, enter_at}
use Rattle.book.proofs.ladder.Ladder.rank_place.Goals as goal

pub returns : goal.returns
returns c =
    let order = c.args.order.now in
    let read = c.as_slice.ensures in
    let parted = rank_parted order _ (ap ranked read ∙ c.args.self.now.in_rank) in
    let point = IsPartitionPoint-from_clause (ahead order) _ _ c.partition_point.ensures.partitioned parted (λ a r q k. search rules) in
    record {
      within = omega (arith, c.partition_point.ensures.bound, ap length read);
      place = subst (λ os. enter order os ≡ insert os c.partition_point.result order) read (enter_at order _ _ c.partition_point.ensures.bound point);
    }
