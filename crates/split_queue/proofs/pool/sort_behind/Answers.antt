use Rattle.std.proofs.Common.{◌≡◌, ◌-◌, length, length-take, length-drop, drop, sym, ap, subst, arith}
use Rattle.std.specs.List.Sorted.{IsNonDecreasing}
use Rattle.std.proofs.lemmas.List.Sorted.{IsNonDecreasingBy-from_sort}
use Rattle.split_queue.proofs.FreeingLaws.{end-put}
use Rattle.split_queue.proofs.pool.sort_behind.Goals as goal

pub returns-clause-sorted : goal.returns-clause-sorted
returns-clause-sorted c =
    let items = c.args.numbers.now.items in
    let now = c.deref_mut.result.now in
    let sorted = c.sort_unstable.new.self in
    let same : now ≡ items = c.deref_mut.ensures.value in
    let len : c.args.numbers.now.len ≡ length items = omega (arith, c.deref_mut.ensures.len, ap length same) in
    let size : length sorted ≡ length items - c.args.kept = omega (arith, c.sort_unstable.ensures.len, length-take (length now - c.args.kept) (drop c.args.kept now), length-drop c.args.kept now, ap length same) in
    subst IsNonDecreasing (sym (end-put items now sorted c.args.kept c.args.numbers.now.len same len c.requires size))
    (IsNonDecreasingBy-from_sort (λ n. n) sorted c.sort_unstable.ensures.sorted)
