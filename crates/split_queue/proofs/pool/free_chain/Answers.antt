use Rattle.std.proofs.Common.{◌++◌, ◌∷◌, [], length, drop, refl, ap, ◌∙◌, arith}
use Rattle.std.proofs.lemmas.List.{drop_at}
use Rattle.split_queue.specs.Pools.{times}
use Rattle.split_queue.proofs.PoolLaws.{in_range}
use Rattle.split_queue.proofs.FreeingLaws.{freeing-none, freeing-more, number-is_out, linked-head, owners-back, free-back, all-out}
use Rattle.split_queue.proofs.pool.free_chain.Goals as goal

pub bounds-links-head : goal.bounds-links-head
bounds-links-head c =
    let (rest, chain) = c.requires.chain in
    let out = linked-head c.args.head c.args.owners.now.items c.args.links.now rest chain in
    omega (arith, c.requires.same_size, in_range c.args.owners.now.items c.args.head (rw out refl))

pub loop-number-init : goal.loop-number-init
loop-number-init c =
    let (rest, chain) = c.requires.chain in
    record {
      freeing = ([], rest, freeing-none c.args.head c.args.owners.now.items c.args.links.now c.args.free.now.items rest chain);
      pool = c.requires.pool;
      room = refl;
    }

pub free_one-requires-clause-out : goal.free_one-requires-clause-out
free_one-requires-clause-out c =
    let (front, rest, so_far) = c.loop-number.invariant.freeing in
    rw (number-is_out c.args.head c.args.owners.now.items c.args.links.now c.args.free.now.items front c.loop-number.owners.items c.loop-number.free.items c.loop-number.number rest c.loop-number-test.true so_far) refl

pub loop-number-preserved : goal.loop-number-preserved
loop-number-preserved c =
    let (front, rest, so_far) = c.loop-number.invariant.freeing in
    let (left, more) = freeing-more c.args.head c.args.owners.now.items c.args.links.now c.args.free.now.items front c.loop-number.owners.items c.loop-number.free.items c.loop-number.number rest c.loop-number-test.true so_far in
    record {
      freeing = (front ++ c.loop-number.number ∷ [], left, rw (c.free_one.ensures.owners, c.free_one.ensures.free) more);
      pool = c.free_one.ensures.pool;
      room = c.free_one.ensures.room ∙ c.loop-number.invariant.room;
    }

pub returns-clause-owners : goal.returns-clause-owners
returns-clause-owners c =
    let (front, rest, so_far) = c.loop-number.invariant.freeing in
    c.free_one-2.ensures.owners
    ∙ owners-back c.args.head c.args.owners.now.items c.args.links.now c.args.free.now.items front c.loop-number.owners.items c.loop-number.free.items c.loop-number.number rest c.loop-number-test.false so_far

pub returns-clause-out : goal.returns-clause-out
returns-clause-out c =
    let (front, rest, so_far) = c.loop-number.invariant.freeing in
    let free = c.args.free.now.items in
    let back = free-back c.args.head c.args.owners.now.items c.args.links.now free front c.loop-number.owners.items c.loop-number.free.items c.loop-number.number rest c.loop-number-test.false so_far in
    λ number.
    ap (λ xs. times number (drop (length free) xs)) (c.free_one-2.ensures.free ∙ back)
    ∙ ap (times number) (drop_at free (front ++ c.args.head ∷ []) (length free) refl)
    ∙ all-out c.args.head c.args.owners.now.items c.args.links.now free front c.loop-number.owners.items c.loop-number.free.items c.loop-number.number rest c.loop-number-test.false so_far number
