use Rattle.std.proofs.Common.{◌≡◌, length, ap, ◌∙◌, arith, rules}
use Rattle.steer.specs.BenchPlaces.{command_pieces, chain_pieces}
use Rattle.steer.specs.Rounds.{with_command}
use Rattle.steer.proofs.ChainLemmas.{length-command_pieces, length-chain_pieces, added-command, added-room, some_pieces, few_pieces}
use Rattle.steer.proofs.RoundLemmas.{command-pops}
use Rattle.steer.proofs.round.post_command.Goals as goal

pub add_pieces-requires-2-clause-few : goal.add_pieces-requires-2-clause-few
add_pieces-requires-2-clause-few c =
    let len = length c.args.bytes.now in
    let first = added-command len c.args.room _ c.add_pieces.new.pieces.items (search rules) c.add_pieces.ensures in
    let few = few_pieces len c.args.room c.requires.short c.requires.room in
    omega (arith, ap length first, length-command_pieces len c.args.room, length-chain_pieces len c.args.room, few)

pub post-requires-clause-some : goal.post-requires-clause-some
post-requires-clause-some c =
    let len = length c.args.bytes.now in
    let first = added-command len c.args.room _ c.add_pieces.new.pieces.items (search rules) c.add_pieces.ensures in
    let all = c.as_slice.ensures.value ∙ added-room len c.args.room _ _ first c.add_pieces-2.ensures in
    rw all (some_pieces len c.args.room c.requires.some)

pub returns-clause-pops : goal.returns-clause-pops
returns-clause-pops c = λ device agree.
    let len = length c.args.bytes.now in
    let first = added-command len c.args.room _ c.add_pieces.new.pieces.items (search rules) c.add_pieces.ensures in
    let all : c.as_slice.result.now ≡ chain_pieces len c.args.room = c.as_slice.ensures.value ∙ added-room len c.args.room _ _ first c.add_pieces-2.ensures in
    let readable : c.len-readable.result ≡ length (command_pieces len) = c.len-readable.ensures.value ∙ ap length first in
    let written : c.write.new.self ≡ with_command c.args.mem.now c.args.bytes.now = rw c.unwrap.ensures at c.write.ensures.ok in
    let pops = rw (c.unwrap-2.ensures, written, all, readable) at c.post.ensures.pops in
    command-pops c.args.mem.now c.args.bytes.now c.requires.memory c.requires.short c.args.driver_end.now device c.requires.place agree c.args.room c.requires.room c.unwrap-2.result _ (pops device)
