use Rattle.std.proofs.Common.{◌≡◌, ℕ, ◌≤◌, length, sym, ap, ◌∙◌, subst, arith}
use Rattle.std.specs.List.{All}
use Rattle.cap_table.specs.Steps.{reply_of, next_state}
use Rattle.split_queue.specs.Chains.{room_of, PieceLiesIn}
use Rattle.split_queue.specs.DeviceEnds.{DeviceEndState, after_push}
use Rattle.split_queue.specs.DriverEnds.{DriverEndState, after_post, after_take}
use Rattle.split_queue.specs.declared.chain.Chain.{Chain}
use Rattle.steer.specs.BenchPlaces.{bench_bytes, chain_pieces, chain_with, room_pieces}
use Rattle.steer.specs.BenchState.{BenchState}
use Rattle.steer.proofs.ChainLemmas.{room-inside, room_of-room_pieces}
use Rattle.steer.proofs.RoundLemmas.{IsSent, reply-fits, length-posted, steps-leave, same-given}
use Rattle.steer.proofs.bench.Bench.admin.Goals.{After-post_command-head, After-as_slice, After-give_back, After-take_back-element}
use Rattle.steer.proofs.bench.Bench.admin.Goals as goal

-- the memory keeps its size when the command's chain is posted
posted_size : (c : After-post_command-head) → length c.post_command-head.new.mem ≡ bench_bytes
posted_size c =
    ap length c.post_command-head.ensures.memory
    ∙ length-posted _ _ _ c.self.invariant.1 c.post_command-head.ensures.valid _ _ c.requires.some c.requires.short c.requires.room

-- the chain that is popped is the command's
chain_is : (c : After-as_slice) → c.pop_chain.new.chain ≡ chain_with c.post_command-head.result c.args.bytes.now c.args.room
chain_is c =
    same-given _ _ _ c.pop_chain.ensures.value (c.post_command-head.ensures.pops c.self.inside.device_end c.self.invariant.1.agree)

-- so its room is the one that was asked for, and it has the command's bytes
room_is : (c : After-as_slice) → c.room-space.result ≡ c.args.room
room_is c =
    c.room-space.ensures ∙ ap (λ (chain : Chain). room_of chain.writable.items) (chain_is c) ∙ room_of-room_pieces (length c.args.bytes.now) c.args.room

command_is : (c : After-as_slice) → c.as_slice-command.result.now ≡ c.args.bytes.now
command_is c = c.as_slice-command.ensures.value ∙ ap (λ (chain : Chain). chain.readable.items) (chain_is c)

-- and the reply fits in it
reply_fits : (c : After-as_slice) → length c.obey-reply.result.items ≤ c.args.room
reply_fits c =
    omega (arith, ap length c.obey-reply.ensures.reply, reply-fits c.self.inside.device c.as_slice-command.result.now c.room-space.result, room_is c)

-- a command whose chain was popped and given back was sent
round_is_sent : (c : After-give_back) → c.pop_chain.new.chain ≡ chain_with c.post_command-head.result c.args.bytes.now c.args.room → length c.obey-reply.result.items ≤ c.args.room → IsSent c.self.inside.driver_end c.self.inside.device_end c.args.bytes.now c.args.room c.obey-reply.result.items c.post_command-head.result c.give_back.new.mem
round_is_sent c is_chain fits =
    let memory = rw c.as_slice.ensures.value at c.give_back.ensures.memory in
    steps-leave _ _ _ c.self.invariant.1 c.post_command-head.ensures.valid _ _ c.requires.some c.requires.short c.requires.room
    c.obey-reply.result.items c.post_command-head.result fits c.post_command-head.ensures.head _ c.give_back.new.mem _ _ c.post_command-head.ensures.memory is_chain c.pop_chain.ensures.state memory

-- and the driver's end is the one behind the chain
driver_is : (c : After-take_back-element) → IsSent c.self.inside.driver_end c.self.inside.device_end c.args.bytes.now c.args.room c.obey-reply.result.items c.post_command-head.result c.give_back.new.mem → c.take_back-element.new.driver_end ≡ after_take (after_post c.self.inside.driver_end (length (chain_pieces (length c.args.bytes.now) c.args.room))) c.post_command-head.result
driver_is c was_sent =
    let value = rw c.post_command-head.ensures.state at c.take_back-element.ensures.value in
    let taken = same-given _ _ _ value was_sent.gives in
    c.take_back-element.ensures.state ∙ ap (λ (e : ℕ × ℕ). after_take c.post_command-head.new.driver_end e.0) taken
    ∙ ap (λ (end : DriverEndState). after_take end c.post_command-head.result) c.post_command-head.ensures.state

pub pop_chain-requires-clause-memory : goal.pop_chain-requires-clause-memory
pop_chain-requires-clause-memory c =
    let ready = c.self.invariant.1 in
    posted_size (goal.at.pop_chain-requires-clause-memory c).After-post_command-head ∙ sym (ready.agree.device_memory ∙ ready.bytes)

pub pop_chain-requires-clause-some : goal.pop_chain-requires-clause-some
pop_chain-requires-clause-some c =
    (chain_with c.post_command-head.result c.args.bytes.now c.args.room, c.post_command-head.ensures.pops c.self.inside.device_end c.self.invariant.1.agree)

pub give_back-requires-clause-memory : goal.give_back-requires-clause-memory
give_back-requires-clause-memory c =
    let ready = c.self.invariant.1 in
    posted_size (goal.at.give_back-requires-clause-memory c).After-post_command-head
    ∙ sym (ap (λ (e : DeviceEndState). e.mem_len) c.pop_chain.ensures.state ∙ ready.agree.device_memory ∙ ready.bytes)

pub give_back-requires-clause-inside : goal.give_back-requires-clause-inside
give_back-requires-clause-inside c =
    let size = posted_size (goal.at.give_back-requires-clause-inside c).After-post_command-head in
    subst (λ (chain : Chain). All (PieceLiesIn (length c.post_command-head.new.mem)) chain.writable.items) (sym (chain_is c))
    (subst (λ n. All (PieceLiesIn n) (room_pieces c.args.room)) (sym size) (room-inside (length c.args.bytes.now) c.args.room c.requires.short c.requires.room))

pub give_back-requires-clause-fits : goal.give_back-requires-clause-fits
give_back-requires-clause-fits c =
    omega (arith, ap length c.as_slice.ensures.value, reply_fits c, room_is c, c.room-space.ensures)

pub give_back-requires-clause-short : goal.give_back-requires-clause-short
give_back-requires-clause-short c =
    omega (arith, ap length c.as_slice.ensures.value, reply_fits c, c.requires.room)

pub returns-clause-reply : goal.returns-clause-reply
returns-clause-reply c =
    let popped = (goal.at.returns-clause-reply c).After-as_slice in
    c.obey-reply.ensures.reply
    ∙ ap (λ bytes. reply_of c.self.inside.device bytes c.room-space.result) (command_is popped)
    ∙ ap (λ room. reply_of c.self.inside.device c.args.bytes.now room) (room_is popped)
    ∙ ap (λ (b : BenchState). reply_of b.device c.args.bytes.now c.args.room) c.self.view_is

pub returns-clause-state : goal.returns-clause-state
returns-clause-state c =
    let popped = (goal.at.returns-clause-state c).After-as_slice in
    c.obey-reply.ensures.state
    ∙ ap (λ bytes. next_state c.self.inside.device bytes c.room-space.result) (command_is popped)
    ∙ ap (λ room. next_state c.self.inside.device c.args.bytes.now room) (room_is popped)
    ∙ ap (λ (b : BenchState). next_state b.device c.args.bytes.now c.args.room) c.self.view_is

pub take_back-element-requires-clause-memory : goal.take_back-element-requires-clause-memory
take_back-element-requires-clause-memory c =
    let ready = c.self.invariant.1 in
    let popped = (goal.at.take_back-element-requires-clause-memory c).After-as_slice in
    (round_is_sent (goal.at.take_back-element-requires-clause-memory c).After-give_back (chain_is popped) (reply_fits popped)).size
    ∙ sym (ap (λ (e : DriverEndState). e.mem_len) c.post_command-head.ensures.state ∙ ready.agree.driver_memory ∙ ready.bytes)

pub take_back-element-requires-clause-some : goal.take_back-element-requires-clause-some
take_back-element-requires-clause-some c =
    let popped = (goal.at.take_back-element-requires-clause-some c).After-as_slice in
    let was_sent = round_is_sent (goal.at.take_back-element-requires-clause-some c).After-give_back (chain_is popped) (reply_fits popped) in
    ((c.post_command-head.result, length c.obey-reply.result.items), rw c.post_command-head.ensures.state was_sent.gives)

pub invariant_of-self : goal.invariant_of-self
invariant_of-self c =
    let popped = (goal.at.invariant_of-self c).After-as_slice in
    let was_sent = round_is_sent (goal.at.invariant_of-self c).After-give_back (chain_is popped) (reply_fits popped) in
    let device = c.give_back.ensures.state ∙ ap after_push c.pop_chain.ensures.state in
    (c.obey-reply.ensures.machine, rw (driver_is c was_sent, device) was_sent.ready)

pub returns-clause-ring : goal.returns-clause-ring
returns-clause-ring c =
    let popped = (goal.at.returns-clause-ring c).After-as_slice in
    let was_sent = round_is_sent (goal.at.returns-clause-ring c).After-give_back (chain_is popped) (reply_fits popped) in
    rw (driver_is c was_sent) was_sent.holds

pub returns-clause-memory : goal.returns-clause-memory
returns-clause-memory c = (invariant_of-self c).1.bytes
