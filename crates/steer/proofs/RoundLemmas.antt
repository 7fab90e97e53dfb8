-- A command's round: both ends are ready again after it, and the ring holds the command and its reply.
use Rattle.std.proofs.Common.{◌≡◌, ℕ, ◌+◌, ◌<◌, ◌≤◌, inl, inr, Bool, true, false, nat_lt, if◌then◌else◌, List, [], length, length-take, take, Option, Some, None, Result, Ok, refl, sym, ap, ◌∙◌, subst, arith}
use Rattle.guest_mem.specs.Memory.{ChangesOnly, IsInRange}
use Rattle.guest_mem.proofs.Bytes.{bytes_at-with_bytes, with_bytes-changes}
use Rattle.guest_mem.proofs.Changes.{changes-wider}
use Rattle.admin_wire.specs.Replies.{whole_reply}
use Rattle.cap_table.specs.Answers.{verdict_of}
use Rattle.cap_table.specs.States.{DeviceState}
use Rattle.cap_table.specs.Steps.{reply_in, reply_of}
use Rattle.cap_table.specs.declared.answer.Answer.{Answer}
use Rattle.split_queue.specs.Agreement.{Agree, ArePostable, KeepsQueue, IsInQueue, Round, IsRound, IsReplyRound, HoldsAnswer, after_round, chain_of_pieces}
use Rattle.split_queue.specs.Chains.{bytes_in, with_bytes_in, IsInPieces}
use Rattle.split_queue.specs.DeviceEnds.{DeviceEndState, after_pop, after_push}
use Rattle.split_queue.specs.DriverEnds.{DriverEndState, IsValidDriver, post_answer, after_post, pool_after_post, take_answer, after_take}
use Rattle.split_queue.specs.Rings.{index_after, available_idx, used_idx, with_used_entry}
use Rattle.split_queue.specs.declared.chain.Chain.{Chain}
use Rattle.split_queue.specs.declared.error.RingErr.{RingErr}
use Rattle.split_queue.proofs.AgreementLaws.{agree-kept, pieces-keep, post-changes, round-takes, round-agrees, round-frees}
use Rattle.split_queue.proofs.AnswerLaws.{answer-held}
use Rattle.split_queue.proofs.ReplyLaws.{with_bytes_in-changes}
use Rattle.steer.specs.BenchPlaces.{bench_bytes, bench_place, command_addr, command_step, most_command, most_room, command_pieces, room_pieces, chain_pieces, chain_with}
use Rattle.steer.specs.BenchState.{AreReady}
use Rattle.steer.specs.HeldCommands.{HoldsCommand}
use Rattle.steer.specs.Rounds.{with_command, with_posted, round_of}
use Rattle.steer.proofs.ChainLemmas.{bytes_in-cut_pieces, readable_pieces, writable_pieces, room_of-room_pieces, some_pieces, room-inside, room-clear, postable, short_pieces, lie_apart}

-- ---- a reply fits in its room

reply_in-fits : (answer : Option Answer) (room : ℕ) → length (reply_in answer room) ≤ room
reply_in-fits None room = omega arith
reply_in-fits (Some answer) room = cut (nat_lt room 8) where
  cut : (none : Bool) → length (if none then [] else take room (whole_reply answer.reply)) ≤ room
  cut true = omega arith
  cut false = omega (arith, length-take room (whole_reply answer.reply))

pub reply-fits : (state : DeviceState) (bytes : List ℕ) (room : ℕ) → length (reply_of state bytes room) ≤ room
reply-fits state bytes room = reply_in-fits (verdict_of state bytes room) room

-- ---- the command is written

module _ (mem command : List ℕ) (size : length mem ≡ bench_bytes) (short : length command ≤ most_command) where
  command-inside : command_addr + length command ≤ length mem
  command-inside = omega (arith, size, short)

  command-changes : ChangesOnly mem (with_command mem command) (IsInRange command_addr (length command))
  command-changes = with_bytes-changes mem command_addr command command-inside

  outside : (addr : ℕ) → IsInRange command_addr (length command) addr → ¬ IsInQueue bench_place addr
  outside addr here (inl table) = absurd (omega (arith, here.0, table.1))
  outside addr here (inr (inl available)) = absurd (omega (arith, here.0, available.1))
  outside addr here (inr (inr used)) = absurd (omega (arith, here.0, used.1))

  pub command-keeps : KeepsQueue mem (with_command mem command) bench_place
  command-keeps = changes-wider mem (with_command mem command) (IsInRange command_addr (length command)) (λ addr. ¬ IsInQueue bench_place addr) outside command-changes

  pub length-with_command : length (with_command mem command) ≡ bench_bytes
  length-with_command = command-changes.size ∙ size

  pub bytes_in-command : bytes_in (with_command mem command) (command_pieces (length command)) ≡ command
  bytes_in-command =
      bytes_in-cut_pieces command_addr (length command) command_step (omega arith) (with_command mem command)
      ∙ bytes_at-with_bytes mem command_addr command command-inside

  -- a device that pops the chain gets the command, with the room
  pub chain-is : (head room : ℕ) → chain_of_pieces (with_command mem command) head (chain_pieces (length command) room) (length (command_pieces (length command))) ≡ chain_with head command room
  chain-is head room = rw (readable_pieces (length command) room, writable_pieces (length command) room, bytes_in-command) refl

  module _ (driver : DriverEndState) (device : DeviceEndState) (place : driver.place ≡ bench_place) (agree : Agree driver device mem) where
    pub command-agree : Agree driver device (with_command mem command)
    command-agree = agree-kept driver device mem (with_command mem command) agree (subst (KeepsQueue mem (with_command mem command)) (sym place) command-keeps)

    module _ (room : ℕ) (small : room ≤ most_room) where
      pub command-postable : ArePostable (length (with_command mem command)) driver.place (chain_pieces (length command) room) (length (command_pieces (length command)))
      command-postable = rw (place, length-with_command) (postable (length command) room short small)

      -- what a device pops that agrees
      pub command-pops : (head : ℕ) (answer : Result (Option Chain) RingErr) → (Agree driver device (with_command mem command)
          → ArePostable (length (with_command mem command)) driver.place (chain_pieces (length command) room) (length (command_pieces (length command)))
          → answer ≡ Ok (Some (chain_of_pieces (with_command mem command) head (chain_pieces (length command) room) (length (command_pieces (length command))))))
          → answer ≡ Ok (Some (chain_with head command room))
      command-pops head answer pops = pops command-agree command-postable ∙ ap (λ chain. Ok (Some chain)) (chain-is head room)

-- ---- the whole round

-- a command was sent: the driver gets its chain back, both ends are ready again then, and the ring holds the command
pub record IsSent (driver : DriverEndState) (device : DeviceEndState) (command : List ℕ) (room : ℕ) (reply : List ℕ) (head : ℕ) (after : List ℕ) : Type 0 where
  pub size : length after ≡ bench_bytes
  pub gives : take_answer after driver.place (pool_after_post driver.pool (length (chain_pieces (length command) room))) driver.used ≡ Ok (Some (head, length reply))
  pub ready : AreReady (after_take (after_post driver (length (chain_pieces (length command) room))) head) (after_push (after_pop device)) after
  pub holds : HoldsCommand after (index_after driver.next) command room reply

module _ (driver : DriverEndState) (device : DeviceEndState) (mem : List ℕ) (ready : AreReady driver device mem) (valid : IsValidDriver driver)
    (command : List ℕ) (room : ℕ) (some : 0 < length command) (short : length command ≤ most_command) (small : room ≤ most_room) where
  agree-command : Agree driver device (with_command mem command)
  agree-command = command-agree mem command ready.bytes short driver device ready.place ready.agree

  pub length-posted : length (with_posted mem driver command room) ≡ bench_bytes
  length-posted =
      (post-changes driver device valid (with_command mem command) (chain_pieces (length command) room) (length (command_pieces (length command))) agree-command).size
      ∙ length-with_command mem command ready.bytes short

  module _ (reply : List ℕ) (head : ℕ) (fits : length reply ≤ room) (posts : post_answer driver (length (chain_pieces (length command) room)) ≡ Ok head) where
    abbrev round : Round
    round = round_of mem driver head command room reply

    reply-changes : ChangesOnly (with_posted mem driver command room) round.at_push (IsInPieces (room_pieces room))
    reply-changes = with_bytes_in-changes (with_posted mem driver command room) (room_pieces room) reply (rw length-posted (room-inside (length command) room short small))

    is_round : IsRound driver device round
    is_round = record {
      agree = agree-command;
      some = some_pieces (length command) room some;
      posts = posts;
      keeps = subst (KeepsQueue (with_posted mem driver command room) round.at_push) (sym ready.place) (pieces-keep (with_posted mem driver command room) round.at_push bench_place (room_pieces room) reply-changes (room-clear (length command) room short small));
      short = omega (arith, fits, small);
      gives_back = rw (ready.agree.place, ready.agree.used_next, ready.place) refl;
    }

    is_reply_round : IsReplyRound driver device round reply
    is_reply_round = record {
      is_round = is_round;
      postable = command-postable mem command ready.bytes short driver device ready.place ready.agree room small;
      lengths = short_pieces (length command) room short small;
      places = lie_apart (length command) room short small;
      fits = rw (writable_pieces (length command) room, room_of-room_pieces (length command) room) fits;
      written = rw (writable_pieces (length command) room) refl;
    }

    round-gives : take_answer round.at_take driver.place (pool_after_post driver.pool (length round.pieces)) driver.used ≡ Ok (Some (head, length reply))
    round-gives = round-takes driver device round valid is_round

    agrees : Agree (after_round driver round) (after_push (after_pop device)) round.at_take
    agrees = round-agrees driver device round valid is_round

    round-ready : AreReady (after_round driver round) (after_push (after_pop device)) round.at_take
    round-ready = record {
      place = ready.place;
      bytes = sym agrees.driver_memory ∙ ready.agree.driver_memory ∙ ready.bytes;
      agree = agrees;
      all_back = ap index_after ready.all_back;
      all_free = round-frees driver device round valid is_round ∙ ready.all_free;
    }

    round-holds : HoldsCommand round.at_take (index_after driver.next) command room reply
    round-holds = record {
      available = subst (λ place. available_idx round.at_take place ≡ index_after driver.next) ready.place agrees.available_idx;
      used = subst (λ place. used_idx round.at_take place ≡ index_after driver.next) ready.place (agrees.used_idx ∙ ap index_after ready.all_back);
      head = head;
      answer =
          subst (λ place. HoldsAnswer round.at_take place (chain_with head command room) round.pieces round.readable reply (length reply)) ready.place
          (subst (λ chain. HoldsAnswer round.at_take driver.place chain round.pieces round.readable reply (length reply)) (chain-is mem command ready.bytes short head room)
          (answer-held driver device round reply valid is_reply_round));
    }

    -- what the steps of the round leave
    module _ (posted after : List ℕ) (device_popped : DeviceEndState) (chain : Chain) (is_posted : posted ≡ with_posted mem driver command room)
        (is_chain : chain ≡ chain_with head command room) (is_popped : device_popped ≡ after_pop device)
        (is : after ≡ with_used_entry (with_bytes_in posted chain.writable.items reply) device_popped.place device_popped.used chain.head (length reply)) where
      after-is : after ≡ round.at_take
      after-is = is ∙ rw (is_posted, is_chain, is_popped, ready.agree.place, ready.agree.used_next, ready.place) refl

      pub steps-leave : IsSent driver device command room reply head after
      steps-leave = rw after-is (record { size = round-ready.bytes; gives = round-gives; ready = round-ready; holds = round-holds })

-- one answer is given
pub same-given : {X E : Type 0} (answer : Result (Option X) E) (one other : X) → answer ≡ Ok (Some one) → answer ≡ Ok (Some other) → one ≡ other
same-given answer one other is is_other = cc
