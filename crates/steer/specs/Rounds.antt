-- The memory of a bench while a command goes through its ring. This project's own.
use Rattle.std.specs.Prelude.{ℕ, List, length}
use Rattle.guest_mem.specs.Memory.{with_bytes}
use Rattle.split_queue.specs.Agreement.{Round}
use Rattle.split_queue.specs.Chains.{with_bytes_in}
use Rattle.split_queue.specs.DriverEnds.{DriverEndState, with_post}
use Rattle.split_queue.specs.Rings.{with_used_entry}
use Rattle.steer.specs.BenchPlaces.{bench_place, command_addr, command_pieces, room_pieces, chain_pieces}

-- the memory with a command, and after its chain was posted
abbrev pub with_command : List ℕ → List ℕ → List ℕ
with_command mem command = with_bytes mem command_addr command

abbrev pub with_posted : List ℕ → DriverEndState → List ℕ → ℕ → List ℕ
with_posted mem driver command room =
    let len = length command in
    with_post (with_command mem command) driver (chain_pieces len room) (length (command_pieces len))

-- the round of a command: its chain is posted, the reply is written into the room, and the chain comes back with the
-- reply's length
abbrev pub round_of : List ℕ → DriverEndState → ℕ → List ℕ → ℕ → List ℕ → Round
round_of mem driver head command room reply =
    let at_push = with_bytes_in (with_posted mem driver command room) (room_pieces room) reply in record {
      pieces = chain_pieces (length command) room;
      readable = length (command_pieces (length command));
      head = head;
      len = length reply;
      at_post = with_command mem command;
      at_push = at_push;
      at_take = with_used_entry at_push bench_place driver.used head (length reply);
    }
