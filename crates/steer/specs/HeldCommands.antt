-- That a command and its reply really lie in a bench's ring. This project's own; what a chain of descriptors is comes
-- from split_queue.
use Rattle.std.specs.Prelude.{◌≡◌, ℕ, List, length}
use Rattle.split_queue.specs.Agreement.{HoldsAnswer}
use Rattle.split_queue.specs.Rings.{available_idx, used_idx}
use Rattle.steer.specs.BenchPlaces.{bench_place, command_pieces, chain_pieces, chain_with}

-- the ring holds a command and its reply, where this is the number of commands modulo 2^16. Both indexes are that
-- number. There is a head for which: the slot of the available ring that was filled last has the head; the longest walk
-- from it holds the pieces at the command's place, which the device reads, and then those of the room, which it writes;
-- the chain at the head has the command as its readable part, and the room's pieces as its writable buffers, which
-- begin with the reply; the used element that was written last names the head and the reply's length.
pub record HoldsCommand (mem : List ℕ) (commands : ℕ) (command : List ℕ) (room : ℕ) (reply : List ℕ) : Type 0 where
  pub available : available_idx mem bench_place ≡ commands
  pub used : used_idx mem bench_place ≡ commands
  pub head : ℕ
  pub answer : HoldsAnswer mem bench_place (chain_with head command room) (chain_pieces (length command) room)
      (length (command_pieces (length command))) reply (length reply)
