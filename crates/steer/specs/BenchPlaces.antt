-- Where the parts of a bench stand in its guest memory, and into which pieces a command and the room for its reply are
-- cut. This project's own; the rings are laid out as in the Virtio 1.4 draft ("Split Virtqueues").
use Rattle.std.specs.Prelude.{ℕ, zero, suc, ◌+◌, ◌-◌, min, List, [], ◌∷◌, ◌++◌}
use Rattle.std.specs.Int.{div_ceil}
use Rattle.split_queue.specs.declared.chain.Chain.{Chain}
use Rattle.split_queue.specs.declared.chain.Piece.{Piece}
use Rattle.split_queue.specs.declared.queue_place.Place.{Place}

-- the bytes of the guest memory, and the descriptors of the ring
abbrev pub bench_bytes : ℕ
bench_bytes = 8192

abbrev pub bench_size : ℕ
bench_size = 64

-- the descriptors stand at 0, the available ring at 1024 and the used ring at 2048
abbrev pub bench_place : Place
bench_place = record { size = bench_size; desc = 0; avail = 1024; used = 2048 }

-- where a command stands, and the room for its reply
abbrev pub command_addr : ℕ
command_addr = 3072

abbrev pub reply_addr : ℕ
reply_addr = 4096

-- how many bytes a command and the room have at most
abbrev pub most_command : ℕ
most_command = 1024

abbrev pub most_room : ℕ
most_room = 4096

-- how many bytes a piece of a command has, and a piece of the room
abbrev pub command_step : ℕ
command_step = 64

abbrev pub room_step : ℕ
room_step = 256

-- so many pieces of the bytes from an address on, each behind the one before, and of `step` bytes or of all that are
-- left
abbrev pub pieces_from : ℕ → ℕ → ℕ → ℕ → List Piece
pieces_from addr len step zero = []
pieces_from addr len step (suc more) =
    let part = min step len in
    record { addr = addr; len = part } ∷ pieces_from (addr + part) (len - part) step more

-- so many bytes at an address, cut into pieces of `step` bytes of which the last one is the rest; of no bytes there is
-- no piece
abbrev pub cut_pieces : ℕ → ℕ → ℕ → List Piece
cut_pieces addr len step = pieces_from addr len step (div_ceil len step)

-- the pieces of a command of so many bytes, and those of the room for its reply
abbrev pub command_pieces : ℕ → List Piece
command_pieces len = cut_pieces command_addr len command_step

abbrev pub room_pieces : ℕ → List Piece
room_pieces room = cut_pieces reply_addr room room_step

-- the pieces of the chain for a command of so many bytes and a room: the command's, and then the room's
abbrev pub chain_pieces : ℕ → ℕ → List Piece
chain_pieces len room = command_pieces len ++ room_pieces room

-- the chain of a command: what the device reads is the command, what it may write is the room
abbrev pub chain_with : ℕ → List ℕ → ℕ → Chain
chain_with head command room = record {
  head = head;
  readable = record { items = command };
  writable = record { items = room_pieces room };
}
