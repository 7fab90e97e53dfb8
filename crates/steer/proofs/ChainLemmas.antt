-- The pieces of a command and of the room for its reply: a chain that a device takes as it was posted.
use Rattle.std.proofs.Common.{◌≡◌, ℕ, ◌+◌, ◌*◌, ◌^◌, ◌<◌, ◌≤◌, inl, inr, List, [], None, ◌++◌, length, length-append, take, drop, refl, ◌∙◌, arith}
use Rattle.std.proofs.Math.Seq.{take-append_seam, drop-append_seam}
use Rattle.std.specs.List.{All, AllPairs}
use Rattle.std.specs.Int.{div_ceil}
use Rattle.std.specs.Int.Count.{ones}
use Rattle.std.proofs.lemmas.Grind.{div_ceil_times}
use Rattle.std.proofs.lemmas.List.Elements.{All-append, All-weaker}
use Rattle.split_queue.specs.Agreement.{IsClearOf, ArePostable, LieApartForReply}
use Rattle.split_queue.specs.Chains.{room_of, bytes_in, PieceLiesIn, AreApart}
use Rattle.split_queue.specs.Setup.{setup_fault}
use Rattle.split_queue.specs.declared.chain.Piece.{Piece}
use Rattle.guest_mem.specs.Memory.{bytes_at}
use Rattle.steer.specs.BenchPlaces.{bench_bytes, bench_place, bench_size, command_addr, reply_addr, most_command, most_room, command_step, room_step, cut_pieces, command_pieces, room_pieces, chain_pieces}
use Rattle.steer.proofs.PieceLemmas.{length-pieces_from, room_of-pieces_from, pieces_from-within, bytes_in-pieces_from, pieces_from-apart}

-- the bench's ring may lie at its place
pub bench_is_placed : setup_fault bench_place bench_bytes ≡ None
unfolding setup_fault ones
bench_is_placed = refl

-- the piece lies between two addresses
pub record LiesBetween (low high : ℕ) (piece : Piece) : Type 0 where
  pub from : low ≤ piece.addr
  pub to : piece.addr + piece.len ≤ high

-- ---- bytes in pieces

module _ (addr len step : ℕ) (some : 0 < step) where
  abbrev count : ℕ
  count = div_ceil len step

  enough : len ≤ count * step
  enough = (div_ceil_times len step some).0

  pub length-cut_pieces : length (cut_pieces addr len step) ≡ count
  length-cut_pieces = length-pieces_from addr len step count

  pub room_of-cut_pieces : room_of (cut_pieces addr len step) ≡ len
  room_of-cut_pieces = room_of-pieces_from addr len step count enough

  pub bytes_in-cut_pieces : (mem : List ℕ) → bytes_in mem (cut_pieces addr len step) ≡ bytes_at mem addr len
  bytes_in-cut_pieces mem = bytes_in-pieces_from mem addr len step count enough

  pub cut_pieces-between : (high : ℕ) → addr + len ≤ high → All (LiesBetween addr high) (cut_pieces addr len step)
  cut_pieces-between high inside =
      pieces_from-within (LiesBetween addr high) addr high (λ p from to. record { from = from; to = to }) addr len step count (omega arith) inside

  pub cut_pieces-apart : AllPairs AreApart (cut_pieces addr len step)
  cut_pieces-apart = pieces_from-apart addr len step count

-- ---- the chain of a command

module _ (len room : ℕ) where
  pub readable_pieces : take (length (command_pieces len)) (chain_pieces len room) ≡ command_pieces len
  readable_pieces = take-append_seam (command_pieces len) (room_pieces room)

  pub writable_pieces : drop (length (command_pieces len)) (chain_pieces len room) ≡ room_pieces room
  writable_pieces = drop-append_seam (command_pieces len) (room_pieces room)

  pub length-command_pieces : length (command_pieces len) ≡ div_ceil len 64
  length-command_pieces = length-cut_pieces command_addr len command_step (omega arith)

  pub length-chain_pieces : length (chain_pieces len room) ≡ div_ceil len 64 + div_ceil room 256
  length-chain_pieces =
      length-append (command_pieces len) (room_pieces room)
      ∙ rw (length-command_pieces, length-cut_pieces reply_addr room room_step (omega arith)) refl

  -- a list of pieces to which both were added
  pub added-command : (old now : List Piece) → old ≡ [] → now ≡ old ++ command_pieces len → now ≡ command_pieces len
  added-command old now none is = is ∙ rw none refl

  pub added-room : (old now : List Piece) → old ≡ command_pieces len → now ≡ old ++ room_pieces room → now ≡ chain_pieces len room
  added-room old now command is = is ∙ rw command refl

  pub room_of-room_pieces : room_of (room_pieces room) ≡ room
  room_of-room_pieces = room_of-cut_pieces reply_addr room room_step (omega arith)

  pub some_pieces : 0 < len → 0 < length (chain_pieces len room)
  some_pieces some = let e = (div_ceil_times len 64 (omega arith)).0 in omega (arith, length-chain_pieces, e, some)

  module _ (short : len ≤ most_command) (small : room ≤ most_room) where
    pub few_pieces : length (chain_pieces len room) ≤ bench_size
    few_pieces =
        let e = (div_ceil_times len 64 (omega arith)).1 in
        let f = (div_ceil_times room 256 (omega arith)).1 in
        omega (arith, length-chain_pieces, e, f)

    command-between : All (LiesBetween command_addr reply_addr) (command_pieces len)
    command-between = cut_pieces-between command_addr len command_step (omega arith) reply_addr (omega (arith, short))

    room-between : All (LiesBetween reply_addr bench_bytes) (room_pieces room)
    room-between = cut_pieces-between reply_addr room room_step (omega arith) bench_bytes (omega (arith, small))

    all-between : All (LiesBetween command_addr bench_bytes) (chain_pieces len room)
    all-between = All-append (LiesBetween command_addr bench_bytes) (command_pieces len) (room_pieces room)
        (All-weaker (LiesBetween command_addr reply_addr) (LiesBetween command_addr bench_bytes) (λ p lies. record { from = lies.from; to = omega (arith, lies.to) }) (command_pieces len) command-between)
        (All-weaker (LiesBetween reply_addr bench_bytes) (LiesBetween command_addr bench_bytes) (λ p lies. record { from = omega (arith, lies.from); to = lies.to }) (room_pieces room) room-between)

    -- what lies behind the used ring is clear of the queue
    clear_behind : (p : Piece) → command_addr ≤ p.addr → IsClearOf bench_place p
    clear_behind p behind addr here (inl table) = absurd (omega (arith, behind, here.0, table.1))
    clear_behind p behind addr here (inr (inl available)) = absurd (omega (arith, behind, here.0, available.1))
    clear_behind p behind addr here (inr (inr used)) = absurd (omega (arith, behind, here.0, used.1))

    pub room-inside : All (PieceLiesIn bench_bytes) (room_pieces room)
    room-inside = All-weaker (LiesBetween reply_addr bench_bytes) (PieceLiesIn bench_bytes) (λ p lies. lies.to) (room_pieces room) room-between

    pub room-clear : All (IsClearOf bench_place) (room_pieces room)
    room-clear = All-weaker (LiesBetween reply_addr bench_bytes) (IsClearOf bench_place) (λ p lies. clear_behind p (omega (arith, lies.from))) (room_pieces room) room-between

    pub postable : ArePostable bench_bytes bench_place (chain_pieces len room) (length (command_pieces len))
    postable = record {
      few = few_pieces;
      short = rw readable_pieces (rw (room_of-cut_pieces command_addr len command_step (omega arith)) short);
      inside = All-weaker (LiesBetween command_addr bench_bytes) (PieceLiesIn bench_bytes) (λ p lies. lies.to) (chain_pieces len room) all-between;
      clear = All-weaker (LiesBetween command_addr bench_bytes) (IsClearOf bench_place) (λ p lies. clear_behind p lies.from) (chain_pieces len room) all-between;
    }

    pub short_pieces : All (λ (p : Piece). p.len < 2 ^ 32) (chain_pieces len room)
    short_pieces = All-weaker (LiesBetween command_addr bench_bytes) (λ (p : Piece). p.len < 2 ^ 32) (λ p lies. omega (arith, lies.to)) (chain_pieces len room) all-between

    apart_from_room : (p : Piece) → LiesBetween command_addr reply_addr p → All (AreApart p) (room_pieces room)
    apart_from_room p lies =
        All-weaker (LiesBetween reply_addr bench_bytes) (AreApart p) (λ q behind addr here there. absurd (omega (arith, lies.to, behind.from, here.1, there.0))) (room_pieces room) room-between

    pub lie_apart : LieApartForReply (chain_pieces len room) (length (command_pieces len))
    lie_apart = record {
      command = rw (readable_pieces, writable_pieces) (All-weaker (LiesBetween command_addr reply_addr) (λ p. All (AreApart p) (room_pieces room)) apart_from_room (command_pieces len) command-between);
      reply = rw writable_pieces (cut_pieces-apart reply_addr room room_step (omega arith));
    }
