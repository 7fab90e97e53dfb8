-- The lines of replies and packets, one after another.
use Rattle.std.proofs.Common.{◌≡◌, ℕ, ◌<◌, List, length, get_or, map, sym, ap, ◌∙◌, zero-add}
use Rattle.std.specs.List.{enumerate_from, flat_map, range_with_len}
use Rattle.std.proofs.Math.ListN.{get_or-map}
use Rattle.std.proofs.lemmas.List.Folds.{flat_map-map}
use Rattle.std.proofs.lemmas.List.FromFn.{get_or-enumerate_from, get_or-range_with_len, length-enumerate_from, length-map-range_with_len}
use Rattle.arrayvec.specs.ArrayVec.{ArrayVec}
use Rattle.snapshots.specs.Workers.{WorkerState}
use Rattle.steer.specs.LiveRuns.{PacketLine}
use Rattle.steer.specs.Results.{line_of, packet_lines, read_of, replies_in}
use Rattle.vnff_run.specs.Replay.{reply_line}

-- the line of a reply
abbrev pub line_of_reply : ArrayVec ℕ → List ℕ
line_of_reply reply = reply_line reply.items

pub lines_of_replies : (replies : List (ArrayVec ℕ)) → flat_map line_of_reply replies ≡ flat_map reply_line (replies_in replies)
lines_of_replies replies = sym (flat_map-map reply_line (λ (reply : ArrayVec ℕ). reply.items) replies)

-- what a worker read of a packet
abbrev read_in : List WorkerState → ℕ → PacketLine
read_in workers i = line_of (read_of workers (length workers) i)

pub packets_count : (workers : List WorkerState) (n : ℕ) → length (enumerate_from 0 (packet_lines workers (length workers) n)) ≡ n
unfolding packet_lines
packets_count workers n =
    length-enumerate_from 0 (packet_lines workers (length workers) n) ∙ length-map-range_with_len (read_in workers) 0 n

-- the line of a packet with its number, among all of them
pub packet_line_is : (workers : List WorkerState) (n i : ℕ) → i < n → (i, read_in workers i) ≡ get_or (enumerate_from 0 (packet_lines workers (length workers) n)) i (i, read_in workers i)
unfolding packet_lines
packet_line_is workers n i within =
    let lines = map (read_in workers) (range_with_len 0 n) in
    let inside : i < length lines = rw (length-map-range_with_len (read_in workers) 0 n) within in
    let there : get_or lines i (read_in workers i) ≡ read_in workers i =
    get_or-map (read_in workers) (range_with_len 0 n) i i ∙ ap (read_in workers) (get_or-range_with_len 0 n i i within ∙ zero-add i) in
    sym (get_or-enumerate_from 0 lines i (i, read_in workers i) inside
    ∙ ap {B = ℕ × PacketLine} (λ k. (k, get_or lines i (read_in workers i))) (zero-add i) ∙ ap {B = ℕ × PacketLine} (λ line. (i, line)) there)
