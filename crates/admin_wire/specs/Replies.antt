-- The bytes of a reply (Virtio 1.4 draft, "Group administration commands": what the device writes).
use Rattle.std.specs.Prelude.{ℕ, ◌<◌, ◌^◌, ◌≤◌, List, [], ◌∷◌, ◌++◌, length, take, drop, Option, Some, None, ◌||◌, nat_lt, if◌then◌else◌}
use Rattle.std.specs.Int.{w16, to_le_bytes}
use Rattle.byte_numbers.specs.Numbers.{le16_at}
use Rattle.admin_wire.specs.declared.reply.Reply.{Reply}
use Rattle.admin_wire.specs.Codes.{reply_head_size, most_result_bytes, most_reply_bytes}

-- le16 status, le16 qualifier, four reserved bytes, the result
unfoldable pub whole_reply : Reply → List ℕ
whole_reply reply =
    to_le_bytes w16 reply.status ++ (to_le_bytes w16 reply.qualifier ++ (0 ∷ 0 ∷ 0 ∷ 0 ∷ [] ++ reply.result.items))

-- what of a reply is written into this much room: its front, and nothing where the 8 bytes before its result don't fit
-- (this project's own)
abbrev pub reply_bytes : Reply → ℕ → List ℕ
reply_bytes reply room = if nat_lt room reply_head_size then [] else take room (whole_reply reply)

-- the reply that whole bytes are, where they are not too few or too many; reserved bytes are not looked at
unfoldable pub reply_spelled : List ℕ → Option Reply
reply_spelled bytes =
    if nat_lt (length bytes) reply_head_size || nat_lt most_reply_bytes (length bytes) then None
    else Some (record {
      status = le16_at bytes 0;
      qualifier = le16_at bytes 2;
      result = record { items = drop reply_head_size bytes };
    })

-- the numbers have 16 bits, and the result isn't longer than a reply's can be
pub record IsReply (reply : Reply) : Type 0 where
  pub status_fits : reply.status < 2 ^ 16
  pub qualifier_fits : reply.qualifier < 2 ^ 16
  pub result_fits : length reply.result.items ≤ most_result_bytes
