-- A reply reads back from its whole bytes, and nothing is read from too few bytes or too many.
use Rattle.std.proofs.Common.{◌≡◌, ℕ, ◌+◌, ◌<◌, ◌≤◌, ◌⊎◌, inl, inr, ⊎_elim, refl, arith, List, length, drop, Some, None}
use Rattle.std.proofs.lemmas.Bool.{cases_lt, lt-ltb, le-ltb}
use Rattle.byte_numbers.specs.Numbers.{le16_at}
use Rattle.byte_numbers.proofs.NumberLaws.{le16_at-bytes}
use Rattle.admin_wire.specs.declared.reply.Reply.{Reply}
use Rattle.admin_wire.specs.Codes.{reply_head_size, most_reply_bytes}
use Rattle.admin_wire.specs.Replies.{whole_reply, reply_spelled, IsReply}

pub whole_reply-length : (reply : Reply) → length (whole_reply reply) ≡ reply_head_size + length reply.result.items
unfolding whole_reply
whole_reply-length reply = omega arith

status_back : (reply : Reply) → IsReply reply → le16_at (whole_reply reply) 0 ≡ reply.status
unfolding whole_reply
status_back reply is = le16_at-bytes (whole_reply reply) 0 reply.status refl is.status_fits

qualifier_back : (reply : Reply) → IsReply reply → le16_at (whole_reply reply) 2 ≡ reply.qualifier
unfolding whole_reply
qualifier_back reply is = le16_at-bytes (whole_reply reply) 2 reply.qualifier refl is.qualifier_fits

result_back : (reply : Reply) → drop reply_head_size (whole_reply reply) ≡ reply.result.items
unfolding whole_reply
result_back reply = refl

pub reply_back : (reply : Reply) → IsReply reply → reply_spelled (whole_reply reply) ≡ Some reply
unfolding reply_spelled
reply_back reply is =
    let size = whole_reply-length reply in
    let fits = is.result_fits in
    rw (
      le-ltb (length (whole_reply reply)) reply_head_size (omega arith),
      le-ltb most_reply_bytes (length (whole_reply reply)) (omega arith),
      status_back reply is,
      qualifier_back reply is,
      result_back reply,
    ) refl

-- there is no reply exactly where the bytes are too few or too many
abbrev pub IsNoReply : List ℕ → Type 0
IsNoReply bytes = (length bytes < reply_head_size) ⊎ (most_reply_bytes < length bytes)

pub no_reply : (bytes : List ℕ) → IsNoReply bytes → reply_spelled bytes ≡ None
unfolding reply_spelled
no_reply bytes (inl few) = rw (lt-ltb (length bytes) reply_head_size few) refl
no_reply bytes (inr many) =
    rw (le-ltb (length bytes) reply_head_size (omega arith), lt-ltb most_reply_bytes (length bytes) many) refl

pub no_reply_back : (bytes : List ℕ) → reply_spelled bytes ≡ None → IsNoReply bytes
unfolding reply_spelled
no_reply_back bytes none = ⊎_elim
    (λ (few : length bytes < reply_head_size). inl few)
    (λ (enough : reply_head_size ≤ length bytes).
    ⊎_elim
    (λ (many : most_reply_bytes < length bytes). inr many)
    (λ (fits : length bytes ≤ most_reply_bytes).
    let bad = rw (le-ltb (length bytes) reply_head_size enough, le-ltb most_reply_bytes (length bytes) fits) at none in absurd cc)
    (cases_lt most_reply_bytes (length bytes)))
    (cases_lt (length bytes) reply_head_size)
