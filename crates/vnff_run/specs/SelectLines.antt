-- The lines of a script that name the device's selectors, this project's own: `select KIND MODE HEX`.
use Rattle.std.specs.Prelude.{ℕ, Bool, false, ◌==◌, if◌then◌else◌, nat_lt, List, [], ◌∷◌, codes, Option, Some, None, Result, Ok, Err}
use Rattle.std.specs.List.{find}
use Rattle.std.specs.Option.{ok_or}
use Rattle.std.specs.Str.{bytes_eq}
use Rattle.ff_headers.specs.Kinds.{kind_code, kind_size}
use Rattle.ff_headers.specs.SelectorParts.{SelectorParts, selector_with}
use Rattle.ff_headers.specs.declared.kind.Kind.{Kind}
use Rattle.ff_headers.specs.declared.kind.Kind.TheVariants.{Eth, Ipv4, Ipv6, Tcp, Udp}
use Rattle.vnff_run.specs.Results.{◌>>=◌}
use Rattle.vnff_run.specs.Words.{bytes_within}
use Rattle.vnff_run.specs.declared.error.Reason.{Reason}
use Rattle.vnff_run.specs.declared.error.Reason.TheVariants.{Select, Word}

-- a line begins with `select`
unfoldable pub is_select : List (List ℕ) → Bool
is_select [] = false
is_select (name ∷ words) = bytes_eq name (codes "select")

-- the word of a header
abbrev pub kind_word : Kind → List ℕ
kind_word Eth = codes "eth"
kind_word Ipv4 = codes "ipv4"
kind_word Ipv6 = codes "ipv6"
kind_word Tcp = codes "tcp"
kind_word Udp = codes "udp"

-- the header that a word names
unfoldable pub kind_named : List ℕ → Option Kind
kind_named word = find (λ kind. bytes_eq word (kind_word kind)) (Eth ∷ Ipv4 ∷ Ipv6 ∷ Tcp ∷ Udp ∷ [])

-- the word of a flags byte that a line can give: any part of the mask may be asked for, or the whole
abbrev pub mode_word : ℕ → List ℕ
mode_word flags = if flags == 1 then codes "partial" else codes "whole"

-- the flags byte that a word names (`VIRTIO_NET_FF_MASK_F_PARTIAL_MASK` is bit 0)
unfoldable pub flags_named : List ℕ → Option ℕ
flags_named word =
    if bytes_eq word (codes "partial") then Some 1
    else if bytes_eq word (codes "whole") then Some 0
    else None

-- A selector, by the words behind `select`. Its type is above `last`, and its mask has the header's size.
unfoldable pub selector_in_line : ℕ → List (List ℕ) → Result SelectorParts Reason
selector_in_line last (kind ∷ mode ∷ mask ∷ []) = do
  k ← ok_or (kind_named kind) Select
  flags ← ok_or (flags_named mode) Select
  bytes ← bytes_within Select (kind_size k) (kind_size k) mask
  if nat_lt last (kind_code k) then Ok (selector_with k flags bytes) else Err Select
selector_in_line last _ = Err Word
