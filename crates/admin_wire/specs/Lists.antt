-- A list of selectors in the bytes (Virtio 1.4 draft, `struct virtio_net_resource_obj_ff_classifier` and
-- `struct virtio_net_ff_selector`; linux/virtio_net_ff.h): u8 count, 7 reserved bytes, and `count` entries of
-- u8 type, u8 flags, 2 reserved bytes, u8 length, 3 reserved bytes, `length` mask bytes.
use Rattle.std.specs.Prelude.{ℕ, zero, suc, ◌+◌, List, [], ◌∷◌, ◌++◌, length, take, drop, slice_index, Option, Some, None, is_some, option_and_then, Result, Ok, Err, ◌==◌, ◌&&◌, nat_lt, nat_le, if◌then◌else◌}
use Rattle.std.specs.List.{list_all, filter_map}
use Rattle.std.specs.Option.{option_map_or}
use Rattle.ff_headers.specs.Kinds.{kind_of_code, kind_size}
use Rattle.ff_headers.specs.SelectorParts.{SelectorParts, selector_with}
use Rattle.admin_wire.specs.declared.command.RawList.{RawList}
use Rattle.admin_wire.specs.declared.command.RawList.TheVariants.{Good, Odd}
use Rattle.admin_wire.specs.declared.error.WireErr.{WireErr}
use Rattle.admin_wire.specs.declared.error.WireErr.TheVariants.{ShortData}
use Rattle.admin_wire.specs.Codes.{list_head_size, entry_head_size, most_selectors}
use Rattle.admin_wire.specs.Faults.{◌>>=◌}

-- how many bytes the entry at the front takes, by its own length byte
abbrev pub entry_len : List ℕ → ℕ
entry_len bytes = entry_head_size + slice_index bytes 4

-- how many bytes the entry at the front takes, if they are all there
unfoldable pub whole_entry : List ℕ → Result ℕ WireErr
whole_entry bytes = if nat_lt (length bytes) (entry_len bytes) then Err ShortData else Ok (entry_len bytes)

-- the first `count` entries, each as its own bytes
unfoldable pub entries_of : ℕ → List ℕ → Result (List (List ℕ)) WireErr
entries_of zero bytes = Ok []
entries_of (suc count) bytes = do
  len ← whole_entry bytes
  others ← entries_of count (drop len bytes)
  Ok (take len bytes ∷ others)

-- the selector of an entry: its type is known, and its mask has the size of the type's header
unfoldable pub selector_of : List ℕ → Option SelectorParts
selector_of entry = option_and_then
    (λ kind. if slice_index entry 4 == kind_size kind
    then Some (selector_with kind (slice_index entry 1) (drop entry_head_size entry))
    else None)
    (kind_of_code (slice_index entry 0))

-- at most five entries, each of them a selector, make a list that is good
unfoldable pub raw_list : List (List ℕ) → RawList
raw_list entries =
    if nat_le (length entries) most_selectors && list_all (λ entry. is_some (selector_of entry)) entries
    then Good (record { items = filter_map selector_of entries })
    else Odd

-- the list with one more entry at its end
unfoldable pub with_entry : RawList → List ℕ → RawList
with_entry (Good list) entry = option_map_or
    (λ selector. if nat_lt (length list.items) most_selectors
    then Good (record { items = list.items ++ selector ∷ [] })
    else Odd)
    (selector_of entry)
    Odd
with_entry Odd entry = Odd

-- the list that begins the bytes
unfoldable pub list_of : List ℕ → Result RawList WireErr
list_of bytes =
    if nat_lt (length bytes) list_head_size then Err ShortData else do
      entries ← entries_of (slice_index bytes 0) (drop list_head_size bytes)
      Ok (raw_list entries)
