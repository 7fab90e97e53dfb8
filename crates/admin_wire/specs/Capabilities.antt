-- What a command that sets a capability of the driver carries behind the capability's id (Virtio 1.4 draft, "Flow
-- filters": `struct virtio_net_ff_cap_data`, `.._cap_mask_data` and `.._cap_actions`; linux/virtio_net_ff.h). The sizes
-- and places of all fields are this project's own.
use Rattle.std.specs.Prelude.{ℕ, ◌+◌, List, length, take, drop, slice_index, Result, Ok, Err, ◌==◌, Bool, not, ◌&&◌, nat_lt, if◌then◌else◌}
use Rattle.std.specs.List.{list_any}
use Rattle.byte_numbers.specs.Numbers.{le16_at, le32_at}
use Rattle.admin_wire.specs.declared.command.CapData.{CapData}
use Rattle.admin_wire.specs.declared.command.CapData.TheVariants.{Limits, Selectors, Actions, Other}
use Rattle.admin_wire.specs.declared.command.RawActions.{RawActions}
use Rattle.admin_wire.specs.declared.error.WireErr.{WireErr}
use Rattle.admin_wire.specs.declared.error.WireErr.TheVariants.{ShortData}
use Rattle.admin_wire.specs.Codes.{limits_cap, selectors_cap, actions_cap, drop_action, queue_action, cap_head_size, limits_size, list_head_size}
use Rattle.admin_wire.specs.Faults.{◌>>=◌}
use Rattle.admin_wire.specs.Lists.{list_of}

-- le32 groups, le32 classifiers, le32 rules, le32 rules per group, u8 last rule priority, u8 selectors per classifier
unfoldable pub limits_of : List ℕ → Result CapData WireErr
limits_of bytes =
    if nat_lt (length bytes) limits_size then Err ShortData
    else Ok (Limits (record {
      groups = le32_at bytes 0;
      classifiers = le32_at bytes 4;
      rules = le32_at bytes 8;
      per_group = le32_at bytes 12;
      last_priority = slice_index bytes 16;
      selectors = slice_index bytes 17;
    }))

-- a list of selectors
unfoldable pub selectors_data : List ℕ → Result CapData WireErr
selectors_data bytes = do
  list ← list_of bytes
  Ok (Selectors list)

-- an action byte that is neither of the two
abbrev pub is_other_action : ℕ → Bool
is_other_action action = not (action == drop_action) && not (action == queue_action)

-- which action bytes stand in a list
unfoldable pub raw_actions : List ℕ → RawActions
raw_actions given = record {
  drop = list_any (λ action. action == drop_action) given;
  queue = list_any (λ action. action == queue_action) given;
  other = list_any is_other_action given;
}

-- u8 count, 7 reserved bytes, `count` action bytes
unfoldable pub actions_of : List ℕ → Result CapData WireErr
actions_of bytes =
    if nat_lt (length bytes) (list_head_size + slice_index bytes 0) then Err ShortData
    else Ok (Actions (raw_actions (take (slice_index bytes 0) (drop list_head_size bytes))))

-- the data of the capability with this id; an unknown id needs none
unfoldable pub cap_data_of : ℕ → List ℕ → Result CapData WireErr
cap_data_of id bytes =
    if id == limits_cap then limits_of bytes
    else if id == selectors_cap then selectors_data bytes
    else if id == actions_cap then actions_of bytes
    else Ok (Other id)

-- le16 id, 6 reserved bytes, the capability's data
unfoldable pub cap_of : List ℕ → Result CapData WireErr
cap_of bytes =
    if nat_lt (length bytes) cap_head_size then Err ShortData
    else cap_data_of (le16_at bytes 0) (drop cap_head_size bytes)
