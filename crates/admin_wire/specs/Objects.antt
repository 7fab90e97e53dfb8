-- A resource object in the bytes: its head, and its data by its type (Virtio 1.4 draft, "Device resource objects" and
-- "Flow filters": `struct virtio_net_resource_obj_ff_group`, `.._classifier` and `.._rule`; linux/virtio_net_ff.h). The
-- sizes and places of all fields of the data are this project's own.
use Rattle.std.specs.Prelude.{ℕ, ◌+◌, List, length, take, drop, slice_index, Result, Ok, Err, ◌==◌, nat_lt, nat_le, if◌then◌else◌}
use Rattle.byte_numbers.specs.Numbers.{le16_at, le32_at, le64_at}
use Rattle.admin_wire.specs.declared.command.ObjData.{ObjData}
use Rattle.admin_wire.specs.declared.command.ObjData.TheVariants.{Group, Classifier, Rule, Other}
use Rattle.admin_wire.specs.declared.command.ObjHead.{ObjHead}
use Rattle.admin_wire.specs.declared.command.RawKey.{RawKey}
use Rattle.admin_wire.specs.declared.command.RawKey.TheVariants.{Good, Odd}
use Rattle.admin_wire.specs.declared.error.WireErr.{WireErr}
use Rattle.admin_wire.specs.declared.error.WireErr.TheVariants.{ShortData}
use Rattle.admin_wire.specs.Codes.{group_type, classifier_type, rule_type, head_size, group_size, rule_head_size, most_key_bytes}
use Rattle.admin_wire.specs.Faults.{◌>>=◌}
use Rattle.admin_wire.specs.Lists.{list_of}

-- le16 type, 2 reserved bytes, le32 id, le64 flags
unfoldable pub head_of : List ℕ → ObjHead
head_of bytes = record { type_code = le16_at bytes 0; id = le32_at bytes 4; flags = le64_at bytes 8 }

-- the same without flags, which count as 0
unfoldable pub bare_head_of : List ℕ → ObjHead
bare_head_of bytes = record { type_code = le16_at bytes 0; id = le32_at bytes 4; flags = 0 }

-- le16 group priority
unfoldable pub group_of : List ℕ → Result ObjData WireErr
group_of bytes = if nat_lt (length bytes) group_size then Err ShortData else Ok (Group (le16_at bytes 0))

-- a list of selectors
unfoldable pub classifier_of : List ℕ → Result ObjData WireErr
classifier_of bytes = do
  list ← list_of bytes
  Ok (Classifier list)

-- a key that a rule can have, whose three selectors have at most 74 bytes
unfoldable pub raw_key : List ℕ → RawKey
raw_key key = if nat_le (length key) most_key_bytes then Good (record { items = key }) else Odd

-- le32 group id, le32 classifier id, u8 rule priority, u8 key length, u8 action, u8 reserved, le16 vq index,
-- 2 reserved bytes, the key
unfoldable pub rule_of : List ℕ → Result ObjData WireErr
rule_of bytes =
    if nat_lt (length bytes) (rule_head_size + slice_index bytes 9) then Err ShortData
    else Ok (Rule (record {
      group = le32_at bytes 0;
      classifier = le32_at bytes 4;
      priority = slice_index bytes 8;
      action = slice_index bytes 10;
      vq = le16_at bytes 12;
      key = raw_key (take (slice_index bytes 9) (drop rule_head_size bytes));
    }))

-- the data of an object of this type; an unknown type needs none
unfoldable pub object_of : ℕ → List ℕ → Result ObjData WireErr
object_of type_code bytes =
    if type_code == group_type then group_of bytes
    else if type_code == classifier_type then classifier_of bytes
    else if type_code == rule_type then rule_of bytes
    else Ok Other

-- the head with its flags, and the data of an object of its type
unfoldable pub head_and_object : List ℕ → Result (ObjHead × ObjData) WireErr
head_and_object bytes =
    if nat_lt (length bytes) head_size then Err ShortData else do
      object ← object_of (head_of bytes).type_code (drop head_size bytes)
      Ok (head_of bytes, object)
