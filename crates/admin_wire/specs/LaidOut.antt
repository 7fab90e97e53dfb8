-- Which commands have a layout of their own, which bytes begin with it, and which commands this project's driver
-- writes. The layouts are those of `Layouts`; what the driver writes is this project's own.
use Rattle.std.specs.Prelude.{◌≡◌, ◌≢◌, ℕ, ◌≤◌, List, ◌++◌, length, All, false, nat_eq, ⊤}
use Rattle.std.specs.List.{IsDistinct}
use Rattle.ff_headers.specs.SelectorParts.{IsWhole}
use Rattle.ff_headers.specs.Shapes.{codes_of}
use Rattle.admin_wire.specs.declared.command.CapData.{CapData}
use Rattle.admin_wire.specs.declared.command.CapData.TheVariants as caps
use Rattle.admin_wire.specs.declared.command.Command.{Command}
use Rattle.admin_wire.specs.declared.command.Command.TheVariants.{CapSet, Create, Modify, Destroy}
use Rattle.admin_wire.specs.declared.command.ObjData.{ObjData}
use Rattle.admin_wire.specs.declared.command.ObjData.TheVariants.{Group, Classifier, Rule, Other}
use Rattle.admin_wire.specs.declared.command.RawKey.{RawKey}
use Rattle.admin_wire.specs.declared.command.RawKey.TheVariants as keys
use Rattle.admin_wire.specs.declared.command.RawList.{RawList}
use Rattle.admin_wire.specs.declared.command.RawList.TheVariants as lists
use Rattle.admin_wire.specs.Capabilities.{raw_actions}
use Rattle.admin_wire.specs.Codes.{group_type, classifier_type, rule_type, limits_cap, selectors_cap, actions_cap, most_selectors, most_key_bytes}
use Rattle.admin_wire.specs.Fields.{Field, Spells}
use Rattle.admin_wire.specs.Layouts.{opcode_for, header_fields, cap_id, cap_head_fields, actions_fields, cap_fields, data_fields}

-- ---- which commands have a layout

-- at most five selectors, whose masks have their headers' sizes
abbrev pub IsGoodList : RawList → Type 0
IsGoodList (lists.Good list) = (length list.items ≤ most_selectors) × All IsWhole list.items
IsGoodList lists.Odd = ⊥

-- at most 74 bytes
abbrev pub IsGoodKey : RawKey → Type 0
IsGoodKey (keys.Good key) = length key.items ≤ most_key_bytes
IsGoodKey keys.Odd = ⊥

-- the data is of the type, and has a layout of its own: neither its list nor its key is odd
abbrev pub HasObjectLayout : ℕ → ObjData → Type 0
HasObjectLayout type_code (Group priority) = type_code ≡ group_type
HasObjectLayout type_code (Classifier list) = (type_code ≡ classifier_type) × IsGoodList list
HasObjectLayout type_code (Rule rule) = (type_code ≡ rule_type) × IsGoodKey rule.key
HasObjectLayout type_code Other = (type_code ≢ group_type) × (type_code ≢ classifier_type) × (type_code ≢ rule_type)

-- the list isn't odd; an id that isn't known is another one than those that are
abbrev pub HasCapLayout : CapData → Type 0
HasCapLayout (caps.Limits limits) = ⊤
HasCapLayout (caps.Selectors list) = IsGoodList list
HasCapLayout (caps.Actions actions) = ⊤
HasCapLayout (caps.Other id) = (id ≢ limits_cap) × (id ≢ selectors_cap) × (id ≢ actions_cap)

-- the command has a layout of its own
abbrev pub HasLayout : Command → Type 0
HasLayout (CapSet cap) = HasCapLayout cap
HasLayout (Create head object) = HasObjectLayout head.type_code object
HasLayout (Modify head object) = HasObjectLayout head.type_code object
HasLayout (Destroy head) = head.flags ≡ 0
HasLayout command = ⊤

-- the fields are the capability's data; a list of actions may give them in any order, and more than once
abbrev pub IsCapLayout : CapData → List Field → Type 0
IsCapLayout (caps.Actions actions) fields =
    (given : List ℕ) × (raw_actions given ≡ actions) × (fields ≡ actions_fields given)
IsCapLayout cap fields = fields ≡ cap_fields cap

-- the fields are what follows the command's header
abbrev pub IsDataLayout : Command → List Field → Type 0
IsDataLayout (CapSet cap) fields =
    (more : List Field) × IsCapLayout cap more × (fields ≡ cap_head_fields (cap_id cap) ++ more)
IsDataLayout command fields = fields ≡ data_fields command

-- the bytes begin with a layout of this command; anything may stand in reserved bytes and behind it
abbrev pub IsLaidOut : List ℕ → Command → Type 0
IsLaidOut bytes command =
    (fields : List Field) × (rest : List ℕ) × IsDataLayout command fields
    × Spells bytes (header_fields (opcode_for command) ++ fields) rest

-- ---- which commands this project's driver writes

-- a list, and a key, that isn't odd
abbrev pub IsKnownList : RawList → Type 0
IsKnownList (lists.Good list) = ⊤
IsKnownList lists.Odd = ⊥

abbrev pub IsKnownKey : RawKey → Type 0
IsKnownKey (keys.Good key) = ⊤
IsKnownKey keys.Odd = ⊥

-- the data is of the type, and no part of it is odd or of unknown type
abbrev pub HasObjectBytes : ℕ → ObjData → Type 0
HasObjectBytes type_code (Group priority) = type_code ≡ group_type
HasObjectBytes type_code (Classifier list) = (type_code ≡ classifier_type) × IsKnownList list
HasObjectBytes type_code (Rule rule) = (type_code ≡ rule_type) × IsKnownKey rule.key
HasObjectBytes type_code Other = ⊥

-- the id is known, the list isn't odd, and no action byte is unknown
abbrev pub HasCapBytes : CapData → Type 0
HasCapBytes (caps.Limits limits) = ⊤
HasCapBytes (caps.Selectors list) = IsKnownList list
HasCapBytes (caps.Actions actions) = actions.other ≡ false
HasCapBytes (caps.Other id) = ⊥

-- all of it is known and not odd, an object's data is of its head's type, and a destroy has no flags
abbrev pub HasBytes : Command → Type 0
HasBytes (CapSet cap) = HasCapBytes cap
HasBytes (Create head object) = HasObjectBytes head.type_code object
HasBytes (Modify head object) = HasObjectBytes head.type_code object
HasBytes (Destroy head) = head.flags ≡ 0
HasBytes command = ⊤

-- the types of a list's selectors are distinct
abbrev pub IsDistinctList : RawList → Type 0
IsDistinctList (lists.Good list) = IsDistinct nat_eq (codes_of list.items)
IsDistinctList lists.Odd = ⊤

-- so are those of a classifier, of a capability, and of a command
abbrev pub IsDistinctObject : ObjData → Type 0
IsDistinctObject (Classifier list) = IsDistinctList list
IsDistinctObject object = ⊤

abbrev pub IsDistinctCap : CapData → Type 0
IsDistinctCap (caps.Selectors list) = IsDistinctList list
IsDistinctCap cap = ⊤

abbrev pub HasDistinctTypes : Command → Type 0
HasDistinctTypes (CapSet cap) = IsDistinctCap cap
HasDistinctTypes (Create head object) = IsDistinctObject object
HasDistinctTypes (Modify head object) = IsDistinctObject object
HasDistinctTypes command = ⊤
