-- The bytes of a command read as that command.
use Rattle.std.proofs.Common.{◌≡◌, ℕ, refl, Bool, true, false, List, replicate, [], ◌∷◌, ◌++◌, Ok, subst}
use Rattle.std.proofs.lemmas.List.{length-replicate}
use Rattle.admin_wire.specs.declared.command.CapData.{CapData}
use Rattle.admin_wire.specs.declared.command.CapData.TheVariants as caps
use Rattle.admin_wire.specs.declared.command.Command.{Command}
use Rattle.admin_wire.specs.declared.command.Command.TheVariants.{ListQuery, ListUse, CapIds, CapGet, CapSet, Create, Modify, Query, Destroy}
use Rattle.admin_wire.specs.declared.command.RawActions.{RawActions}
use Rattle.admin_wire.specs.declared.opcode.Opcode.{Opcode}
use Rattle.admin_wire.specs.Capabilities.{raw_actions}
use Rattle.admin_wire.specs.Fields.{Field, number, reserved, raw, Spells, written, AreFitting, WritesFields}
use Rattle.admin_wire.specs.LaidOut.{HasCapBytes, HasBytes, HasLayout, IsCapLayout, IsDataLayout}
use Rattle.admin_wire.specs.Layouts.{opcode_for, header_fields, action_bytes, cap_fields, data_fields, command_fields, command_bytes}
use Rattle.admin_wire.specs.Wire.{command_of}
use Rattle.admin_wire.proofs.CommandLaws.{command_laid_out}

-- bytes of fields spell them
written_spells : (fields : List Field) → AreFitting fields → Spells (written fields) fields []
written_spells [] fits = refl
written_spells (number width n ∷ fields) fits = (fits.0, (written fields, refl, written_spells fields fits.1))
written_spells (reserved count ∷ fields) fits =
    (replicate count 0, written fields, length-replicate count 0, refl, written_spells fields fits)
written_spells (raw given ∷ fields) fits = (written fields, refl, written_spells fields fits)

-- the action bytes that are written are those that are set
actions_back : (drops queues other : Bool) → other ≡ false
    → let actions : RawActions = record { drop = drops; queue = queues; other = other } in raw_actions (action_bytes actions) ≡ actions
unfolding raw_actions
actions_back true true other none = rw none refl
actions_back true false other none = rw none refl
actions_back false true other none = rw none refl
actions_back false false other none = rw none refl

cap_layout : (cap : CapData) → HasCapBytes cap → IsCapLayout cap (cap_fields cap)
cap_layout (caps.Limits limits) has = refl
cap_layout (caps.Selectors list) has = refl
cap_layout (caps.Actions actions) has = (action_bytes actions, actions_back actions.drop actions.queue actions.other has, refl)
cap_layout (caps.Other id) has = absurd has

data_layout : (command : Command) → HasBytes command → IsDataLayout command (data_fields command)
data_layout ListQuery has = refl
data_layout (ListUse bitmap) has = refl
data_layout CapIds has = refl
data_layout (CapGet id) has = refl
data_layout (CapSet cap) has = (cap_fields cap, cap_layout cap has, refl)
data_layout (Create head object) has = refl
data_layout (Modify head object) has = refl
data_layout (Query head) has = refl
data_layout (Destroy head) has = refl

-- what is written of a command, header first, reads as it
pub written_reads : (none out : List ℕ) (opcode : Opcode) (command : Command) → none ≡ [] → opcode ≡ opcode_for command
    → WritesFields none (header_fields opcode ++ data_fields command) out → HasBytes command → HasLayout command
    → command_of out ≡ Ok command
written_reads none out opcode command empty is writes known has =
    let whole : WritesFields [] (command_fields command) out
    = subst (λ (xs : List ℕ). WritesFields xs (command_fields command) out) empty
    (subst (λ (o : Opcode). WritesFields none (header_fields o ++ data_fields command) out) is writes) in
    rw whole.bytes (
    command_laid_out (command_bytes command) command has
    (data_fields command, [], data_layout command known, written_spells (command_fields command) whole.fits)
    )
