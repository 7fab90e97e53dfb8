-- Rows of conditions: no row holds exactly where there is no verdict, and what the rows on a layout say.
use Rattle.std.proofs.Common.{◌≡◌, ℕ, Bool, true, false, not, ◌&&◌, ◌||◌, cond, List, [], ◌∷◌, ◌++◌, Option, Some, None, Result, Ok, Err, refl, ap, ◌∙◌}
use Rattle.admin_wire.specs.declared.command.Command.{Command}
use Rattle.admin_wire.specs.declared.error.WireErr.{WireErr}
use Rattle.admin_wire.specs.declared.error.WireErr.TheVariants as wire_err
use Rattle.ff_headers.specs.Objects.{FlowObjects}
use Rattle.cap_table.specs.Caps.{CapsParts, DriverParts}
use Rattle.cap_table.specs.Statuses.{invalid_command, invalid_opcode, invalid_group, invalid_member}
use Rattle.cap_table.specs.Verdicts.{Row, first_verdict, RuleFaults, rule_rows, layout_rows, is_header_cut, is_opcode_unknown, is_opcode_unused, is_group_other, is_member_other, is_data_cut}
use Rattle.cap_table.specs.Verdicts.{command_rows, given_rows, has_flags, is_unknown, has_other_opcode, is_set_late, is_set_refused, is_id_taken, is_limit_reached, is_missing, is_needed}

-- no row holds
abbrev pub NoneHolds : List Row → Type 0
NoneHolds [] = Unit {0}
NoneHolds (row ∷ rows) = (row.0 ≡ false) × NoneHolds rows

-- there is no verdict, so no row holds
pub none_holds : (rows : List Row) → first_verdict rows ≡ None → NoneHolds rows
none_holds [] h = tt
none_holds (row ∷ rows) h = by_test row.0 refl h (none_holds rows) where
  by_test : (b : Bool) → row.0 ≡ b → cond b (Some row.1) (first_verdict rows) ≡ None → (first_verdict rows ≡ None → NoneHolds rows) → NoneHolds (row ∷ rows)
  by_test true e k rest = absurd cc
  by_test false e k rest = (e, rest k)

-- no row holds, so there is no verdict
pub no_verdict : (rows : List Row) → NoneHolds rows → first_verdict rows ≡ None
no_verdict [] none = refl
no_verdict (row ∷ rows) none = ap (λ b. cond b (Some row.1) (first_verdict rows)) none.0 ∙ no_verdict rows none.1

-- the verdict of rows behind others that don't hold
pub past_rows : (rows more : List Row) → NoneHolds rows → first_verdict (rows ++ more) ≡ first_verdict more
past_rows [] more none = refl
past_rows (row ∷ rows) more none =
    ap (λ b. cond b (Some row.1) (first_verdict (rows ++ more))) none.0 ∙ past_rows rows more none.1

-- there is no verdict of rows and others behind them, so none of those others
pub back_of_none : (rows more : List Row) → first_verdict (rows ++ more) ≡ None → first_verdict more ≡ None
back_of_none [] more h = h
back_of_none (row ∷ rows) more h = by_test row.0 h (back_of_none rows more) where
  by_test : (b : Bool) → cond b (Some row.1) (first_verdict (rows ++ more)) ≡ None → (first_verdict (rows ++ more) ≡ None → first_verdict more ≡ None) → first_verdict more ≡ None
  by_test true k rest = absurd cc
  by_test false k rest = rest k

-- no row holds of a command that is laid out
pub record IsClear (caps : CapsParts) (driver : DriverParts) (objects : FlowObjects) (command : Command) : Type 0 where
  pub no_flags : has_flags command ≡ false
  pub known : is_unknown command ≡ false
  pub own_opcodes : has_other_opcode command ≡ false
  pub in_time : is_set_late objects command ≡ false
  pub settable : is_set_refused caps command ≡ false
  pub new : is_id_taken objects command ≡ false
  pub room : is_limit_reached driver objects command ≡ false
  pub held : is_missing objects command ≡ false
  pub unneeded : is_needed objects command ≡ false
  pub content : NoneHolds (given_rows caps driver objects command)

pub clear : (caps : CapsParts) (driver : DriverParts) (objects : FlowObjects) (command : Command) → first_verdict (command_rows caps driver objects command) ≡ None → IsClear caps driver objects command
clear caps driver objects command is = let none = none_holds (command_rows caps driver objects command) is in record {
  no_flags = none.0;
  known = none.1.0;
  own_opcodes = none.1.1.0;
  in_time = none.1.1.1.0;
  settable = none.1.1.1.1.0;
  new = none.1.1.1.1.1.0;
  room = none.1.1.1.1.1.1.0;
  held = none.1.1.1.1.1.1.1.0;
  unneeded = none.1.1.1.1.1.1.1.1.0;
  content = none.1.1.1.1.1.1.1.1.1;
}

pub no_row_if_clear : (caps : CapsParts) (driver : DriverParts) (objects : FlowObjects) (command : Command) → IsClear caps driver objects command → first_verdict (command_rows caps driver objects command) ≡ None
no_row_if_clear caps driver objects command is = no_verdict (command_rows caps driver objects command) (is.no_flags, (is.known, (is.own_opcodes, (is.in_time, (is.settable, (is.new, (is.room, (is.held, (is.unneeded, is.content)))))))))

-- nothing is wrong with the content of a rule
pub record IsSoundContent (faults : RuleFaults) : Type 0 where
  pub key_good : faults.key_odd ≡ false
  pub group_held : faults.group_missing ≡ false
  pub classifier_held : faults.classifier_missing ≡ false
  pub priority_within : faults.priority_too_great ≡ false
  pub key_fits : faults.key_wrong ≡ false
  pub action_set : faults.action_unset ≡ false
  pub queue_right : faults.queue_wrong ≡ false
  pub room_in_group : faults.group_full ≡ false

pub sound_content : (faults : RuleFaults) → NoneHolds (rule_rows faults) → IsSoundContent faults
sound_content faults none = record {
  key_good = none.0;
  group_held = none.1.0;
  classifier_held = none.1.1.0;
  priority_within = none.1.1.1.0;
  key_fits = none.1.1.1.1.0;
  action_set = none.1.1.1.1.1.0;
  queue_right = none.1.1.1.1.1.1.0;
  room_in_group = none.1.1.1.1.1.1.1.0;
}

pub no_rule_row : (faults : RuleFaults) → IsSoundContent faults → NoneHolds (rule_rows faults)
no_rule_row faults sound = (sound.key_good, (sound.group_held, (sound.classifier_held, (sound.priority_within, (sound.key_fits, (sound.action_set, (sound.queue_right, (sound.room_in_group, tt))))))))

module _ (in_use : ℕ) (opcode : Option ℕ) (more : List Row) where
  -- there is a header, and its opcode isn't in use
  pub opcode_verdict : (read : Result Command WireErr) → is_header_cut read ≡ false → is_opcode_unused in_use opcode ≡ true → first_verdict (layout_rows in_use opcode read ++ more) ≡ Some invalid_opcode
  opcode_verdict read whole unused = by_tests (is_header_cut read) (is_opcode_unknown read) (is_opcode_unused in_use opcode) whole unused where
    by_tests : (cut unknown b : Bool) → cut ≡ false → b ≡ true → cond cut (Some invalid_command) (cond (unknown || b) (Some invalid_opcode) (cond (is_group_other read) (Some invalid_group) (cond (is_member_other read) (Some invalid_member) (cond (is_data_cut read) (Some invalid_command) (first_verdict more))))) ≡ Some invalid_opcode
    by_tests true unknown b h k = absurd cc
    by_tests false true b h k = refl
    by_tests false false true h k = refl
    by_tests false false false h k = absurd cc

  -- the bytes lay out no command, and their opcode isn't out of use
  pub fault_row : (fault : WireErr) → (not (is_header_cut (Err fault)) && is_opcode_unused in_use opcode) ≡ false → first_verdict (layout_rows in_use opcode (Err fault) ++ more) ≡ first_verdict (layout_rows 0 None (Err fault))
  fault_row wire_err.ShortHeader used = refl
  fault_row (wire_err.Opcode op) used = refl
  fault_row (wire_err.Group group) used = rw used refl
  fault_row (wire_err.Member member) used = rw used refl
  fault_row wire_err.ShortData used = rw used refl

  -- the opcode is in use, and the bytes lay out a command
  pub command_row : (command : Command) → is_opcode_unused in_use opcode ≡ false → first_verdict (layout_rows in_use opcode (Ok command) ++ more) ≡ first_verdict more
  command_row command used = rw used refl
