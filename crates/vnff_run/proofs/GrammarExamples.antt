-- Texts that are no scripts, each with its first fault, computed from the definitions.
use Rattle.std.proofs.Common.{◌≡◌, ℕ, codes, Err, refl}
use Prim.Native.String.{String}
use Rattle.std.specs.Fmt.{digits}
use Rattle.vnff_base.specs.Hex.{hex_bytes}
use Rattle.vnff_base.specs.Numbers.{number_of}
use Rattle.vnff_base.specs.Lines.{words_of}
use Rattle.vnff_run.specs.DeviceFiles.{device_file_of, device_file_of_lines, no_item, ready_start}
use Rattle.vnff_run.specs.DeviceLines.{is_version, start_of, caps_of, device_of}
use Rattle.vnff_run.specs.Grammar.{after_version, device_in, first_selectors, items_of, script_of, script_of_lines}
use Rattle.vnff_run.specs.ItemLines.{admin_of, frame_item, item_of}
use Rattle.vnff_run.specs.SelectLines.{is_select, kind_named, flags_named, selector_in_line}
use Rattle.vnff_run.specs.Words.{number_within, bytes_within}
use Rattle.vnff_run.specs.declared.error.Reason.{Reason}
use Rattle.vnff_run.specs.declared.error.Reason.TheVariants.{Version, Device, Number, Select, Hex, Room, Word, Start}

abbrev IsRefused : String → ℕ → Reason → Type 0
IsRefused text line reason = script_of (codes text) ≡ Err (line, reason)

-- a text of no bytes lacks its first line
no_bytes : IsRefused "" 1 Version
unfolding words_of is_version after_version script_of_lines
no_bytes = refl

-- a line that is skipped is counted
comment_alone : IsRefused "#\n" 2 Version
unfolding words_of is_version after_version script_of_lines
comment_alone = refl

another_version : IsRefused "vnff 2\n" 1 Version
unfolding words_of is_version after_version script_of_lines
another_version = refl

-- the line of the device is missing
no_device : IsRefused "vnff 1" 2 Device
unfolding words_of is_version after_version script_of_lines device_in
no_device = refl

-- the start is looked at before the numbers
start_before_numbers : IsRefused "vnff 1\ndevice 4 2 4 8 8 15 4 Ready\n" 2 Device
unfolding words_of is_version after_version script_of_lines device_of device_in start_of caps_of number_within digits number_of
start_before_numbers = refl

-- a number out of its range
four_selectors : IsRefused "vnff 1\ndevice 4 2 4 8 8 15 4 ready\nframe f\n" 2 Number
unfolding words_of is_version after_version script_of_lines device_of device_in start_of caps_of number_within digits number_of
four_selectors = refl

leading_zero : IsRefused "vnff 1\ndevice 4 2 4 08 8 15 3 ready\n" 2 Number
unfolding words_of is_version after_version script_of_lines device_of device_in start_of caps_of number_within digits number_of
leading_zero = refl

-- a mask of another size than the header's
short_mask : IsRefused "vnff 1\ndevice 4 2 4 8 8 15 3 ready\nselect ipv4 whole 00\n" 3 Select
unfolding words_of is_version after_version script_of_lines device_of device_in start_of caps_of number_within digits number_of is_select first_selectors selector_in_line kind_named flags_named bytes_within hex_bytes
short_mask = refl

-- types rise strictly
types_rise : IsRefused "vnff 1\ndevice 4 2 4 8 8 15 3 ready\nselect eth whole 000000000000000000000000ffff\n# again\nselect eth whole 000000000000000000000000ffff\n" 5 Select
unfolding words_of is_version after_version script_of_lines device_of device_in start_of caps_of number_within digits number_of is_select first_selectors selector_in_line kind_named flags_named bytes_within hex_bytes
types_rise = refl

-- a selector line behind a frame
late_selector : IsRefused "vnff 1\ndevice 4 2 4 8 8 15 3 ready\nframe -\nselect eth whole 000000000000000000000000ffff\n" 4 Word
unfolding words_of is_version after_version script_of_lines device_of device_in start_of caps_of number_within digits number_of is_select first_selectors selector_in_line kind_named flags_named bytes_within hex_bytes items_of item_of admin_of frame_item
late_selector = refl

odd_digits : IsRefused "vnff 1\ndevice 4 2 4 8 8 15 3 ready\nframe f\n" 3 Hex
unfolding words_of is_version after_version script_of_lines device_of device_in start_of caps_of number_within digits number_of is_select first_selectors selector_in_line kind_named flags_named bytes_within hex_bytes items_of item_of admin_of frame_item
odd_digits = refl

-- bytes before the room
hex_before_room : IsRefused "vnff 1\ndevice 4 2 4 8 8 15 3 ready\nadmin 0 4097\n" 3 Hex
unfolding words_of is_version after_version script_of_lines device_of device_in start_of caps_of number_within digits number_of is_select first_selectors selector_in_line kind_named flags_named bytes_within hex_bytes items_of item_of admin_of frame_item
hex_before_room = refl

-- a command of no bytes
no_command : IsRefused "vnff 1\ndevice 4 2 4 8 8 15 3 ready\nadmin - 8\n" 3 Hex
unfolding words_of is_version after_version script_of_lines device_of device_in start_of caps_of number_within digits number_of is_select first_selectors selector_in_line kind_named flags_named bytes_within hex_bytes items_of item_of admin_of frame_item
no_command = refl

large_room : IsRefused "vnff 1\ndevice 4 2 4 8 8 15 3 ready\nadmin 0a 4097\n" 3 Room
unfolding words_of is_version after_version script_of_lines device_of device_in start_of caps_of number_within digits number_of is_select first_selectors selector_in_line kind_named flags_named bytes_within hex_bytes items_of item_of admin_of frame_item
large_room = refl

-- the number of words before all else
words_first : IsRefused "vnff 1\ndevice 4 2 4 8 8 15 3 ready\nadmin f\n" 3 Word
unfolding words_of is_version after_version script_of_lines device_of device_in start_of caps_of number_within digits number_of is_select first_selectors selector_in_line kind_named flags_named bytes_within hex_bytes items_of item_of admin_of frame_item
words_first = refl

unknown_word : IsRefused "vnff 1\ndevice 4 2 4 8 8 15 3 ready\nframe -\nnothing\n" 4 Word
unfolding words_of is_version after_version script_of_lines device_of device_in start_of caps_of number_within digits number_of is_select first_selectors selector_in_line kind_named flags_named bytes_within hex_bytes items_of item_of admin_of frame_item
unknown_word = refl

-- files of a device alone
abbrev IsRefusedDevice : String → ℕ → Reason → Type 0
IsRefusedDevice text line reason = device_file_of (codes text) ≡ Err (line, reason)

-- the line of an item, before its bytes, and before a start that is `reset`
device_with_item : IsRefusedDevice "vnff 1\ndevice 4 2 4 8 8 15 3 reset\nframe zz\n" 3 Word
unfolding words_of is_version after_version device_file_of_lines device_of device_in start_of caps_of number_within digits number_of is_select first_selectors no_item ready_start
device_with_item = refl

-- a start that is `reset`, at the device's line
device_at_reset : IsRefusedDevice "# a\nvnff 1\n\ndevice 4 2 4 8 8 15 3 reset\n# b\n" 4 Start
unfolding words_of is_version after_version device_file_of_lines device_of device_in start_of caps_of number_within digits number_of is_select first_selectors no_item ready_start
device_at_reset = refl

device_missing : IsRefusedDevice "vnff 1\n" 2 Device
unfolding words_of is_version after_version device_file_of_lines device_in
device_missing = refl
