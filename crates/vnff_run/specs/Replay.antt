-- What a replay of a script writes, this project's own: a line for each item, in order.
use Rattle.std.specs.Prelude.{ℕ, List, [], ◌++◌, length, take, codes, decimal, Option, Some, None, slice_get}
use Rattle.std.specs.List.{filter_map, flat_map, range_with_len}
use Rattle.ff_headers.specs.Frames.{headers_of}
use Rattle.ff_headers.specs.Places.{action_of}
use Rattle.ff_headers.specs.declared.rule.Action.{Action}
use Rattle.ff_headers.specs.declared.rule.Action.TheVariants.{Default, Drop, Queue}
use Rattle.vnff_base.specs.Hex.{hex_text}
use Rattle.cap_table.specs.States.{DeviceState, start_state}
use Rattle.cap_table.specs.Steps.{reply_of, state_after}
use Rattle.ntuple_text.specs.SpecTexts.{line_feed}
use Rattle.vnff_run.specs.declared.script.Script.{Script}
use Rattle.vnff_run.specs.declared.script.Item.{Item}
use Rattle.vnff_run.specs.declared.script.Item.TheVariants.{Admin, Frame}

-- how an action is printed
unfoldable pub action_text : Action → List ℕ
action_text Default = codes "default"
action_text Drop = codes "drop"
action_text (Queue queue) = codes "queue " ++ decimal queue

-- `reply HEX`; `reply -` where the room held no reply
unfoldable pub reply_line : List ℕ → List ℕ
reply_line reply = codes "reply " ++ (hex_text reply ++ line_feed)

unfoldable pub frame_line : Action → List ℕ
frame_line action = codes "frame " ++ (action_text action ++ line_feed)

-- the command of an item, with the room for its reply
abbrev pub command_in : Item → Option (List ℕ × ℕ)
command_in (Admin line) = Some (line.bytes, line.room)
command_in (Frame _) = None

-- the state that the commands among some items leave
abbrev pub state_after_items : DeviceState → List Item → DeviceState
state_after_items state items = state_after state (filter_map command_in items)

-- the line of an item in the state before it: the reply to a command, or the action of a frame
unfoldable pub item_line : DeviceState → Item → List ℕ
item_line state (Admin line) = reply_line (reply_of state line.bytes line.room)
item_line state (Frame frame) = frame_line (action_of state.objects (headers_of frame))

abbrev pub line_in : DeviceState → Option Item → List ℕ
line_in state None = []
line_in state (Some item) = item_line state item

-- the line at a place: that of its item, in the state behind the items before it
unfoldable pub line_at : DeviceState → List Item → ℕ → List ℕ
line_at state items place = line_in (state_after_items state (take place items)) (slice_get items place)

-- the lines of all items, in order
unfoldable pub lines_of : DeviceState → List Item → List ℕ
lines_of state items = flat_map (line_at state items) (range_with_len 0 (length items))

-- what a replay of a script writes
abbrev pub replay_text : Script → List ℕ
replay_text script = lines_of (start_state script.caps script.start) script.items
