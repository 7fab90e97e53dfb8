-- The lines of a script's items, this project's own: `admin HEX ROOM` and `frame HEX`.
use Rattle.std.specs.Prelude.{ℕ, ◌≤◌, if◌then◌else◌, List, [], ◌∷◌, length, codes, Result, Ok, Err}
use Rattle.std.specs.Str.{bytes_eq}
use Rattle.capture.specs.Sizes.{longest_frame}
use Rattle.steer.specs.BenchPlaces.{most_command, most_room}
use Rattle.vnff_run.specs.Results.{◌>>=◌}
use Rattle.vnff_run.specs.Words.{bytes_within, number_within}
use Rattle.steer.specs.declared.admin_line.AdminLine.{AdminLine}
use Rattle.vnff_run.specs.declared.script.Item.{Item}
use Rattle.vnff_run.specs.declared.script.Item.TheVariants.{Admin, Frame}
use Rattle.vnff_run.specs.declared.error.Reason.{Reason}
use Rattle.vnff_run.specs.declared.error.Reason.TheVariants.{Hex, Room, Word}

-- `admin HEX ROOM`, by the words behind `admin`: a command, which has bytes, and the room for its reply
unfoldable pub admin_of : List (List ℕ) → Result Item Reason
admin_of (hex ∷ room ∷ []) = do
  bytes ← bytes_within Hex 1 most_command hex
  n ← number_within Room 0 most_room room
  Ok (Admin (record { bytes = bytes; room = n }))
admin_of _ = Err Word

-- `frame HEX`, by the words behind `frame`
unfoldable pub frame_item : List (List ℕ) → Result Item Reason
frame_item (hex ∷ []) = do
  bytes ← bytes_within Hex 0 longest_frame hex
  Ok (Frame bytes)
frame_item _ = Err Word

-- a line of an item
unfoldable pub item_of : List (List ℕ) → Result Item Reason
item_of [] = Err Word
item_of (name ∷ words) =
    if bytes_eq name (codes "admin") then admin_of words
    else if bytes_eq name (codes "frame") then frame_item words
    else Err Word

-- a command with its room is within the limits
pub record IsCommandWithin (line : AdminLine) : Type 0 where
  pub some : 1 ≤ length line.bytes
  pub most : length line.bytes ≤ most_command
  pub room : line.room ≤ most_room

-- an item is, of what lines give
abbrev pub IsItemWithin : Item → Type 0
IsItemWithin (Admin line) = IsCommandWithin line
IsItemWithin (Frame frame) = length frame ≤ longest_frame
