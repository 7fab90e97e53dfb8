-- The scripts that a text can spell: what lies within the limits of the grammar. This project's own.
use Rattle.std.specs.Prelude.{ℕ, ◌≤◌, List, length, All}
use Rattle.ff_headers.specs.SelectorParts.{SelectorParts}
use Rattle.byte_numbers.specs.Bytes.{IsBytes}
use Rattle.cap_table.specs.Caps.{AreCaps}
use Rattle.capture.specs.Sizes.{longest_frame}
use Rattle.vnff_run.specs.ItemLines.{IsCommandWithin}
use Rattle.steer.specs.declared.admin_line.AdminLine.{AdminLine}
use Rattle.vnff_run.specs.declared.script.Item.{Item}
use Rattle.vnff_run.specs.declared.script.Item.TheVariants.{Admin, Frame}
use Rattle.vnff_run.specs.declared.script.Script.{Script}

-- a selector that a line can name: of the flags, bit 0 alone may be set
pub record IsNamed (selector : SelectorParts) : Type 0 where
  pub flags : selector.flags ≤ 1
  pub mask : IsBytes selector.mask

-- a command, which has bytes, with the room for its reply
pub record IsCommand (line : AdminLine) : Type 0 where
  pub within : IsCommandWithin line
  pub bytes : IsBytes line.bytes

-- a frame that a line can give
pub record IsFrame (frame : List ℕ) : Type 0 where
  pub most : length frame ≤ longest_frame
  pub bytes : IsBytes frame

abbrev pub IsItem : Item → Type 0
IsItem (Admin line) = IsCommand line
IsItem (Frame frame) = IsFrame frame

-- a device that has a selector, within its limits, and items within theirs
pub record IsSpellable (script : Script) : Type 0 where
  pub caps : AreCaps script.caps
  pub some_selector : 1 ≤ length script.caps.selectors
  pub named : All IsNamed script.caps.selectors
  pub items : All IsItem script.items
