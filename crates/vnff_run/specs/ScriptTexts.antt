-- The canonical text of a script, this project's own: where the grammar leaves a choice, single blanks, digits in lower
-- case, and no line for the selectors that a device has without one.
use Rattle.std.specs.Prelude.{ℕ, Bool, ◌==◌, ◌&&◌, if◌then◌else◌, List, [], ◌∷◌, ◌++◌, map, codes, decimal}
use Rattle.std.specs.Cmp.Lexicographic.{pointwise}
use Rattle.std.specs.List.{flat_map, join_with_byte}
use Rattle.std.specs.Str.{bytes_eq}
use Rattle.ff_headers.specs.Kinds.{kind_code}
use Rattle.ff_headers.specs.SelectorParts.{SelectorParts}
use Rattle.vnff_base.specs.Hex.{hex_text}
use Rattle.cap_table.specs.Caps.{CapsParts, all_selectors}
use Rattle.cap_table.specs.declared.start.Start.{Start}
use Rattle.ntuple_text.specs.SpecTexts.{line_feed}
use Rattle.vnff_run.specs.DeviceLines.{start_word}
use Rattle.vnff_run.specs.SelectLines.{kind_word, mode_word}
use Rattle.vnff_run.specs.declared.script.Item.{Item}
use Rattle.vnff_run.specs.declared.script.Item.TheVariants.{Admin, Frame}
use Rattle.vnff_run.specs.declared.script.Script.{Script}

-- words with a blank between each two, and the line's end
abbrev pub line_text : List (List ℕ) → List ℕ
line_text words = join_with_byte 32 words ++ line_feed

abbrev pub version_words : List (List ℕ)
version_words = codes "vnff" ∷ codes "1" ∷ []

unfoldable pub device_words : CapsParts → Start → List (List ℕ)
device_words caps start =
    let limits = caps.limits in
    codes "device" ∷ decimal caps.pairs ∷ decimal limits.groups ∷ decimal limits.classifiers ∷ decimal limits.rules
    ∷ decimal limits.per_group ∷ decimal limits.last_priority ∷ decimal limits.selectors ∷ start_word start ∷ []

unfoldable pub select_words : SelectorParts → List (List ℕ)
select_words selector =
    codes "select" ∷ kind_word selector.kind ∷ mode_word selector.flags ∷ hex_text selector.mask ∷ []

-- two selectors are the same
abbrev pub is_selector : SelectorParts → SelectorParts → Bool
is_selector a b = (kind_code a.kind == kind_code b.kind) && ((a.flags == b.flags) && bytes_eq a.mask b.mask)

-- the lines of selectors, unless they are the five that stand without such a line
unfoldable pub selector_lines : List SelectorParts → List (List (List ℕ))
selector_lines selectors = if pointwise is_selector selectors all_selectors then [] else map select_words selectors

unfoldable pub item_words : Item → List (List ℕ)
item_words (Admin line) = codes "admin" ∷ hex_text line.bytes ∷ decimal line.room ∷ []
item_words (Frame frame) = codes "frame" ∷ hex_text frame ∷ []

-- the lines of a script, each as its words
abbrev pub script_lines : Script → List (List (List ℕ))
script_lines script =
    version_words ∷ device_words script.caps script.start
    ∷ (selector_lines script.caps.selectors ++ map item_words script.items)

unfoldable pub script_text : Script → List ℕ
script_text script = flat_map line_text (script_lines script)
