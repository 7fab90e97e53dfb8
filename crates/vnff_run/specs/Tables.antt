-- What a table does with the frames of a capture, as it is printed. This project's own. Nothing here knows that a table
-- is compiled: the table's own definition says which spec acts.
use Rattle.std.specs.Prelude.{◌≡◌, ℕ, List, ◌++◌, codes, decimal}
use Rattle.std.specs.List.{enumerate_from, flat_map}
use Rattle.byte_numbers.specs.Bytes.{IsBytes}
use Rattle.ff_headers.specs.Frames.{headers_of}
use Rattle.ff_headers.specs.Objects.{FlowObjects}
use Rattle.ff_headers.specs.Places.{action_of}
use Rattle.ff_headers.specs.declared.rule.Action.{Action}
use Rattle.ntuple_text.specs.TableMaps.{TableMap}
use Rattle.ntuple_compile.specs.SpecFits.{table_action}
use Rattle.ntuple_text.specs.SpecTexts.{line_feed}
use Rattle.vnff_run.specs.Replay.{action_text}

-- `packet I ACTION`; frames count from 0
unfoldable pub packet_line : ℕ → Action → List ℕ
packet_line number action = codes "packet " ++ (decimal number ++ (codes " " ++ (action_text action ++ line_feed)))

-- the line of a frame with its number
abbrev pub table_line : TableMap → ℕ × List ℕ → List ℕ
table_line table packet = packet_line packet.0 (table_action table (headers_of packet.1))

-- a line for each frame, in order
unfoldable pub table_text : TableMap → List (List ℕ) → List ℕ
table_text table frames = flat_map (table_line table) (enumerate_from 0 frames)

-- Objects do with every frame what a table says.
abbrev pub DoesAs : FlowObjects → TableMap → Type 0
DoesAs objects table =
    (frame : List ℕ) → IsBytes frame → action_of objects (headers_of frame) ≡ table_action table (headers_of frame)
