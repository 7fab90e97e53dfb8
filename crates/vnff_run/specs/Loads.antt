-- What the table of a seed does with the frames of this seed, as it is printed: how often each action happens. This
-- project's own. Nothing here knows that the table is compiled: the table's own definition says which spec acts.
use Rattle.std.specs.Prelude.{ℕ, List, ◌++◌, map, codes, decimal}
use Rattle.std.specs.List.{enumerate_from, flat_map}
use Rattle.ff_headers.specs.Frames.{headers_of}
use Rattle.ff_headers.specs.declared.rule.Action.{Action}
use Rattle.ntuple_text.specs.TableMaps.{TableMap}
use Rattle.ntuple_compile.specs.SpecFits.{table_action}
use Rattle.generated_load.specs.Counts.{counts_of}
use Rattle.generated_load.specs.DrawnFrames.{drawn_frames}
use Rattle.generated_load.specs.DrawnTables.{drawn_table}
use Rattle.generated_load.specs.declared.counts.ActionCounts.{ActionCounts}
use Rattle.ntuple_text.specs.SpecTexts.{line_feed}

-- what a table does with each of the frames
abbrev pub actions_by : TableMap → List (List ℕ) → List Action
actions_by table frames = map (λ frame. table_action table (headers_of frame)) frames

-- ` N` at the end of a line
unfoldable pub number_end : ℕ → List ℕ
number_end number = codes " " ++ (decimal number ++ line_feed)

-- `WORD N`
unfoldable pub count_line : List ℕ → ℕ → List ℕ
count_line word number = word ++ number_end number

-- `queue Q N`
unfoldable pub queue_line : ℕ × ℕ → List ℕ
queue_line count = codes "queue " ++ (decimal count.0 ++ number_end count.1)

-- how many frames there are, are dropped, get the default, and go to each queue; the default isn't one of queue 0
unfoldable pub summary_text : ℕ → ActionCounts → List ℕ
summary_text frames counts =
    count_line (codes "frames") frames
    ++ (count_line (codes "drop") counts.drop
    ++ (count_line (codes "default") counts.default ++ flat_map queue_line (enumerate_from 0 counts.queues)))

-- the summary of so many frames of a seed
unfoldable pub gen_text : ℕ → ℕ → List ℕ
gen_text seed frames = summary_text frames (counts_of (actions_by (drawn_table seed) (drawn_frames seed frames)))
