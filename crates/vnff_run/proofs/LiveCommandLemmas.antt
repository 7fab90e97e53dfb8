-- The commands among the items of a script.
use Rattle.std.proofs.Common.{◌≡◌, ℕ, ◌≤◌, List, [], ◌∷◌, ◌++◌, length, Result, Ok, Err, refl, sym, ap, ◌∙◌, arith}
use Rattle.std.specs.List.{All}
use Rattle.std.proofs.lemmas.List.Elements.{All-nil, All-cons, All-head, All-tail, filter_map-append}
use Rattle.steer.specs.declared.admin_line.AdminLine.{AdminLine}
use Rattle.vnff_base.specs.Shelves.{Files, ShelfState}
use Rattle.vnff_run.specs.Endings.{ReadsInput, kept_script_in}
use Rattle.vnff_run.specs.Inputs.{InputFault, script_in}
use Rattle.vnff_run.specs.ItemLines.{IsCommandWithin, IsItemWithin}
use Rattle.vnff_run.specs.LiveRuns.{admin_line_in, commands_in, live_in, live_run}
use Rattle.vnff_run.specs.LiveWords.{LiveWords}
use Rattle.vnff_run.specs.Readings.{kept_of, with_kept}
use Rattle.vnff_run.specs.Results.{◌>>=◌}
use Rattle.vnff_run.specs.TableInputs.{frames_in}
use Rattle.vnff_run.specs.declared.script.Item.{Item}
use Rattle.vnff_run.specs.declared.script.Item.TheVariants.{Admin, Frame}
use Rattle.vnff_run.specs.declared.script.Kept.TheVariants.{Commands}
use Rattle.vnff_run.specs.declared.live_run.LiveRun.{LiveRun}
use Rattle.vnff_run.specs.declared.script.Script.{Script}
use Rattle.vnff_run.specs.declared.stop.Stop.{Stop}
use Rattle.vnff_run.proofs.InputLemmas.{reads_same}

-- one more item
pub more_commands : (kept more : List AdminLine) (items : List Item) (item : Item) → kept ≡ commands_in items → more ≡ kept ++ commands_in (item ∷ []) → more ≡ commands_in (items ++ item ∷ [])
more_commands kept more items item so_far is =
    is ∙ ap (λ (lines : List AdminLine). lines ++ commands_in (item ∷ [])) so_far ∙ sym (filter_map-append admin_line_in items (item ∷ []))

-- they are no more than the items
pub few_commands : (items : List Item) → length (commands_in items) ≤ length items
few_commands [] = omega arith
few_commands (Admin line ∷ items) = omega (arith, few_commands items)
few_commands (Frame frame ∷ items) = omega (arith, few_commands items)

-- and within their limits where the items are
pub commands_within : (items : List Item) → All IsItemWithin items → All IsCommandWithin (commands_in items)
commands_within [] within = All-nil IsCommandWithin
commands_within (Admin line ∷ items) within =
    All-cons IsCommandWithin line (commands_in items) (All-head IsItemWithin (Admin line) items within) (commands_within items (All-tail IsItemWithin (Admin line) items within))
commands_within (Frame frame ∷ items) within = commands_within items (All-tail IsItemWithin (Frame frame) items within)

-- ---- a run over what a reader keeps of a script

kept_commands : (items : List Item) → commands_in items ≡ commands_in (kept_of Commands items)
kept_commands [] = refl
kept_commands (Admin line ∷ items) = ap (λ (lines : List AdminLine). line ∷ lines) (kept_commands items)
kept_commands (Frame frame ∷ items) = kept_commands items

run_kept : (words : LiveWords) (script : Result Script InputFault) (frames : Result (List (List ℕ)) InputFault) → (script >>= λ s. frames >>= λ f. Ok (live_run words s f)) ≡ ((script >>= λ s. Ok (with_kept Commands s)) >>= λ s. frames >>= λ f. Ok (live_run words s f))
run_kept words (Ok script) (Ok frames) =
    ap (λ (commands : List AdminLine). Ok (record { caps = script.caps; start = script.start; commands = commands; frames = frames; workers = words.workers; first = words.first })) (kept_commands script.items)
run_kept words (Ok script) (Err fault) = refl
run_kept words (Err fault) frames = refl

abbrev kept_live_in : LiveWords → Files → Result LiveRun InputFault
kept_live_in words files =
    kept_script_in Commands words.script files >>= λ script. frames_in words.capture files >>= λ frames. Ok (live_run words script frames)

-- it is the run over the whole script
pub live_kept : (words : LiveWords) (shelf shelf_new : ShelfState) (result : Result LiveRun Stop) → ReadsInput shelf shelf_new (kept_live_in words) result → ReadsInput shelf shelf_new (live_in words) result
unfolding live_in
live_kept words shelf shelf_new result =
    reads_same shelf shelf_new (kept_live_in words) (live_in words) result (λ files. run_kept words (script_in words.script files) (frames_in words.capture files))
