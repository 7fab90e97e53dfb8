-- Scripts whose items are not read yet. The code's own.
use Rattle.std.specs.Prelude.{ℕ, ◌≡◌, Result, Ok, MatchResult}
use Rattle.vnff_run.specs.Grammar.{items_of}
use Rattle.vnff_run.specs.Readings.{IsScriptFault}
use Rattle.vnff_run.specs.Results.{◌>>=◌}
use Rattle.vnff_run.specs.declared.error.Reason.{Reason}
use Rattle.vnff_run.specs.declared.error.ScriptFault.{ScriptFault}
use Rattle.vnff_run.specs.declared.script.Script.{Script}
use Rattle.vnff_run.specs.declared.unread_script.UnreadScript.{UnreadScript}

-- the script with the items that its lines spell
abbrev pub spelled_by : UnreadScript → Result Script (ℕ × Reason)
spelled_by unread =
    items_of unread.items >>= λ items. Ok (record { caps = unread.caps; start = unread.start; items = items })

-- A script was opened, and none of its items is at fault, or its first fault was found.
abbrev pub OpensScript : Result Script (ℕ × Reason) → Result UnreadScript ScriptFault → Type 0
OpensScript spelled result = MatchResult result
    (λ unread. (script : Script) × (spelled ≡ Ok script) × (spelled_by unread ≡ Ok script))
    (IsScriptFault spelled)
