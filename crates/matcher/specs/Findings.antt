-- What a search of the rules gives. This project's own.
use Rattle.std.specs.Prelude.{ℕ, Some, None}
use Rattle.std.specs.Option.{option_map_or}
use Rattle.ff_headers.specs.Frames.{HeaderBytes}
use Rattle.ff_headers.specs.Objects.{FlowObjects}
use Rattle.ff_headers.specs.RuleParts.{RuleParts}
use Rattle.ff_headers.specs.Places.{RuleEntry, IsFirst, action_with, first_rule}
use Rattle.ff_headers.specs.declared.rule.Action.TheVariants.{Default}
use Rattle.matcher.specs.declared.found.Found.{Found}

-- a rule that is found: what it does with the frame, and its id
abbrev pub found_rule : RuleEntry → Found
found_rule entry = record { action = action_with entry.1.action entry.1.vq; rule = Some entry.0 }

-- no rule is found
abbrev pub found_none : Found
found_none = record { action = Default; rule = None }

-- the first rule that matches the headers, or none
unfoldable pub found_in : FlowObjects → HeaderBytes → Found
found_in objects headers = option_map_or found_rule (first_rule objects headers) found_none

-- the id is that of the first rule that matches the headers
abbrev pub IsFirstUnder : FlowObjects → HeaderBytes → ℕ → Type 0
IsFirstUnder objects headers id = (rule : RuleParts) × IsFirst objects headers (id, rule)
