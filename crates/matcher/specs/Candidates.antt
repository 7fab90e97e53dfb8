-- The rules that match a frame, by what the walk keeps of them. This project's own.
use Rattle.std.specs.Prelude.{Bool, Option, Some, None, if◌then◌else◌}
use Rattle.std.specs.Ordering.{is_lt}
use Rattle.ff_headers.specs.Frames.{HeaderBytes}
use Rattle.ff_headers.specs.Objects.{FlowObjects}
use Rattle.ff_headers.specs.Places.{RuleEntry, place_of, place_cmp, rule_matches, action_with}
use Rattle.matcher.specs.Findings.{found_none}
use Rattle.matcher.specs.declared.found.Found.{Found}
use Rattle.matcher.specs.declared.scan.Candidate.{Candidate}

-- a rule's place, and what it does
abbrev pub candidate_of : FlowObjects → RuleEntry → Candidate
candidate_of objects entry = record {
  place = place_of objects entry;
  action = action_with entry.1.action entry.1.vq;
}

-- a rule, where it matches
abbrev pub candidate_among : FlowObjects → HeaderBytes → RuleEntry → Option Candidate
candidate_among objects headers entry =
    if rule_matches objects headers entry.1 then Some (candidate_of objects entry) else None

-- one stands before another
abbrev pub comes_before : Candidate → Candidate → Bool
comes_before a b = is_lt (place_cmp a.place b.place)

-- the first so far, and one more
abbrev pub earlier : Option Candidate → Option Candidate → Option Candidate
earlier first None = first
earlier None (Some next) = Some next
earlier (Some first) (Some next) = Some (if comes_before next first then next else first)

-- what a search gives where this is the first rule that matches
abbrev pub found_with : Option Candidate → Found
found_with None = found_none
found_with (Some first) = record { action = first.action; rule = Some first.place.2 }
