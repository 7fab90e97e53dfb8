use Rattle.std.proofs.Common.{◌≡◌}
use Rattle.std.specs.Option.{option_map}
use Rattle.ff_headers.specs.Places.{least_rule}
use Rattle.matcher.specs.Candidates.{candidate_of}
use Rattle.matcher.proofs.ScanLemmas.{matching}
use Rattle.matcher.proofs.scan.first_candidate.Given as goal

abbrev pub invariant-loop-at : goal.invariant-loop-at
invariant-loop-at l =
    l.first ≡ option_map (candidate_of l.store.objects) (least_rule l.store.objects (matching l.store.objects l.headers l.at))
