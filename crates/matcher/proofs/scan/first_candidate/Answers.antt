use Rattle.std.proofs.Common.{◌<◌, length, sym, ◌∙◌, ap, inl, inr, arith}
use Rattle.std.proofs.lemmas.Option.{slice_get_cases}
use Rattle.matcher.specs.Candidates.{earlier}
use Rattle.matcher.proofs.ScanLemmas.{walk_more, walk_all}
use Rattle.matcher.proofs.scan.first_candidate.Goals as goal

pub loop-at-preserved : goal.loop-at-preserved
loop-at-preserved c =
    let rules = c.args.store.now.objects.rules in
    let within : c.loop-at.at < length rules = omega arith in
    elim ((slice_get_cases rules c.loop-at.at).1) [
      | inl found ↦ c.earlier-first.ensures
          ∙ ap (earlier c.loop-at.first) (c.candidate_at.ensures found.0 found.2)
          ∙ walk_more _ _ _ found.0 _ within (sym found.3) c.loop-at.invariant
      | inr past ↦ absurd (omega (arith, past.0))
    ]

pub returns : goal.returns
returns c = c.loop-at.invariant ∙ walk_all _ _ c.loop-at.at (omega arith)
