use Rattle.std.proofs.Common.{◌≡◌, ap, subst}
use Rattle.ff_headers.specs.Objects.{FlowObjects}
use Rattle.matcher.specs.Candidates.{found_with}
use Rattle.matcher.specs.Tables.{TableState}
use Rattle.matcher.specs.Findings.{found_in}
use Rattle.matcher.proofs.FoundLemmas.{is_found}
use Rattle.matcher.proofs.tables.Tables.find_by_walk.Goals as goal

pub returns : goal.returns
returns c =
    let headers = c.args.headers.now in
    let first = c.first_candidate.result in
    let same = ap (λ (tables : TableState). tables.objects) c.self.view_is in
    let found = is_found c.self.inside.store.objects headers first c.first_candidate.ensures in
    rw c.found_with.ensures (subst (λ (objects : FlowObjects). found_with first ≡ found_in objects headers) same found)
