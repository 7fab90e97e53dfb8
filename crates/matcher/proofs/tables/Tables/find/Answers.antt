use Rattle.std.proofs.Common.{ap, subst}
use Rattle.ff_headers.specs.Objects.{FlowObjects}
use Rattle.matcher.specs.Candidates.{found_with}
use Rattle.matcher.specs.Tables.{TableState}
use Rattle.matcher.specs.Comparisons.{IsBounded}
use Rattle.matcher.proofs.FoundLemmas.{Finds, finds, is_found}
use Rattle.matcher.proofs.FirstLemmas.{first_row_is_first}
use Rattle.matcher.proofs.CostLemmas.{bounded}
use Rattle.matcher.proofs.tables.Tables.find.Goals as goal

pub first-requires-clause-rising : goal.first-requires-clause-rising
first-requires-clause-rising g c = c.self.invariant.rows.rising

pub first-requires-clause-apart : goal.first-requires-clause-apart
first-requires-clause-apart g c = c.self.invariant.rows.apart

pub returns : goal.returns
returns g c =
    let headers = c.args.headers.now in
    let store = c.self.inside.store in
    let index = c.self.inside.index in
    let well = c.limits-well_formed.ensures.well_formed in
    let first = c.first.result in
    let is = first_row_is_first store.limits store.objects well headers c.have_sizes.ensures index.shapes.items index.rows.items c.self.invariant.rows first c.first.ensures.first in
    let same = ap (λ (tables : TableState). tables.objects) c.self.view_is in
    let here = finds store.objects headers (found_with first) well.by_id.rules_rise (is_found _ _ _ is) in
    let says = subst (λ (objects : FlowObjects). Finds objects headers (found_with first)) same here in
    let cost = bounded store.objects headers index.shapes.items index.rows.items c.self.invariant.rows c.args.steps.now c.first.new.steps c.first.ensures.cost in
    rw c.found_with.ensures (record { value = says.value; action = says.action; first = says.first; none = says.none; cost = subst (λ (objects : FlowObjects). IsBounded objects headers c.args.steps.now c.first.new.steps) same cost })
