use Rattle.std.proofs.Common.{◌≡◌, List, [], Some, sym, ap, ◌∙◌}
use Rattle.std.proofs.lemmas.List.{get_or_default}
use Rattle.ff_headers.specs.SelectorParts.{SelectorParts}
use Rattle.matcher.specs.Keys.{frame_key}
use Rattle.matcher.specs.Rows.{selectors_at}
use Rattle.matcher.specs.Searches.{HasKey, FitsRow}
use Rattle.matcher.specs.declared.rows.Row.{Row}
use Rattle.matcher.proofs.FirstLemmas.{same_kind, fits_from_key, key_from_fits}
use Rattle.matcher.proofs.index.RowIndex.first_in.Goals as goal

pub returns-in-Some-clause-first : goal.returns-in-Some-clause-first
returns-in-Some-clause-first g c =
    let shapes = c.args.self.now.shapes.items in
    let rows = c.args.self.now.rows.items in
    let headers = c.args.headers.now in
    let n = c.args.number in
    let at : c.index.result.now ≡ selectors_at shapes n = c.index.ensures ∙ get_or_default shapes n c.index.result.now [] c.requires.inside in
    let keyed : frame_key (selectors_at shapes n) headers ≡ Some c.in-Some.key.items = ap (λ (ss : List SelectorParts). frame_key ss headers) (sym at) ∙ sym (rw c.in-Some.is at c.frame_key.ensures) in
    let found = rw c.deref.ensures.value at c.first_with.ensures.first in
    same_kind rows (HasKey n c.in-Some.key.items) (λ (row : Row). (row.shape ≡ n) × FitsRow shapes headers row) (λ row has. fits_from_key shapes headers n c.in-Some.key.items row keyed) (λ row has. key_from_fits shapes headers n c.in-Some.key.items row keyed) c.first_with.result found

pub returns-in-Some-clause-cost : goal.returns-in-Some-clause-cost
returns-in-Some-clause-cost g c =
    let cost = rw c.deref.ensures.value at c.first_with.ensures.cost in
    record { some = λ row has same carried. cost.some row has same; none = cost.none; most = cost.most; rising = cost.rising }
