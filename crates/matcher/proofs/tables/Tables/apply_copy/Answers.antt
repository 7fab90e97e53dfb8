use Rattle.std.proofs.Common.{◌≡◌, sym, ap, ◌∙◌, subst}
use Rattle.ff_headers.specs.Changes.{count_after}
use Rattle.ff_headers.specs.Objects.{FlowObjects}
use Rattle.matcher.specs.Tables.{TableState, applied, tables_with}
use Rattle.matcher.proofs.IndexLemmas.{unchanged}
use Rattle.matcher.proofs.tables.Tables.apply_copy.Goals as goal

pub returns-else-is_sound : goal.returns-else-is_sound
returns-else-is_sound c =
    let tables = c.self.inside in
    let limits = tables.store.limits in
    let objects = tables.store.objects in
    let change = c.args.change.now in
    let count = c.count_after-self-inside.result in
    let stays = unchanged limits objects change (sym c.is_sound.ensures ∙ c.if-is_sound.false) in
    let same : tables_with limits objects count ≡ applied (tables_with limits objects tables.count) change =
    rw c.count_after-self-inside.ensures (ap (λ (left : FlowObjects). tables_with limits left (count_after tables.count change)) stays) in
    subst (λ (t : TableState). tables_with limits objects count ≡ applied t change) c.self.view_is same
