-- What stands at a location is a spec of this location that a line can spell.
use Rattle.std.proofs.Common.{rules, ◌≡◌, subst}
use Rattle.std.specs.Option.{option_copied}
use Rattle.ntuple_text.specs.Spellable.{IsTable}
use Rattle.ntuple_text.specs.TableMaps.{TableMap, spec_at}
use Rattle.ntuple_text.proofs.TableLemmas.{table-at}
use Rattle.ntuple_text.proofs.table.Table.at.Goals as goal

pub returns-in-Some-clause-spellable : goal.returns-in-Some-clause-spellable
returns-in-Some-clause-spellable c =
    let P : TableMap → Type 0 = λ table. IsTable table.pairs table.slots in
    let value : option_copied c.as_ref.result ≡ spec_at c.args.self.now c.args.loc = search rules in
    table-at c.args.self.now.pairs c.args.loc c.args.self.now.slots c.as_ref.result (subst P c.self.view_is c.self.invariant) value
