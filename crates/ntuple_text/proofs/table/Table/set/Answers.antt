-- The spec that is put into the table is one that a line can spell.
use Rattle.std.proofs.Common.{ℕ, ap, sym, subst}
use Rattle.ntuple_text.specs.Spellable.{IsSpellable}
use Rattle.ntuple_text.proofs.TableLemmas.{table-set}
use Rattle.ntuple_text.proofs.table.Table.set.Goals as goal

pub invariant_of-self : goal.invariant_of-self
invariant_of-self c =
    let P : ℕ → Type 0 = λ pairs. IsSpellable pairs c.args.spec in
    table-set c.self.inside.pairs c.from.result c.self.inside.slots.items c.args.spec c.self.invariant c.from.ensures (subst P (sym (ap (λ table. table.pairs) c.self.view_is)) c.requires)
