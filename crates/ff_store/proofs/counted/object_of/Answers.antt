use Rattle.std.proofs.Common.{ap, sym, ◌∙◌}
use Rattle.std.specs.Prelude.{option_map}
use Rattle.ff_store.proofs.CountedLemmas.{object_under-objects}
use Rattle.ff_store.proofs.counted.object_of.Goals as goal

pub returns-in-Some : goal.returns-in-Some
returns-in-Some g c = ap (option_map (λ x. x.object)) c.in-Some.ensures.value ∙ sym (object_under-objects c.args.map.now.entries c.args.id)

pub returns-in-None : goal.returns-in-None
returns-in-None g c = ap (option_map (λ x. x.object)) c.in-None.ensures.value ∙ sym (object_under-objects c.args.map.now.entries c.args.id)
