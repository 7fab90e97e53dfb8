use Rattle.std.proofs.Common.{sym, ◌∙◌}
use Rattle.ff_store.proofs.StoreLemmas.{unsound}
use Rattle.ff_store.proofs.store.Store.apply.Goals as goal

pub returns-else-is_sound : goal.returns-else-is_sound
returns-else-is_sound c = unsound _ _ (sym c.is_sound.ensures ∙ c.if-is_sound.false)
