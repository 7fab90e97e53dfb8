use Rattle.ff_store.proofs.StoreLemmas.{unsound, close_unsound}
use Rattle.ff_store.proofs.store.Store.apply_sound.Goals as goal

pub returns-in-Close : goal.returns-in-Close
returns-in-Close c = unsound _ _ (rw c.in-Close.is (close_unsound c.args.self.now))
