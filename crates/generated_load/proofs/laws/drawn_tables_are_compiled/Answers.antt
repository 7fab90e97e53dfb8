use Rattle.generated_load.proofs.RoomLemmas.{table_compiled}
use Rattle.generated_load.proofs.laws.drawn_tables_are_compiled.Goals as goal

pub returns : goal.returns
returns c = table_compiled
