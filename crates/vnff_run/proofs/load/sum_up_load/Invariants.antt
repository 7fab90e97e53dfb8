use Rattle.generated_load.specs.DrawnTables.{drawn_table}
use Rattle.vnff_run.proofs.load.sum_up_load.Given as goal

abbrev pub ghost-load_counts : goal.ghost-load_counts
ghost-load_counts g a = drawn_table a.seed
