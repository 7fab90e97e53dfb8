use Rattle.vnff_run.proofs.load.load_counts.Given as goal

abbrev pub ghost-count_actions : goal.ghost-count_actions
ghost-count_actions g a = g.table
