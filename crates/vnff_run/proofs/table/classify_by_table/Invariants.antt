use Rattle.vnff_run.proofs.table.classify_by_table.Given as goal

abbrev pub ghost-classify_all : goal.ghost-classify_all
ghost-classify_all g a = a.compiled.table
