use Rattle.vnff_run.proofs.table.classify_all.Given as goal

abbrev pub ghost-put_lines : goal.ghost-put_lines
ghost-put_lines g a = g.table
