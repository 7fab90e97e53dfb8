use Rattle.vnff_run.proofs.table.put_lines.Given as goal

abbrev pub ghost-put_text : goal.ghost-put_text
ghost-put_text g a = g.table
