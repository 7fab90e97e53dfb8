use Rattle.vnff_run.proofs.table.put_text.Given as goal

abbrev pub ghost-put_packets : goal.ghost-put_packets
ghost-put_packets g a = g.table
