use Rattle.admin_wire.proofs.ReadBack.{written_reads}
use Rattle.admin_wire.proofs.Writing.{WritesFields-more}
use Rattle.admin_wire.proofs.write.put_command.Goals as goal

pub returns-clause-read_back : goal.returns-clause-read_back
returns-clause-read_back c =
    written_reads _ _ _ _ c.new-bytes.ensures c.of_command.ensures (WritesFields-more c.put_header.ensures c.put_data.ensures.writes)
    c.requires.known (c.put_data.ensures.layout c.requires.known)
