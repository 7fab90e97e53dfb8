use Rattle.vnff_base.specs.Lines.{is_line_feed}
use Rattle.vnff_base.proofs.LineLemmas.{first_byte-position}
use Rattle.vnff_base.proofs.text.line_end.Goals as goal

pub returns : goal.returns
returns c = first_byte-position is_line_feed c.args.text.now c.memchr.result c.memchr.ensures
