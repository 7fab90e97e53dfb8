use Rattle.std.proofs.Common.{◌∙◌}
use Rattle.vnff_base.specs.Lines.{is_blank}
use Rattle.vnff_base.proofs.LineLemmas.{first_byte-or_len}
use Rattle.vnff_base.proofs.text.word_len.Goals as goal

pub returns-clause-count : goal.returns-clause-count
returns-clause-count c =
    c.unwrap_or.ensures ∙ first_byte-or_len is_blank c.args.line.now c.memchr2.result c.memchr2.ensures
