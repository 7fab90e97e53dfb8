-- Each line has a number of 32 bits, and the lines are taken one by one.
use Rattle.std.proofs.Common.{ap, sym, ◌∙◌}
use Rattle.vnff_base.specs.Lines.{NumberedLine, words_of}
use Rattle.ntuple_text.specs.TableLines.{after_lines}
use Rattle.ntuple_text.proofs.ReadLemmas.{numbers-small, numbers-rest, lines-good}
use Rattle.ntuple_text.proofs.read.read_lines.Goals as goal

pub loop-line-init : goal.loop-line-init
loop-line-init c = record {
  same = ap (λ reader. after_lines c.args.table.now reader.left) c.new-reader.ensures;
  numbers = numbers-small c.args.text.now c.new-reader.result c.requires c.new-reader.ensures;
}

pub loop-line-preserved : goal.loop-line-preserved
loop-line-preserved c =
    let line : NumberedLine = record { number = c.in-Some.line.number; words = words_of c.in-Some.line.text.now } in
    record {
      same = sym (lines-good c.loop-line.table c.read_line.new.table c.loop-line.reader.left c.next_line.new.self.left line c.in-Some.ensures.next c.in_default-read_line.ensures) ∙ c.loop-line.invariant.same;
      numbers = numbers-rest c.loop-line.reader.left c.next_line.new.self.left line c.in-Some.ensures.next c.loop-line.invariant.numbers;
    }
