-- What the lines that are left do to the table so far is what all lines do.
use Rattle.std.proofs.Common.{◌≡◌, ◌<◌, ◌^◌, length, All}
use Rattle.vnff_base.specs.Lines.{word_lines}
use Rattle.ntuple_text.specs.TableLines.{after_lines}
use Rattle.ntuple_text.proofs.read.read_lines.Given as goal

abbrev pub invariant-loop-line : goal.invariant-loop-line
invariant-loop-line l = record {
  same : after_lines l.table l.reader.left ≡ after_lines l.fn.table (word_lines l.text);
  numbers : All (λ line. line.number < 2 ^ 32) l.reader.left;
}

abbrev pub decreases-loop-line : goal.decreases-loop-line
decreases-loop-line l = length l.reader.left
