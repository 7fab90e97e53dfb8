-- What the lines that are passed leave is what was left: none of them counts.
use Rattle.std.proofs.Common.{◌≡◌, ◌+◌, ◌<◌, ◌^◌, length}
use Rattle.vnff_base.specs.Lines.{unread_from}
use Rattle.vnff_base.proofs.text.LineReader.next_line.Given as goal

abbrev pub invariant-loop-line : goal.invariant-loop-line
invariant-loop-line l = record {
  same : unread_from l.self-inside.number l.self-inside.rest.now ≡ unread_from l.initial.self-inside.number l.initial.self-inside.rest.now;
  fits : l.self-inside.number + length l.self-inside.rest.now < 2 ^ 64;
}

abbrev pub decreases-loop-line : goal.decreases-loop-line
decreases-loop-line l = length l.self-inside.rest.now
