-- The replies so far were written.
use Rattle.std.proofs.Common.{take}
use Rattle.std.specs.List.{flat_map}
use Rattle.vnff_base.specs.Gatherings.{Took}
use Rattle.vnff_run.proofs.LiveLines.{line_of_reply}
use Rattle.vnff_run.proofs.live_text.put_replies.Given as goal

abbrev pub invariant-loop-reply : goal.invariant-loop-reply
invariant-loop-reply g l =
    Took (g.O.Out.state l.initial.out) (g.O.Out.state l.out) l.initial.text l.text (flat_map line_of_reply (take l.reply-index l.replies))
