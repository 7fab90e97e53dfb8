use Rattle.std.proofs.Common.{◌≡◌, ◌++◌, append-nil, sym, ap, ◌∙◌}
use Rattle.admin_wire.specs.Replies.{reply_bytes}
use Rattle.cap_table.specs.Answers.{bare_reply}
use Rattle.cap_table.specs.Steps.{effect_of, reply_of, with_effect}
use Rattle.cap_table.specs.declared.answer.Effect.TheVariants as effects
use Rattle.snapshots.specs.Ends.{with_list}
use Rattle.steer.specs.LiveCommands.{changes_of}
use Rattle.steer.proofs.CarryLemmas.{refused_leaves, obeyed_leaves}
use Rattle.steer.proofs.OpenLists.{change_open}
use Rattle.steer.proofs.admin_side.obey_line.Goals as goal

pub publish-requires : goal.publish-requires
publish-requires g c = λ change is.
    change_open c.args.device.now c.as_slice.result.now c.from-room.result change (sym c.decide-reply.ensures.effect ∙ is)

pub returns-then-not-publish : goal.returns-then-not-publish
returns-then-not-publish g c =
    let s = c.args.device.now in
    let line = c.args.line.now in
    let end = c.args.end.now in
    let none = c.if-not-publish.ensures in
    let effect : c.decide-reply.result.effect ≡ effect_of s line.bytes line.room = c.decide-reply.ensures.effect ∙ (ap (λ b. effect_of s b c.from-room.result) c.as_slice.ensures ∙ ap (λ r. effect_of s line.bytes r) c.from-room.ensures) in
    let leaves = refused_leaves s line c.no_memory.result.items none.1.0 (sym effect ∙ none.1.1) (c.no_memory.ensures ∙ ap (reply_bytes (bare_reply 12 6)) c.from-room.ensures) in
    record {
      answered = leaves.answered;
      left = sym leaves.left;
      published = none.0 ∙ ap (λ l. with_list end l) (sym (ap (λ m. end.list ++ m) leaves.made_by ∙ append-nil end.list));
    }

pub returns : goal.returns
returns g c =
    let s = c.args.device.now in
    let line = c.args.line.now in
    let end = c.args.end.now in
    let published = c.if-not-publish.ensures in
    let effect : c.decide-reply.result.effect ≡ effect_of s line.bytes line.room = c.decide-reply.ensures.effect ∙ (ap (λ b. effect_of s b c.from-room.result) c.as_slice.ensures ∙ ap (λ r. effect_of s line.bytes r) c.from-room.ensures) in
    let reply : c.decide-reply.result.reply.items ≡ reply_of s line.bytes line.room = c.decide-reply.ensures.reply ∙ (ap (λ b. reply_of s b c.from-room.result) c.as_slice.ensures ∙ ap (λ r. reply_of s line.bytes r) c.from-room.ensures) in
    let leaves = obeyed_leaves s line c.decide-reply.result.reply.items reply in
    record {
      answered = leaves.answered;
      left = c.commit.ensures.state ∙ (ap (with_effect s) effect ∙ sym leaves.left);
      published = published ∙ ap (λ l. with_list end (end.list ++ l)) (ap changes_of effect ∙ sym leaves.made_by);
    }
