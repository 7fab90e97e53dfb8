use Rattle.std.proofs.Common.{◌≡◌, ◌+◌, ◌*◌, ◌<◌, ◌≤◌, ◌∷◌, [], length, take, Some, sym, ap, subst, ◌∙◌, arith}
use Rattle.std.specs.Prelude.{slice_get}
use Rattle.std.specs.Option.{option_copied}
use Rattle.steer.specs.LiveSteps.{HasReadOn}
use Rattle.steer.specs.Shares.{share, share_len}
use Rattle.steer.proofs.ReadLemmas.{reads_more}
use Rattle.steer.proofs.ShareLemmas.{turn_within, share_step, share_all}
use Rattle.steer.proofs.reading.read_share.Goals as goal

pub overflow_add-i : goal.overflow_add-i
overflow_add-i g c =
    let turn : c.loop-turn.turn < share_len c.len.result c.args.workers c.args.place = subst (λ n. c.loop-turn.turn < n) c.share_len-turn-end.ensures.value c.loop-turn-test.true in
    let lt = turn_within c.len.result c.args.workers c.args.place c.loop-turn.turn c.requires.place turn in
    let there : c.from.result + c.loop-turn.turn * c.from-in-loop-turn.result < c.len.result = subst (λ p. p + c.loop-turn.turn * c.from-in-loop-turn.result < c.len.result) (sym c.from.ensures) (subst (λ w. c.args.place + c.loop-turn.turn * w < c.len.result) (sym c.from-in-loop-turn.ensures) lt) in
    record { fits = omega (arith, there, c.len.type_inv) }

pub loop-turn-preserved : goal.loop-turn-preserved
loop-turn-preserved g c =
    let frames = c.args.frames.now in
    let turn : c.loop-turn.turn < share_len c.len.result c.args.workers c.args.place = subst (λ n. c.loop-turn.turn < n) c.share_len-turn-end.ensures.value c.loop-turn-test.true in
    let in_share : c.loop-turn.turn < share_len (length frames) c.args.workers c.args.place = subst (λ n. c.loop-turn.turn < share_len n c.args.workers c.args.place) c.len.ensures turn in
    let i = c.from.result + c.loop-turn.turn * c.from-in-loop-turn.result in
    let is : i ≡ c.args.place + c.loop-turn.turn * c.args.workers = ap (λ p. p + c.loop-turn.turn * c.from-in-loop-turn.result) c.from.ensures ∙ ap (λ w. c.args.place + c.loop-turn.turn * w) c.from-in-loop-turn.ensures in
    let at : slice_get frames i ≡ Some c.unwrap.result.now = sym c.at.ensures.item ∙ ap option_copied c.unwrap.ensures in
    subst (HasReadOn c.args.worker.now c.read.new.worker) (sym (share_step frames c.args.workers c.args.place c.loop-turn.turn i c.unwrap.result.now in_share is at))
    (reads_more c.args.worker.now c.loop-turn.worker c.read.new.worker (take c.loop-turn.turn (share frames c.args.workers c.args.place)) (c.unwrap.result.now ∷ []) c.loop-turn.invariant c.read.ensures.read)

pub returns : goal.returns
returns g c =
    let frames = c.args.frames.now in
    let over : share_len c.len.result c.args.workers c.args.place ≤ c.loop-turn.turn = subst (λ n. n ≤ c.loop-turn.turn) c.share_len-turn-end.ensures.value c.loop-turn-test.false in
    let all : share_len (length frames) c.args.workers c.args.place ≤ c.loop-turn.turn = subst (λ n. share_len n c.args.workers c.args.place ≤ c.loop-turn.turn) c.len.ensures over in
    subst (HasReadOn c.args.worker.now c.loop-turn.worker) (share_all frames c.args.workers c.args.place c.loop-turn.turn all) c.loop-turn.invariant
