use Rattle.std.proofs.Common.{◌≡◌, length, sym, ◌∙◌, ap, true}
use Rattle.snapshots.specs.Lists.{ToldList, is_open}
use Rattle.snapshots.proofs.Adding.{adds_moves}
use Rattle.snapshots.proofs.trail.Trail.log.Goals as goal

pub compare_exchange-found-requires : goal.compare_exchange-found-requires
compare_exchange-found-requires c =
    let h = c.requires.head in
    let offer = c.plain-offer.ensures in
    let pen = c.no_pen-nib.ensures in
    let seen = c.again-seen.ensures in
    let book = ap (λ s. s.book) seen in
    let log = ap (λ s. s.log) seen in
    let here = ap (λ (t : ToldList). t.identity) c.self.view_is in
    let list = ap (λ (t : ToldList). t.list) c.self.view_is in
    let head = sym (ap (λ w. w.book) h) in
    let len : length c.again-seen.result.log ≡ c.self.inside.len = ap length log ∙ sym c.self.invariant.counted in
    let may : is_open c.again-seen.result.log ≡ true = ap is_open (log ∙ list) ∙ c.requires.open in (
      ap (λ w. w.tracked) h,
      book ∙ (here ∙ head),
      pen.0 ∙ (book ∙ (here ∙ head)),
      offer.0,
      rw (ap (λ w. w.key) h, pen.1, offer.1, offer.3) (adds_moves c.again-seen.result.log c.args.change.now c.self.inside.len len may),
    )
