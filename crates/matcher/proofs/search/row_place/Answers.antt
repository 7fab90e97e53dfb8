use Rattle.std.proofs.Common.{◌≡◌, refl, sym, ◌∙◌, arith}
use Rattle.matcher.proofs.SearchLemmas.{search_begun, search_low, search_high}
use Rattle.matcher.proofs.search.row_place.Goals as goal

pub loop-low-init : goal.loop-low-init
loop-low-init g c = search_begun c.args.rows.now c.args.number c.args.key.now.items c.args.steps.now _ (omega arith)

pub loop-low-preserved-then-precedes : goal.loop-low-preserved-then-precedes
loop-low-preserved-then-precedes g c =
    search_low c.args.rows.now c.requires c.args.number c.args.key.now.items c.args.steps.now c.loop-low.low c.loop-low.high c.loop-low.steps c.precedes.new.steps _ c.index-rows-middle.result c.loop-low.invariant c.loop-low-test.true refl c.index-rows-middle.is c.precedes.ensures.counted c.precedes.ensures.free (sym c.precedes.ensures.value ∙ c.if-precedes.true)

pub loop-low-preserved : goal.loop-low-preserved
loop-low-preserved g c =
    search_high c.args.rows.now c.requires c.args.number c.args.key.now.items c.args.steps.now c.loop-low.low c.loop-low.high c.loop-low.steps c.precedes.new.steps _ c.index-rows-middle.result c.loop-low.invariant c.loop-low-test.true refl c.index-rows-middle.is c.precedes.ensures.counted c.precedes.ensures.free (sym c.precedes.ensures.value ∙ c.if-precedes.false)

pub returns : goal.returns
returns g c =
    let was = c.loop-low.invariant in
    let same : c.loop-low.low ≡ c.loop-low.high = (let a = was.ordered in let b = c.loop-low-test.false in omega arith) in
    record {
      within = let a = was.within in let b = was.ordered in omega arith;
      before = was.before;
      behind = λ k d le lt. was.behind k d (omega arith) lt;
      rising = was.rising;
      some = was.some;
      none = was.none;
      few = was.few;
    }
