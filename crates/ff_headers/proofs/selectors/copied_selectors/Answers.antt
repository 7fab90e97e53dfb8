use Rattle.std.proofs.Common.{subst, arith}
use Rattle.std.proofs.lemmas.Grind.{common_steps}
use Rattle.std.proofs.lemmas.List.Elements.{All-more}
use Rattle.ff_headers.specs.SelectorParts.{IsWhole}
use Rattle.ff_headers.proofs.selectors.copied_selectors.Goals as goal

pub loop-selector-preserved : goal.loop-selector-preserved
loop-selector-preserved g c =
    let here = subst IsWhole c.selector-item.is c.copy.ensures.whole in
    record {
      copied_so_far = grind (arith, common_steps);
      whole = All-more IsWhole c.args.list.now c.loop-selector.selector-index c.selector-item.result c.loop-selector-test.true c.loop-selector.invariant.whole here;
    }
