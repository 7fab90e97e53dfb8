use Rattle.std.proofs.Common.{◌≡◌, [], ◌∷◌, ◌++◌, arith, ap, sym, ◌∙◌, append_assoc}
use Rattle.std.proofs.lemmas.Grind.{common_steps}
use Rattle.std.specs.Vec.Iter.{into_iter_items}
use Rattle.vnff_run.specs.LiveRuns.{commands_in}
use Rattle.vnff_run.proofs.LiveCommandLemmas.{commands_within, few_commands, more_commands}
use Rattle.vnff_run.proofs.live_run.commands_in.Goals as goal

pub loop-item-preserved : goal.loop-item-preserved
loop-item-preserved c =
    let yielded = c.loop-item.yielded in
    record {
      all = append_assoc yielded (c.in-Some.item ∷ []) (into_iter_items c.next.new.self) ∙ ap (λ rest. yielded ++ rest) (sym c.in-Some.ensures.steps.0) ∙ c.loop-item.invariant.all;
      commands = more_commands _ _ yielded c.in-Some.item c.loop-item.invariant.commands c.in_ok-keep_command.ensures;
    }

pub returns-clause-within : goal.returns-clause-within
returns-clause-within c =
    let is : c.loop-item.commands ≡ commands_in c.args.items = grind (arith, common_steps) in
    rw is (commands_within c.args.items c.requires)

pub returns-clause-few : goal.returns-clause-few
returns-clause-few c =
    let is : c.loop-item.commands ≡ commands_in c.args.items = grind (arith, common_steps) in
    rw is (few_commands c.args.items)
