use Rattle.ntuple_compile.proofs.CommandLemmas.{all_put}
use Rattle.ntuple_compile.proofs.commands.commands_for.Goals as goal

pub returns : goal.returns
returns c =
    let limits = c.args.limits.now in
    let size = c.rules_per_group-size.ensures.value in
    let filled = rw size at c.group_count.ensures in
    let classifiers = rw c.firsts.ensures at c.in_ok-create_classifiers.ensures in
    let rules = rw size at c.in_ok-create_rules.ensures in
    all_put limits c.args.specs.now c.group_count.result c.args.shapes.now.firsts.items c.new-commands.result c.create_groups.new.commands c.create_classifiers.new.commands c.create_rules.new.commands filled c.requires.shapes c.new-commands.ensures c.in_ok-create_groups.ensures classifiers rules
