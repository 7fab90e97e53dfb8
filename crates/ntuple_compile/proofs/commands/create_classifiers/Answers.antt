use Rattle.std.proofs.Common.{List, ap, ◌∙◌, map, take}
use Rattle.std.specs.List.{enumerate_from}
use Rattle.ff_headers.specs.SelectorParts.{SelectorParts}
use Rattle.admin_wire.specs.declared.command.Command.TheVariants.{Create}
use Rattle.admin_wire.specs.declared.command.ObjData.TheVariants.{Classifier}
use Rattle.admin_wire.specs.declared.command.RawList.TheVariants.{Good}
use Rattle.ntuple_compile.specs.Compiled.{create_classifier, create_head}
use Rattle.ntuple_compile.specs.Selected.{selectors_of}
use Rattle.ntuple_compile.proofs.CommandLemmas.{classifiers_more, pushed}
use Rattle.ntuple_compile.proofs.commands.create_classifiers.Goals as goal

pub loop-id-preserved : goal.loop-id-preserved
loop-id-preserved c =
    let id = c.loop-id.id in
    let firsts = c.args.firsts.now in
    let head = ap (λ h. Create h (Classifier (Good c.selectors_of.result))) c.create_head-head.ensures in
    let list = ap (λ (xs : List SelectorParts). Create (create_head 513 id) (Classifier (Good (record { items = xs })))) c.selectors_of.ensures in
    let item = head ∙ list in
    let front = map create_classifier (enumerate_from 0 (take id (map selectors_of firsts))) in
    pushed c.args.commands.now front _ c.loop-id.commands c.push.new.self _ c.loop-id.invariant (rw item at c.in_ok-push.ensures.ok) (classifiers_more firsts id _ c.loop-id-test.true)
