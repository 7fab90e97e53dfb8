use Rattle.ff_headers.specs.declared.change.Change.TheVariants.{DropClassifier}
use Rattle.ff_store.proofs.StoreLemmas.{classifier_unnamed, classifier_dropped, classifiers_kept, stepped}
use Rattle.ff_store.proofs.store.Store.drop_classifier.Goals as goal

pub remove_object-requires : goal.remove_object-requires
remove_object-requires c = classifier_unnamed _ _ _ _ c.self.invariant _ c.self.view_is _ c.requires

pub invariant_of-self : goal.invariant_of-self
invariant_of-self c =
    let made = classifier_dropped _ _ _ _ c.self.invariant _ c.self.view_is c.remove_object.new.map c.args.id c.remove_object.ensures.objects in
    classifiers_kept _ _ _ _ c.self.invariant _ c.self.view_is c.remove_object.new.map (DropClassifier c.args.id) c.requires tt made c.remove_object.ensures.counts c.remove_object.ensures.room

pub returns : goal.returns
returns c =
    let made = classifier_dropped _ _ _ _ c.self.invariant _ c.self.view_is c.remove_object.new.map c.args.id c.remove_object.ensures.objects in
    stepped _ _ _ _ c.self.invariant _ c.self.view_is (DropClassifier c.args.id) c.self.inside.groups c.remove_object.new.map c.self.inside.rules c.requires made
