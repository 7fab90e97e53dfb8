use Rattle.ff_headers.specs.declared.change.Change.TheVariants.{PutClassifier}
use Rattle.ff_store.proofs.StoreLemmas.{classifier_room, classifier_put, classifiers_kept, stepped}
use Rattle.ff_store.proofs.store.Store.put_classifier.Goals as goal

pub put_object-requires : goal.put_object-requires
put_object-requires c = classifier_room _ _ _ _ c.self.invariant _ c.self.view_is _ _ c.requires

pub invariant_of-self : goal.invariant_of-self
invariant_of-self c =
    let made = classifier_put _ _ _ _ c.self.invariant _ c.self.view_is c.put_object.new.map c.args.id c.args.selectors c.put_object.ensures.objects in
    classifiers_kept _ _ _ _ c.self.invariant _ c.self.view_is c.put_object.new.map (PutClassifier c.args.id c.args.selectors) c.requires c.as_slice-shape.ensures.good.shape made c.put_object.ensures.counts c.put_object.ensures.room

pub returns : goal.returns
returns c =
    let made = classifier_put _ _ _ _ c.self.invariant _ c.self.view_is c.put_object.new.map c.args.id c.args.selectors c.put_object.ensures.objects in
    stepped _ _ _ _ c.self.invariant _ c.self.view_is (PutClassifier c.args.id c.args.selectors) c.self.inside.groups c.put_object.new.map c.self.inside.rules c.requires made
