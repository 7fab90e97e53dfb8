use Rattle.ff_headers.specs.declared.change.Change.TheVariants.{PutGroup}
use Rattle.ff_store.proofs.StoreLemmas.{group_room, group_put, groups_kept, stepped}
use Rattle.ff_store.proofs.store.Store.put_group.Goals as goal

pub put_object-requires : goal.put_object-requires
put_object-requires c = group_room _ _ _ _ c.self.invariant _ c.self.view_is _ _ c.requires

pub invariant_of-self : goal.invariant_of-self
invariant_of-self c =
    let made = group_put _ _ _ _ c.self.invariant _ c.self.view_is c.put_object.new.map c.args.id c.args.priority c.put_object.ensures.objects in
    groups_kept _ _ _ _ c.self.invariant _ c.self.view_is c.put_object.new.map (PutGroup c.args.id c.args.priority) c.requires tt made c.put_object.ensures.counts c.put_object.ensures.room

pub returns : goal.returns
returns c =
    let made = group_put _ _ _ _ c.self.invariant _ c.self.view_is c.put_object.new.map c.args.id c.args.priority c.put_object.ensures.objects in
    stepped _ _ _ _ c.self.invariant _ c.self.view_is (PutGroup c.args.id c.args.priority) c.put_object.new.map c.self.inside.classifiers c.self.inside.rules c.requires made
