use Rattle.ff_headers.specs.declared.change.Change.TheVariants.{DropGroup}
use Rattle.ff_store.proofs.StoreLemmas.{group_unnamed, group_dropped, groups_kept, stepped}
use Rattle.ff_store.proofs.store.Store.drop_group.Goals as goal

pub remove_object-requires : goal.remove_object-requires
remove_object-requires c = group_unnamed _ _ _ _ c.self.invariant _ c.self.view_is _ c.requires

pub invariant_of-self : goal.invariant_of-self
invariant_of-self c =
    let made = group_dropped _ _ _ _ c.self.invariant _ c.self.view_is c.remove_object.new.map c.args.id c.remove_object.ensures.objects in
    groups_kept _ _ _ _ c.self.invariant _ c.self.view_is c.remove_object.new.map (DropGroup c.args.id) c.requires tt made c.remove_object.ensures.counts c.remove_object.ensures.room

pub returns : goal.returns
returns c =
    let made = group_dropped _ _ _ _ c.self.invariant _ c.self.view_is c.remove_object.new.map c.args.id c.remove_object.ensures.objects in
    stepped _ _ _ _ c.self.invariant _ c.self.view_is (DropGroup c.args.id) c.remove_object.new.map c.self.inside.classifiers c.self.inside.rules c.requires made
