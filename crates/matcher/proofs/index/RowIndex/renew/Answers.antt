use Rattle.std.proofs.Common.{◌≡◌, Some, None, sym, ap, arith}
use Rattle.std.specs.Option.{option_map}
use Rattle.ff_headers.specs.Objects.{object_under}
use Rattle.ff_headers.specs.Places.{RuleEntry}
use Rattle.matcher.specs.Rows.{with_kept, kept_with, kept_by}
use Rattle.matcher.proofs.RowLemmas.{same_kept, rows_without}
use Rattle.matcher.proofs.IndexLemmas.{row_fits, shape_fits}
use Rattle.matcher.proofs.index.RowIndex.renew.Goals as goal

pub put-requires-clause-row_fits : goal.put-requires-clause-row_fits
put-requires-clause-row_fits c = λ none.
    let store = c.args.store.now in
    let kept = c.requires.held.0 in
    let index = c.requires.held.1 in
    let room = index.rows_room in
    let without = rows_without kept c.args.self.now.shapes.items c.args.self.now.rows.items index.rows c.args.id none in
    let fits = row_fits store.limits store.objects c.requires.well_formed kept c.requires.held.2 c.args.self.now.shapes.items c.args.self.now.rows.items c.args.id without c.args.rule.now c.requires.fits in
    omega arith

pub put-requires-clause-shape_fits : goal.put-requires-clause-shape_fits
put-requires-clause-shape_fits c = λ new used.
    let store = c.args.store.now in
    let kept = c.requires.held.0 in
    let index = c.requires.held.1 in
    let room = index.shapes_room in
    let is : object_under store.objects.classifiers c.args.rule.now.classifier ≡ Some c.in-Some.selectors.now = sym (rw (c.in-Some.is, c.classifier.ensures) at c.selectors.ensures) in
    let fits = shape_fits store.limits store.objects c.requires.well_formed kept c.requires.held.2 c.args.self.now.shapes.items c.args.self.now.rows.items index.rows c.args.rule.now.classifier c.in-Some.selectors.now is new used in
    omega arith

pub returns-in-Some : goal.returns-in-Some
returns-in-Some c = λ kept index.
    let store = c.args.store.now in
    let id = c.args.id in
    let entry : RuleEntry = (id, c.args.rule.now) in
    let selectors = c.in-Some.selectors.now in
    let is : object_under store.objects.classifiers c.args.rule.now.classifier ≡ Some selectors = sym (rw (c.in-Some.is, c.classifier.ensures) at c.selectors.ensures) in
    let one = kept_with c.args.group_priority entry selectors in
    let by : Some one ≡ kept_by store.objects c.args.group_priority entry = sym (ap (option_map (kept_with c.args.group_priority entry)) is) in
    record {
      rows = same_kept _ _ c.put.new.self.shapes.items c.put.new.self.rows.items (λ q. ap (λ o. with_kept kept id o q) by) (c.put.ensures.rows kept index.rows);
      rows_room = let a = index.rows_room in let d = c.put.ensures.rows_room in omega arith;
      shapes_room = let a = index.shapes_room in let d = c.put.ensures.shapes_room in omega arith;
    }

pub returns-in_default : goal.returns-in_default
returns-in_default c = λ kept index.
    let none : object_under c.args.store.now.objects.classifiers c.args.rule.now.classifier ≡ None = sym (rw (c.in_default.is, c.classifier.ensures) at c.selectors.ensures) in
    let fits = rw none at c.requires.backed.key_fits in
    absurd fits
