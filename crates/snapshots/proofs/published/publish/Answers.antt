use Rattle.std.proofs.Common.{◌≡◌, ◌++◌, ◌∷◌, [], ap, sym, ◌∙◌}
use Rattle.snapshots.specs.Seats.{copy_of, MayShow}
use Rattle.snapshots.specs.declared.copied.Entry.TheVariants.{Made}
use Rattle.snapshots.proofs.Publishing.{publishes, shows_more, ok_case}
use Rattle.snapshots.proofs.published.publish.Goals as goal

pub publish_as-writer-requires : goal.publish_as-writer-requires
publish_as-writer-requires g c next is =
    let there = sym c.take.ensures.value ∙ c.unwrap-writer.ensures in
    let required = rw there at c.requires in
    let desk = c.in_default.ensures.desk in
    let may : MayShow c.append.new.self.desk.shown.value c.args.change c.args.trail = rw desk required.1 in
    let one = c.in_default.ensures.pending ∙ ap (λ xs. xs ++ Made c.args.change c.args.trail ∷ []) required.0 in
    publishes _ _ _ next c.args.change c.args.trail _ may one is

pub returns : goal.returns
returns g c limits told stands =
    let there = sym c.take.ensures.value ∙ c.unwrap-writer.ensures in
    let required = rw there at c.requires in
    let desk = c.in_default.ensures.desk in
    let may : MayShow c.append.new.self.desk.shown.value c.args.change c.args.trail = rw desk required.1 in
    let one = c.in_default.ensures.pending ∙ ap (λ xs. xs ++ Made c.args.change c.args.trail ∷ []) required.0 in
    let known = rw there at stands in
    let shown : c.append.new.self.desk.shown.value ≡ copy_of limits told = rw desk known in
    let done = c.publish_as-writer.ensures in
    let v = ok_case c.publish_as-writer.result.1 _ _ (done.succeeds tt) done.values in
    rw c.put_back-2.ensures (v.1.1, shows_more limits told c.args.trail c.args.change _ _ _ shown may one v.1.0)
