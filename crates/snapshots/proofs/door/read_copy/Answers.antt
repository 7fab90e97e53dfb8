use Rattle.std.proofs.Common.{ap, sym, subst, ◌∙◌, List}
use mathlib.Core.List.{IsPrefix}
use Rattle.ff_headers.specs.declared.change.Change.{Change}
use Rattle.snapshots.specs.Lists.{ToldList, ClosesLast}
use Rattle.snapshots.specs.Reads.{seen_after}
use Rattle.snapshots.specs.declared.copied.Copied.{Copied}
use Rattle.snapshots.proofs.Reading.{seen_is}
use Rattle.snapshots.proofs.door.read_copy.Goals as goal

pub returns : goal.returns
returns g c =
    let shown = c.args.shown.now in
    let list = ap (λ (t : ToldList). t.list) c.again.ensures in
    let found = c.find-found in
    let last = c.begins.ensures.closes_last in (
      c.again.ensures,
      subst (λ (l : List Change). IsPrefix c.args.last.now.list l) (sym list) (c.begins.ensures.begins (c.if-not-begins.false)),
      subst ClosesLast (sym list) last,
      seen_is c.changes_leave_what_their_list_does.ensures shown.tables.limits shown.trail.list shown.tables c.args.headers.now
          found.result c.count.result last (ap (λ (x : Copied). x.tables) c.requires.stands) found.ensures.value found.ensures.action
          c.count.ensures
          ∙ ap (λ (l : List Change). seen_after shown.tables.limits l c.args.headers.now) (sym list),
    )
