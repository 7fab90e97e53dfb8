use Rattle.std.proofs.Common.{◌∷◌, ap, sym, ◌∙◌}
use Rattle.vnff_run.specs.Readings.{lines_from, numbered_words}
use Rattle.vnff_run.proofs.GrammarLemmas.{next_lines, next_read, next_small}
use Rattle.vnff_run.proofs.ItemBounds.{read_item_within}
use Rattle.vnff_run.proofs.unread_script.ItemReader.next_item.Goals as goal

pub invariant_of-self : goal.invariant_of-self
invariant_of-self c =
    let next = c.next_line-self-inside.ensures in
    let small = next_small c.self.inside.behind c.next_line-self-inside.new.self c.next_line-self-inside.result next.next next.missing c.self.invariant.0 in
    (small.1, small.0)

pub returns-clause-read : goal.returns-clause-read
returns-clause-read c =
    let next = c.next_line-self-inside.ensures in
    let left = next_lines c.self.inside.behind c.next_line-self-inside.new.self c.next_line-self-inside.result next.next in
    next_read _ _ c.in_ok-line.line c.read_item.result (sym c.self.view_is ∙ ap (λ n. lines_from n c.self.inside.behind.left) c.in_ok-line.was ∙ ap (λ more. numbered_words c.in_ok-line.line ∷ more) (sym left)) c.read_item.ensures

pub returns-clause-within : goal.returns-clause-within
returns-clause-within c = read_item_within _ _ c.read_item.result c.read_item.ensures
