use Rattle.std.proofs.Common.{sym, ap, ◌∙◌}
use Rattle.std.specs.Ordering.{is_eq}
use Rattle.std.specs.Cmp.{Equal-is}
use Rattle.matcher.proofs.SearchLemmas.{same_keys, level_keys}
use Rattle.matcher.proofs.search.has_key.Goals as goal

pub returns-then-row-number-clause-yes : goal.returns-then-row-number-clause-yes
returns-then-row-number-clause-yes g c = λ t.
    (c.if-row-number.true, same_keys c.args.row.now.key.items c.args.key.now.items ((Equal-is _).0 (sym (ap is_eq c.cmp_key.ensures.order) ∙ sym c.is_eq.ensures ∙ t)))

pub returns-then-row-number-clause-no : goal.returns-then-row-number-clause-no
returns-then-row-number-clause-no g c = λ h.
    c.is_eq.ensures ∙ ap is_eq c.cmp_key.ensures.order ∙ ap is_eq (level_keys c.args.row.now.key.items c.args.key.now.items h.1)
