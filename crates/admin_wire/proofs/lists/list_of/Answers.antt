use Rattle.std.proofs.Common.{◌∙◌, sym, arith}
use Rattle.std.proofs.lemmas.Result.{err_from_is_err_and}
use Rattle.admin_wire.proofs.Entries.{list_from_none, list_from_more, list_from_cut, list_from_all}
use Rattle.admin_wire.proofs.lists.list_of.Goals as goal

pub entries-init : goal.entries-init
entries-init c = list_from_none c.new.result c.args.bytes.now c.new.ensures (omega arith)

pub returns-in_err-len : goal.returns-in_err-len
returns-in_err-len c =
    let p = err_from_is_err_and c.from_residual.result c.from_residual.ensures.1 in
    rw (p.1, p.2)
    (sym (list_from_cut c.entries.list _ c.entries.counter c.entries.rest.now c.in_err-len.field-0.0 c.entries-test.true c.in_err-len.ensures.len)
    ∙ c.entries.invariant)

pub entries-preserved : goal.entries-preserved
entries-preserved c =
    list_from_more c.entries.list _ _ c.entries.counter c.in_ok-len.len c.entries.rest.now _ _ c.entries-test.true c.in_ok-len.ensures.len c.split_at.ensures.front c.split_at.ensures.back c.with_entry-list.ensures
    ∙ c.entries.invariant

pub returns : goal.returns
returns c = sym (list_from_all c.entries.list _ c.entries.counter _ (omega arith)) ∙ c.entries.invariant
