use Rattle.std.proofs.lemmas.Result.{err_from_is_err_and}
use Rattle.vnff_run.proofs.GrammarLemmas.{small_lines}
use Rattle.vnff_run.proofs.WrittenScripts.{head_fault, items_fault, kept_items_few, kept_items_within}
use Rattle.vnff_run.proofs.grammar.read_kept.Goals as goal

pub read_head-requires : goal.read_head-requires
read_head-requires c = small_lines c.args.bytes.now c.new.result c.requires c.new.ensures

pub returns-in_err-caps-clause-read : goal.returns-in_err-caps-clause-read
returns-in_err-caps-clause-read c =
    let p = err_from_is_err_and c.from_residual.result c.from_residual.ensures.1 in
    rw (p.1, p.2) (head_fault c.args.bytes.now c.new.result _ c.new.ensures c.in_err-caps.ensures)

pub returns-in_err-items-clause-read : goal.returns-in_err-items-clause-read
returns-in_err-items-clause-read c =
    let p = err_from_is_err_and c.from_residual-in_err-items.result c.from_residual-in_err-items.ensures.1 in
    rw (p.1, p.2) (items_fault c.args.bytes.now c.new.result _ _ c.new.ensures c.in_ok-caps.ensures c.in_err-items.ensures)

pub returns-clause-within : goal.returns-clause-within
returns-clause-within c =
    kept_items_within c.args.bytes.now c.new.result c.args.kept _ c.in_ok-items.items c.new.ensures c.in_ok-caps.ensures c.in_ok-items.ensures

pub returns-clause-few : goal.returns-clause-few
returns-clause-few c =
    kept_items_few c.args.bytes.now c.new.result c.args.kept _ c.in_ok-items.items c.new.ensures c.in_ok-caps.ensures c.in_ok-items.ensures
