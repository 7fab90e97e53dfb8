use Rattle.std.proofs.Common.{◌≡◌, ◌<◌, Bool, false, length, get_or, refl, sym, ap, ◌∙◌, subst, arith}
use Rattle.std.specs.Prelude.{IsTrue}
use Rattle.std.specs.Ordering.{is_lt}
use Rattle.ff_headers.specs.Places.{place_cmp}
use Rattle.matcher.specs.Searches.{HasKey}
use Rattle.matcher.specs.declared.rows.Row.{Row}
use Rattle.matcher.proofs.SearchLemmas.{stands_behind, key_at, least_at, cost_at_end, cost_at_row}
use Rattle.matcher.proofs.search.first_with.Goals as goal

not_both : (b : Bool) → IsTrue b → b ≡ false → ⊥
not_both b h k = cc

pub returns-then-place-rows-clause-first : goal.returns-then-place-rows-clause-first
returns-then-place-rows-clause-first g c = λ row has h.
    let says = c.row_place-place.ensures in
    let le = stands_behind c.args.rows.now c.requires c.args.number c.args.key.now.items c.row_place-place.result says.before says.behind row has h in
    absurd (omega (arith, has.1))

pub returns-then-place-rows-clause-cost : goal.returns-then-place-rows-clause-cost
returns-then-place-rows-clause-cost g c =
    let says = c.row_place-place.ensures in
    cost_at_end c.args.rows.now c.requires c.args.number c.args.key.now.items c.row_place-place.result c.args.steps.now c.row_place-place.new.steps says.behind says.rising says.some says.none says.few (omega arith)

pub returns-then-has_key-clause-first : goal.returns-then-has_key-clause-first
returns-then-has_key-clause-first g c =
    let says = c.row_place-place.ensures in
    let rows = c.args.rows.now in
    let row = c.index-rows-place.result in
    let p = c.row_place-place.result in
    let at : row ≡ get_or rows p row = c.index-rows-place.is in
    let within : p < length rows = (let a = says.within in let b = c.if-place-rows.false in omega arith) in
    let has : HasKey c.args.number c.args.key.now.items row = c.has_key.ensures.yes c.if-has_key.true in
    let there : HasKey c.args.number c.args.key.now.items (get_or rows p row) = subst (HasKey c.args.number c.args.key.now.items) at has in
    let least = least_at rows c.requires c.args.number c.args.key.now.items p says.before says.behind row there in
    ((row, (p, within, sym at), has, refl), λ other held h. ap (λ (r : Row). is_lt (place_cmp other.candidate.place r.candidate.place)) at ∙ least other held h)

pub returns-then-has_key-clause-cost : goal.returns-then-has_key-clause-cost
returns-then-has_key-clause-cost g c =
    let says = c.row_place-place.ensures in
    let within = says.within in
    let inside = c.if-place-rows.false in
    cost_at_row c.args.rows.now c.requires c.args.number c.args.key.now.items c.row_place-place.result c.args.steps.now c.row_place-place.new.steps says.behind says.rising says.some says.none says.few c.has_key.new.steps c.index-rows-place.result (omega arith) c.index-rows-place.is c.has_key.ensures.counted c.has_key.ensures.free

pub returns-else-has_key-clause-first : goal.returns-else-has_key-clause-first
returns-else-has_key-clause-first g c = λ row has h.
    let says = c.row_place-place.ensures in
    let mine = c.index-rows-place.result in
    let there = key_at c.args.rows.now c.requires c.args.number c.args.key.now.items c.row_place-place.result says.before says.behind row has h mine in
    let own : HasKey c.args.number c.args.key.now.items mine = subst (HasKey c.args.number c.args.key.now.items) (sym c.index-rows-place.is) there in
    not_both c.has_key.result (c.has_key.ensures.no own) c.if-has_key.false

pub returns-else-has_key-clause-cost : goal.returns-else-has_key-clause-cost
returns-else-has_key-clause-cost g c =
    let says = c.row_place-place.ensures in
    let within = says.within in
    let inside = c.if-place-rows.false in
    cost_at_row c.args.rows.now c.requires c.args.number c.args.key.now.items c.row_place-place.result c.args.steps.now c.row_place-place.new.steps says.behind says.rising says.some says.none says.few c.has_key.new.steps c.index-rows-place.result (omega arith) c.index-rows-place.is c.has_key.ensures.counted c.has_key.ensures.free
