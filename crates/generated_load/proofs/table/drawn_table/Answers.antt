use Rattle.std.proofs.Common.{◌≡◌, ap, sym, ◌∙◌, arith}
use Rattle.ntuple_text.specs.TableMaps.{location_count, with_spec}
use Rattle.generated_load.specs.Draws.{each_drawn}
use Rattle.generated_load.specs.DrawnTables.{drawn_spec, drawn_specs}
use Rattle.generated_load.proofs.DrawLemmas.{each_drawn-more}
use Rattle.generated_load.proofs.TableLemmas.{table_after, table_full, table_more}
use Rattle.generated_load.proofs.table.drawn_table.Goals as goal

pub loop-loc-preserved : goal.loop-loc-preserved
loop-loc-preserved c =
    let seed = c.args.seed in
    let loc = c.loop-loc.loc in
    let drawn = c.drawn_spec-next.ensures.value ∙ ap (drawn_spec loc) c.loop-loc.invariant.state in
    record {
      state = ap (λ d. d.0) drawn ∙ ap (λ d. d.0) (sym (each_drawn-more drawn_spec loc seed));
      table =
          c.set.ensures
          ∙ ap (λ table. with_spec table c.drawn_spec-next.result.1) c.loop-loc.invariant.table
          ∙ table_more loc seed c.drawn_spec-next.result.1 (omega (arith, c.loop-loc-test.true)) c.drawn_spec-next.ensures.loc (ap (λ d. d.1) drawn);
    }

pub returns-clause-state : goal.returns-clause-state
unfolding drawn_specs
returns-clause-state c =
    let end : c.loop-loc.loc ≡ location_count = omega (arith, c.loop-loc-test.false, c.loop-loc.auto) in
    c.loop-loc.invariant.state ∙ ap (λ n. (each_drawn drawn_spec n c.args.seed).0) end

pub returns-clause-table : goal.returns-clause-table
returns-clause-table c =
    let end : c.loop-loc.loc ≡ location_count = omega (arith, c.loop-loc-test.false, c.loop-loc.auto) in
    c.loop-loc.invariant.table ∙ ap (λ n. table_after n c.args.seed) end ∙ table_full c.args.seed
