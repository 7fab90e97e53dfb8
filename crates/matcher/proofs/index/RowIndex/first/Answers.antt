use Rattle.std.proofs.Common.{◌≡◌, ◌+◌, ◌<◌, length, sym, subst, arith, ℕ}
use Rattle.std.specs.Prelude.{Option}
use Rattle.matcher.specs.Searches.{FitsRow, FitsBelow, IsFirstAmong, IsTotalCost}
use Rattle.matcher.specs.declared.rows.Row.{Row}
use Rattle.matcher.specs.declared.scan.Candidate.{Candidate}
use Rattle.matcher.proofs.FirstLemmas.{first_of_both, below_split, below_kept, below_last}
use Rattle.matcher.proofs.CostLemmas.{cost_begun, cost_more}
use Rattle.matcher.proofs.index.RowIndex.first.Goals as goal

pub loop-number-init : goal.loop-number-init
loop-number-init g c = record {
  first = λ row has fits. omega (arith, fits.0);
  cost = cost_begun c.args.self.now.shapes.items c.args.self.now.rows.items c.args.headers.now c.args.steps.now;
}

pub loop-number-preserved : goal.loop-number-preserved
loop-number-preserved g c =
    let shapes = c.args.self.now.shapes.items in
    let rows = c.args.self.now.rows.items in
    let headers = c.args.headers.now in
    let n = c.loop-number.number in
    let inside : n < length shapes = omega arith in
    let both = first_of_both rows (FitsBelow n shapes headers) (λ (row : Row). (row.shape ≡ n) × FitsRow shapes headers row) (FitsBelow (n + 1) shapes headers) (below_split shapes headers n) (below_kept shapes headers n) (below_last shapes headers n) c.loop-number.first c.first_in.result c.loop-number.invariant.first c.first_in.ensures.first in
    record {
      first = subst (λ (a : Option Candidate). IsFirstAmong rows (FitsBelow (n + 1) shapes headers) a) (sym c.earlier-first.ensures) both;
      cost = cost_more shapes rows headers n c.args.steps.now c.loop-number.steps c.first_in.new.steps c.requires.apart inside c.loop-number.invariant.cost c.first_in.ensures.cost;
    }

pub returns : goal.returns
returns g c =
    let n : c.loop-number.number ≡ length c.args.self.now.shapes.items = omega arith in
    record {
      first = subst (λ (k : ℕ). IsFirstAmong c.args.self.now.rows.items (FitsBelow k c.args.self.now.shapes.items c.args.headers.now) c.loop-number.first) n c.loop-number.invariant.first;
      cost = subst (λ (k : ℕ). IsTotalCost c.args.self.now.shapes.items c.args.self.now.rows.items c.args.headers.now k c.args.steps.now c.loop-number.steps) n c.loop-number.invariant.cost;
    }
