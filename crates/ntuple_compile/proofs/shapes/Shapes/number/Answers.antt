use Rattle.std.proofs.Common.{ap, ◌∙◌, arith, length}
use Rattle.std.specs.Prelude.{unwrap_or}
use Rattle.ntuple_compile.specs.ShapeBytes.{number_under}
use Rattle.ntuple_compile.proofs.ShapeLemmas.{number_below, number_found}
use Rattle.ntuple_compile.proofs.shapes.Shapes.number.Goals as goal

pub returns-in-Some-clause-value : goal.returns-in-Some-clause-value
returns-in-Some-clause-value c =
    let shapes = c.args.self.now in
    let firsts = shapes.firsts.items in
    let found = c.in-Some.ensures.value ∙ ap (number_under shapes.numbers) c.bytes_for.ensures in
    ap (λ o. unwrap_or o (length firsts)) found ∙ number_found firsts c.args.spec.now (number_under shapes.numbers) c.requires.numbered

pub returns-in-Some-clause-few : goal.returns-in-Some-clause-few
returns-in-Some-clause-few c =
    let shapes = c.args.self.now in
    let firsts = shapes.firsts.items in
    let found = c.in-Some.ensures.value ∙ ap (number_under shapes.numbers) c.bytes_for.ensures in
    let is = ap (λ o. unwrap_or o (length firsts)) found ∙ number_found firsts c.args.spec.now (number_under shapes.numbers) c.requires.numbered in
    omega (arith, is, number_below firsts c.args.spec.now)

pub returns-in-None-clause-value : goal.returns-in-None-clause-value
returns-in-None-clause-value c =
    let shapes = c.args.self.now in
    let firsts = shapes.firsts.items in
    let found = c.in-None.ensures.value ∙ ap (number_under shapes.numbers) c.bytes_for.ensures in
    let is = ap (λ o. unwrap_or o (length firsts)) found ∙ number_found firsts c.args.spec.now (number_under shapes.numbers) c.requires.numbered in
    omega (arith, is, c.len.ensures)
