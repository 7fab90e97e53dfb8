use Rattle.std.proofs.Common.{◌≡◌, ℕ, List, arith, ap, sym, ◌∙◌, length, map, Option, Some, None, Ok}
use Rattle.std.proofs.lemmas.List.{length-map}
use Rattle.ff_headers.specs.declared.limits.Limits.{Limits}
use Rattle.ntuple_text.specs.declared.spec.Spec.{Spec}
use Rattle.ntuple_compile.specs.Compiled.{IsCompileFault, compiled, count_faults, creates_of, first_fault, objects_of, shapes_of, specs_fault}
use Rattle.ntuple_compile.specs.Selected.{selectors_of}
use Rattle.ntuple_compile.specs.declared.error.CompileErr.{CompileErr}
use Rattle.ntuple_compile.proofs.CompiledResults.{result_accepted, result_acts, result_writable}
use Rattle.ntuple_compile.proofs.RefusalLemmas.{fault_of_counts, fault_of_specs, is_fault_of, nothing_wrong}
use Rattle.ntuple_compile.proofs.compiling.compile.Goals as goal

-- what was found of the numbers that were counted is what is wrong with the specs' numbers
counted_rightly : (limits limits' : Limits) (rules : ℕ) (firsts : List Spec) (specs read : List Spec) (found : Option CompileErr) → limits ≡ limits' → rules ≡ length read → read ≡ specs → map selectors_of firsts ≡ shapes_of read → first_fault (count_faults limits rules (length firsts)) ≡ found → first_fault (count_faults limits' (length specs) (length (shapes_of specs))) ≡ found
counted_rightly limits limits' rules firsts specs read found same count items shapes is =
    let few : length (shapes_of specs) ≡ length firsts = ap (λ s. length (shapes_of s)) (sym items) ∙ ap length (sym shapes) ∙ length-map firsts selectors_of in
    let many : length specs ≡ rules = ap length (sym items) ∙ sym count in
    ap (λ n. first_fault (count_faults limits' n (length (shapes_of specs)))) many ∙ ap (λ n. first_fault (count_faults limits' rules n)) few ∙ ap (λ l. first_fault (count_faults l rules (length firsts))) (sym same) ∙ is

pub returns-in-Some : goal.returns-in-Some
returns-in-Some c =
    let caps = c.args.caps.now in
    let specs = c.deref.ensures.value ∙ c.in_ok-specs.ensures.value in
    let is = ap (specs_fault caps) (sym specs) ∙ sym c.in-Some.ensures in
    record { value = is_fault_of _ c.in-Some.fault (fault_of_specs caps _ c.in-Some.fault is); writable = tt; accepted = tt; acts = tt }

pub returns-in-Some-count_fault : goal.returns-in-Some-count_fault
returns-in-Some-count_fault c =
    let caps = c.args.caps.now in
    let specs = c.in_ok-specs.specs.items in
    let read = c.in_ok-specs.ensures.value in
    let none = ap (specs_fault caps) (sym read ∙ sym c.deref.ensures.value) ∙ sym c.specs_fault.ensures ∙ c.in_default.is in
    let rules : c.len.result ≡ length specs = omega (arith, c.len.ensures) in
    let shapes = c.in_ok-shapes.ensures.value ∙ ap shapes_of c.deref-2.ensures.value in
    let found = rw c.firsts.ensures at (sym c.in-Some-count_fault.ensures) in
    let is = counted_rightly c.limits-limits.result.now caps.limits c.len.result c.in_ok-shapes.shapes.firsts.items _ specs (Some c.in-Some-count_fault.fault) c.limits-limits.ensures.value rules read shapes found in
    record { value = is_fault_of _ c.in-Some-count_fault.fault (fault_of_counts caps _ c.in-Some-count_fault.fault none is); writable = tt; accepted = tt; acts = tt }

pub returns : goal.returns
returns c =
    let caps = c.args.caps.now in
    let specs = c.in_ok-specs.specs.items in
    let read = c.in_ok-specs.ensures.value in
    let none = ap (specs_fault caps) (sym read ∙ sym c.deref.ensures.value) ∙ sym c.specs_fault.ensures ∙ c.in_default.is in
    let rules : c.len.result ≡ length specs = omega (arith, c.len.ensures) in
    let shapes = c.in_ok-shapes.ensures.value ∙ ap shapes_of c.deref-2.ensures.value in
    let found = rw c.firsts.ensures at (sym c.count_fault.ensures ∙ c.in_default-count_fault.is) in
    let is = counted_rightly c.limits-limits.result.now caps.limits c.len.result c.in_ok-shapes.shapes.firsts.items _ specs None c.limits-limits.ensures.value rules read shapes found in
    let made = c.in_ok-commands.ensures ∙ ap (λ l. creates_of (objects_of l c.deref-3.result.now)) c.limits-limits.ensures.value ∙ ap (λ s. creates_of (objects_of caps.limits s)) (c.deref-3.ensures.value ∙ read) in
    let table = c.args.table.now in
    let value = nothing_wrong caps _ none is ∙ ap Ok (sym made) in
    let Fault = IsCompileFault (compiled table caps) in
    let result = Ok c.in_ok-commands.commands in
    let held = c.in_ok-specs.ensures.table in
    record {
      value = value;
      writable = result_writable table caps Fault result value;
      accepted = result_accepted table caps Fault held c.requires result value;
      acts = result_acts table caps Fault held c.requires result value;
    }
