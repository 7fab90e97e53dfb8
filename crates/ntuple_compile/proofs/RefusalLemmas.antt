-- The first refusal, and what a table is compiled to.
use Rattle.std.proofs.Common.{◌≡◌, ℕ, Result, Ok, Err, not, List, ◌∷◌, length, Option, Some, None, ap, ◌∙◌}
use Rattle.std.specs.Prelude.{find, option_map}
use Rattle.std.specs.List.{enumerate_from}
use Rattle.std.specs.Option.{option_map_or}
use Rattle.ff_headers.specs.SelectorParts.{SelectorParts}
use Rattle.ff_headers.specs.declared.kind.Kind.{Kind}
use Rattle.admin_wire.specs.declared.command.Command.{Command}
use Rattle.cap_table.specs.Caps.{CapsParts, is_supported}
use Rattle.ntuple_text.specs.declared.spec.Spec.{Spec}
use Rattle.ntuple_compile.specs.Compiled.{IsCompileFault, compile_fault, compiled_specs, count_faults, creates_of, first_fault, objects_of, shapes_of, specs_fault}
use Rattle.ntuple_compile.specs.declared.error.CompileErr.{CompileErr}
use Rattle.ntuple_compile.specs.declared.error.CompileErr.TheVariants.{Unsupported, Rules, Classifiers, Levels, PerGroup, Memory}

-- ---- the selectors of a spec

-- the kind of the first selector from a place on that isn't supported
abbrev pub unsupported_from : CapsParts → ℕ → List SelectorParts → Option Kind
unsupported_from caps place selectors =
    option_map (λ p. p.1.kind) (find (λ p. not (is_supported caps.limits.selectors caps.selectors p.0 p.1)) (enumerate_from place selectors))

-- ---- what a table is compiled to

pub fault_of_specs : (caps : CapsParts) (specs : List Spec) (fault : CompileErr) → specs_fault caps specs ≡ Some fault → compiled_specs caps specs ≡ Err fault
unfolding compiled_specs compile_fault
fault_of_specs caps specs fault is =
    ap (λ found. option_map_or (λ f. Err f) (first_fault (found ∷ count_faults caps.limits (length specs) (length (shapes_of specs)))) (Ok (creates_of (objects_of caps.limits specs)))) is

pub fault_of_counts : (caps : CapsParts) (specs : List Spec) (fault : CompileErr) → specs_fault caps specs ≡ None → first_fault (count_faults caps.limits (length specs) (length (shapes_of specs))) ≡ Some fault → compiled_specs caps specs ≡ Err fault
unfolding compiled_specs compile_fault
fault_of_counts caps specs fault none is =
    ap (λ found. option_map_or (λ f. Err f) (first_fault (found ∷ count_faults caps.limits (length specs) (length (shapes_of specs)))) (Ok (creates_of (objects_of caps.limits specs)))) none ∙ ap (λ found. option_map_or (λ f. Err f) found (Ok (creates_of (objects_of caps.limits specs)))) is

pub nothing_wrong : (caps : CapsParts) (specs : List Spec) → specs_fault caps specs ≡ None → first_fault (count_faults caps.limits (length specs) (length (shapes_of specs))) ≡ None → compiled_specs caps specs ≡ Ok (creates_of (objects_of caps.limits specs))
unfolding compiled_specs compile_fault
nothing_wrong caps specs none is =
    ap (λ found. option_map_or (λ f. Err f) (first_fault (found ∷ count_faults caps.limits (length specs) (length (shapes_of specs)))) (Ok (creates_of (objects_of caps.limits specs)))) none ∙ ap (λ found. option_map_or (λ f. Err f) found (Ok (creates_of (objects_of caps.limits specs)))) is

pub is_fault_of : (spelled : Result (List Command) CompileErr) (fault : CompileErr) → spelled ≡ Err fault → IsCompileFault spelled fault
is_fault_of spelled (Unsupported loc kind) is = is
is_fault_of spelled (Rules n) is = is
is_fault_of spelled (Classifiers n) is = is
is_fault_of spelled (Levels n) is = is
is_fault_of spelled (PerGroup n) is = is
is_fault_of spelled Memory is = tt
