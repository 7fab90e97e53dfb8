-- The device of a load has room for each table that is drawn.
use Rattle.std.proofs.Common.{◌≡◌, ℕ, ◌≤◌, cond, List, [], ◌∷◌, map, length, Option, Some, None, Ok, refl, ap, ◌∙◌, arith}
use Rattle.std.specs.List.{AllByRecursion}
use Rattle.std.proofs.lemmas.Bool.{le-ltb}
use Rattle.ntuple_text.specs.TableMaps.{location_count}
use Rattle.ntuple_text.specs.declared.spec.Spec.{Spec}
use Rattle.ntuple_compile.specs.Compiled.{above, compile_fault, compiled, compiled_specs, count_faults, creates_of, first_fault, objects_of, shapes_of, spec_fault, specs_fault}
use Rattle.ntuple_compile.specs.declared.error.CompileErr.{CompileErr}
use Rattle.ntuple_compile.specs.declared.error.CompileErr.TheVariants.{Rules, Classifiers, Levels, PerGroup}
use Rattle.generated_load.specs.DrawnTables.{drawn_spec, drawn_specs, drawn_table, load_caps}
use Rattle.generated_load.proofs.DrawLemmas.{each_drawn-all, each_drawn-length}
use Rattle.generated_load.proofs.ShapeLemmas.{IsFine, few_shapes, spec-fine}
use Rattle.generated_load.proofs.TableLemmas.{taken}

none_above : (fault : ℕ → CompileErr) (number limit : ℕ) → number ≤ limit → above fault number limit ≡ None
none_above fault number limit within = ap (λ b. cond b (Some (fault number)) None) (le-ltb limit number within)

none_first : (fault : Option CompileErr) (faults : List (Option CompileErr)) → fault ≡ None → first_fault faults ≡ None → first_fault (fault ∷ faults) ≡ None
none_first fault faults none rest = rw none rest

none_of_specs : (specs : List Spec) → AllByRecursion IsFine specs → specs_fault load_caps specs ≡ None
none_of_specs [] all = refl
none_of_specs (spec ∷ specs) all = none_first (spec_fault load_caps spec) (map (spec_fault load_caps) specs) all.0.supported (none_of_specs specs all.1)

room : (specs : List Spec) → AllByRecursion IsFine specs → length specs ≡ location_count → compile_fault load_caps specs ≡ None
unfolding compile_fault
room specs all size =
    none_first (specs_fault load_caps specs) (count_faults load_caps.limits (length specs) (length (shapes_of specs))) (none_of_specs specs all)
    (none_first (above Rules (length specs) 1024) _ (none_above Rules (length specs) 1024 (omega (arith, size)))
    (none_first (above Classifiers (length (shapes_of specs)) 64) _ (none_above Classifiers (length (shapes_of specs)) 64 (omega (arith, few_shapes specs all)))
    (none_first (above Levels (length specs) 4096) _ (none_above Levels (length specs) 4096 (omega (arith, size)))
    (none_first (above PerGroup (length specs) 16384) [] (none_above PerGroup (length specs) 16384 (omega (arith, size))) refl))))

specs_compiled : (specs : List Spec) → compile_fault load_caps specs ≡ None → compiled_specs load_caps specs ≡ Ok (creates_of (objects_of load_caps.limits specs))
unfolding compiled_specs
specs_compiled specs none = rw none refl

-- the specs of the table are those that were drawn, and have commands
pub table_compiled : (seed : ℕ) → compiled (drawn_table seed) load_caps ≡ Ok (creates_of (objects_of load_caps.limits (drawn_specs seed).1))
unfolding drawn_table drawn_specs
table_compiled seed =
    let specs = (drawn_specs seed).1 in
    ap (compiled_specs load_caps) (taken specs)
    ∙ specs_compiled specs (room specs (each_drawn-all IsFine drawn_spec spec-fine location_count seed) (each_drawn-length drawn_spec location_count seed))
