-- A table whose first locations are filled.
use Rattle.std.proofs.Common.{◌≡◌, ℕ, suc, ◌+◌, ◌-◌, ◌<◌, List, [], ◌∷◌, ◌++◌, map, length, set, Option, Some, None, refl, sym, ap, ◌∙◌, arith}
use Rattle.std.specs.Prelude.{filter_map}
use Rattle.std.proofs.Math.Seq.{set-append_seam}
use Rattle.std.proofs.lemmas.List.{append-nil, append_assoc, length-map, map-append}
use Rattle.ntuple_text.specs.TableMaps.{TableMap, free_slots, location_count, with_spec}
use Rattle.ntuple_text.specs.declared.spec.Spec.{Spec}
use Rattle.generated_load.specs.Draws.{each_drawn}
use Rattle.generated_load.specs.DrawnTables.{drawn_spec, drawn_specs, drawn_table}
use Rattle.generated_load.proofs.DrawLemmas.{each_drawn-length, each_drawn-more}

-- the specs at the first locations, and none behind them
abbrev pub filled : List Spec → ℕ → List (Option Spec)
filled specs free = map Some specs ++ free_slots free

abbrev pub table_with : List Spec → ℕ → TableMap
table_with specs free = record { pairs = 16; slots = filled specs free }

-- the table after some draws
abbrev pub table_after : ℕ → ℕ → TableMap
table_after count seed = table_with (each_drawn drawn_spec count seed).1 (location_count - count)

fill_next : (specs : List Spec) (spec : Spec) (free : ℕ) → set (filled specs (suc free)) (length specs) (Some spec) ≡ filled (specs ++ spec ∷ []) free
unfolding free_slots
fill_next specs spec free =
    let place : length (map {B = Option Spec} Some specs) ≡ length specs = length-map {B = Option Spec} specs Some in
    ap (λ n. set (filled specs (suc free)) n (Some spec)) (sym place)
    ∙ set-append_seam {A = Option Spec} (map Some specs) None (free_slots free) (Some spec)
    ∙ sym (append_assoc (map {B = Option Spec} Some specs) (Some spec ∷ []) (free_slots free))
    ∙ ap (λ slots. slots ++ free_slots free) (sym (map-append {B = Option Spec} Some specs (spec ∷ [])))

slots_more : (count seed loc : ℕ) (spec : Spec) → count < location_count → loc ≡ count → spec ≡ (drawn_spec count (each_drawn drawn_spec count seed).0).1 → set (table_after count seed).slots loc (Some spec) ≡ (table_after (count + 1) seed).slots
slots_more count seed loc spec within at is =
    let before = each_drawn drawn_spec count seed in
    let next = drawn_spec count before.0 in
    let free : location_count - count ≡ suc (location_count - (count + 1)) = omega arith in
    let size : loc ≡ length before.1 = at ∙ sym (each_drawn-length drawn_spec count seed) in
    ap (λ n. set (filled before.1 n) loc (Some spec)) free
    ∙ ap (λ n. set (filled before.1 (suc (location_count - (count + 1)))) n (Some spec)) size
    ∙ fill_next before.1 spec (location_count - (count + 1))
    ∙ ap (λ s. filled (before.1 ++ s ∷ []) (location_count - (count + 1))) is
    ∙ ap (λ drawn. filled drawn.1 (location_count - (count + 1))) (sym (each_drawn-more drawn_spec count seed))

-- one more spec at its location
pub table_more : (count seed : ℕ) (spec : Spec) → count < location_count → spec.loc ≡ count → spec ≡ (drawn_spec count (each_drawn drawn_spec count seed).0).1 → with_spec (table_after count seed) spec ≡ table_after (count + 1) seed
table_more count seed spec within at is =
    ap (λ slots. record { pairs = 16; slots = slots }) (slots_more count seed spec.loc spec within at is)

-- a spec stands at each location in the end
pub table_full : (seed : ℕ) → table_after location_count seed ≡ drawn_table seed
unfolding drawn_table drawn_specs free_slots
table_full seed = ap (λ slots. record { pairs = 16; slots = slots }) (append-nil (map {B = Option Spec} Some (each_drawn drawn_spec location_count seed).1))

-- the specs of slots that are all taken
pub taken : (specs : List Spec) → filter_map (λ slot. slot) (map {B = Option Spec} Some specs) ≡ specs
taken [] = refl
taken (spec ∷ specs) = ap (λ rest. spec ∷ rest) (taken specs)
