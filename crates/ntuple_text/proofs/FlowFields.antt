-- The fields of each flow: they are new, one after another, and with them nothing of a spec is missing.
use Rattle.std.proofs.Common.{◌≡◌, ℕ, refl, Some, None, Option}
use Rattle.ntuple_text.specs.Drafts.{draft_of}
use Rattle.ntuple_text.specs.SpecTexts.{flow_fields}
use Rattle.ntuple_text.specs.Spellable.{AreSpelled, IsSpelledIn}
use Rattle.ntuple_text.specs.TableLines.{spec_of_options}
use Rattle.ntuple_text.specs.declared.draft.Draft.{Draft}
use Rattle.ntuple_text.specs.declared.spec.Flow.{Flow}
use Rattle.ntuple_text.specs.declared.spec.Flow.TheVariants.{Ether, Ip4, Ip6}
use Rattle.ntuple_text.specs.declared.spec.Part.{Part}
use Rattle.ntuple_text.specs.declared.spec.Spec.{Spec}
use Rattle.ntuple_text.specs.declared.spec.TableDo.{TableDo}
use Rattle.ntuple_text.proofs.FieldsReadBack.{with_fields, AreNew}

-- no part stands where the flow has no field
no-part : (part : Option Part) → IsSpelledIn None part → None ≡ part
no-part None spelled = refl
no-part (Some part) spelled = absurd spelled

-- the fields of a flow are new, one after another
pub fields-new : (flow : Flow) (src dst proto class src_port dst_port : Option Part) (action : TableDo) (loc : ℕ) → AreSpelled flow src dst proto class src_port dst_port → AreNew (record { flow = flow; src = src; dst = dst; proto = proto; class = class; src_port = src_port; dst_port = dst_port; action = action; loc = loc }) (draft_of flow) (flow_fields flow)
unfolding flow_fields
fields-new Ether src dst proto class src_port dst_port action loc spelled =
    (refl, refl, refl, spelled.src, (refl, refl, refl, spelled.dst, (refl, refl, refl, spelled.proto, tt)))
fields-new Ip4 src dst proto class src_port dst_port action loc spelled =
    (refl, refl, refl, spelled.src, (refl, refl, refl, spelled.dst, (refl, refl, refl, spelled.class, (refl, refl, refl, spelled.proto, tt))))
fields-new Ip6 src dst proto class src_port dst_port action loc spelled =
    (refl, refl, refl, spelled.src, (refl, refl, refl, spelled.dst, (refl, refl, refl, spelled.class, (refl, refl, refl, spelled.proto, tt))))
fields-new flow src dst proto class src_port dst_port action loc spelled =
    (refl, refl, refl, spelled.src, (refl, refl, refl, spelled.dst, (refl, refl, refl, spelled.class, (refl, refl, refl, spelled.src_port, (refl, refl, refl, spelled.dst_port, tt)))))

-- the draft after all fields is the spec, but for the action and the location
pub record IsRead (spec : Spec) (draft : Draft) : Type 0 where
  pub acts : draft.action ≡ None
  pub stands : draft.loc ≡ None
  pub is : spec_of_options draft spec.action spec.loc ≡ spec

pub fields-are : (flow : Flow) (src dst proto class src_port dst_port : Option Part) (action : TableDo) (loc : ℕ) → AreSpelled flow src dst proto class src_port dst_port → let spec : Spec = record { flow = flow; src = src; dst = dst; proto = proto; class = class; src_port = src_port; dst_port = dst_port; action = action; loc = loc } in IsRead spec (with_fields spec (draft_of flow) (flow_fields flow))
unfolding flow_fields
fields-are Ether src dst proto class src_port dst_port action loc spelled =
    let class-none = no-part class spelled.class in
    let src_port-none = no-part src_port spelled.src_port in
    let dst_port-none = no-part dst_port spelled.dst_port in
    record { acts = refl; stands = refl; is = cc }
fields-are Ip4 src dst proto class src_port dst_port action loc spelled =
    let src_port-none = no-part src_port spelled.src_port in
    let dst_port-none = no-part dst_port spelled.dst_port in
    record { acts = refl; stands = refl; is = cc }
fields-are Ip6 src dst proto class src_port dst_port action loc spelled =
    let src_port-none = no-part src_port spelled.src_port in
    let dst_port-none = no-part dst_port spelled.dst_port in
    record { acts = refl; stands = refl; is = cc }
fields-are flow src dst proto class src_port dst_port action loc spelled =
    let proto-none = no-part proto spelled.proto in
    record { acts = refl; stands = refl; is = cc }
