-- A frame matches the selectors and the key of a spec exactly where it fits the spec.
use Rattle.std.proofs.Common.{◌≡◌, ℕ, zero, suc, ◌*◌, ◌^◌, ◌<◌, ◌&&◌, eqb, List, [], ◌∷◌, ◌++◌, map, length, take, drop, Option, Some, None, refl, sym, ap, ◌∙◌, arith, subst, bit_and}
use Rattle.std.specs.Prelude.{⊤, flat_map, All}
use Rattle.std.specs.List.{list_all}
use Rattle.std.specs.Int.{bytes_high_first}
use Rattle.std.specs.Cmp.Lexicographic.{pointwise}
use Rattle.std.proofs.Math.Nat.{mod-eq_of_lt}
use Rattle.std.proofs.Math.Seq.{take-append_seam, drop-append_seam}
use Rattle.std.proofs.lemmas.Nat.{and_le_r}
use Rattle.ff_headers.specs.Fields.{number, value_at, fields_of}
use Rattle.byte_numbers.specs.Bytes.{IsBytes}
use Rattle.ff_headers.specs.Frames.{HeaderBytes, header_at, headers_of}
use Rattle.ff_headers.specs.Kinds.{kind_size}
use Rattle.ff_headers.specs.Matching.{masked, fits, matches}
use Rattle.ff_headers.specs.declared.field.Field.{Field}
use Rattle.ff_headers.specs.declared.kind.Kind.{Kind}
use Rattle.ff_headers.specs.declared.kind.Kind.TheVariants.{Eth, Ipv4, Ipv6, Tcp, Udp}
use Rattle.ff_headers.proofs.FieldLemmas.{AreBytes}
use Rattle.ff_headers.proofs.MatchingLemmas.{matches-cons}
use Rattle.ntuple_text.specs.SpecTexts.{form_range}
use Rattle.ntuple_text.specs.Spellable.{AreSpelled, IsSpelledIn, IsSpellable}
use Rattle.ntuple_text.specs.declared.key.FieldForm.{FieldForm}
use Rattle.ntuple_text.specs.declared.key.FieldForm.TheVariants.{Mac, Bits8, Bits16}
use Rattle.ntuple_text.specs.declared.key.FieldForm.TheVariants as form
use Rattle.ntuple_text.specs.declared.spec.Flow.{Flow}
use Rattle.ntuple_text.specs.declared.spec.Flow.TheVariants.{Ether, Ip4, Tcp4, Udp4, Ip6, Tcp6, Udp6}
use Rattle.ntuple_text.specs.declared.spec.Part.{Part}
use Rattle.ntuple_text.specs.declared.spec.Spec.{Spec}
use Rattle.ntuple_compile.specs.SpecFits.{agrees, fields_agree, header_agrees, kinds_of, named_fields, spec_fits}
use Rattle.ntuple_compile.specs.Selected.{IsPartOf, mask_field, key_field, given_for, joined_number, mask_for, key_part, selector_of_mask, selectors_of, key_for}
use Rattle.ntuple_compile.proofs.HeaderLemmas.{AreHeaders, headers_are_sound}
use Rattle.ntuple_compile.proofs.JoinedNumbers.{EachFits, sized, bits_of_kind, joined_below, and_joined, joined_same, header_is_joined, values_fit}
use Rattle.ntuple_compile.proofs.MaskedBytes.{length-bytes, bytes_are_bytes, number-bytes, length-masked, masked_are_bytes, number-masked, same_bytes}
use Rattle.ntuple_compile.proofs.MaskedFields.{mask_fits, key_fits, field_agrees}

-- ---- the fields of one header

-- what a spec gives for a field of a header
abbrev given : Spec → Kind → Field → Option Part
given spec kind f = given_for (named_fields spec kind) f

-- what is given for each field has the field's bits
abbrev pub EachIsPart : (Field → Option Part) → List Field → Type 0
EachIsPart given [] = ⊤
EachIsPart given (f ∷ fields) = IsPartOf f.bits (given f) × EachIsPart given fields

pub each_is_part : (given : Field → Option Part) (fields : List Field) → All (λ f. IsPartOf f.bits (given f)) fields → EachIsPart given fields
each_is_part given [] all = tt
each_is_part given (f ∷ fields) all =
    (all 0 f (omega arith), each_is_part given fields (λ k d inside. all (suc k) d (omega (arith, inside))))

pub all_are_parts : (given : Field → Option Part) (fields : List Field) → EachIsPart given fields → All (λ f. IsPartOf f.bits (given f)) fields
all_are_parts given [] parts k d inside = absurd (omega (arith, inside))
all_are_parts given (f ∷ fields) parts zero d inside = parts.0
all_are_parts given (f ∷ fields) parts (suc k) d inside = all_are_parts given fields parts.1 k d (omega (arith, inside))

pub masks_fit : (given : Field → Option Part) (fields : List Field) → EachIsPart given fields → EachFits (λ f. mask_field f.bits (given f)) fields
masks_fit given [] parts = tt
masks_fit given (f ∷ fields) parts = (mask_fits f.bits (given f) parts.0, masks_fit given fields parts.1)

pub keys_fit : (given : Field → Option Part) (fields : List Field) → EachIsPart given fields → EachFits (λ f. key_field f.bits (given f)) fields
keys_fit given [] parts = tt
keys_fit given (f ∷ fields) parts = (key_fits f.bits (given f) parts.0, keys_fit given fields parts.1)

both_fit : (a b : Field → ℕ) (fields : List Field) → EachFits b fields → EachFits (λ f. bit_and (a f) (b f)) fields
both_fit a b [] fit = tt
both_fit a b (f ∷ fields) fit = (omega (arith, and_le_r (a f) (b f), fit.0), both_fit a b fields fit.1)

each_agrees : (given : Field → Option Part) (value : Field → ℕ) (fields : List Field) → EachIsPart given fields → EachFits value fields → list_all (λ f. eqb (bit_and (value f) (mask_field f.bits (given f))) (bit_and (key_field f.bits (given f)) (mask_field f.bits (given f)))) fields ≡ list_all (λ f. agrees (given f) (value f)) fields
each_agrees given value [] parts fit = refl
each_agrees given value (f ∷ fields) parts fit =
    rw (field_agrees f.bits (given f) (value f) parts.0 fit.0) (ap (λ t. agrees (given f) (value f) && t) (each_agrees given value fields parts.1 fit.1))

-- the fields that a spec doesn't name agree
named_agree : (spec : Spec) (kind : Kind) (header : List ℕ) → list_all (λ f. agrees (given spec kind f) (value_at f header)) (fields_of kind) ≡ fields_agree (named_fields spec kind) header
named_agree spec Eth header = refl
named_agree spec Ipv4 header = refl
named_agree spec Ipv6 header = refl
named_agree spec Tcp header = refl
named_agree spec Udp header = refl

-- ---- one header

-- the number of a header with given fields
pub header_number : (kind : Kind) (value : Field → ℕ) → EachFits value (fields_of kind) → number (bytes_high_first (kind_size kind) (joined_number (sized value (fields_of kind)))) ≡ joined_number (sized value (fields_of kind))
header_number kind value fit =
    let below = joined_below value (fields_of kind) fit in
    let fits : joined_number (sized value (fields_of kind)) < 2 ^ (8 * kind_size kind) = subst (λ (n : ℕ). joined_number (sized value (fields_of kind)) < 2 ^ n) (bits_of_kind kind) below in
    number-bytes (kind_size kind) (joined_number (sized value (fields_of kind))) ∙ mod-eq_of_lt fits

mask_number : (spec : Spec) (kind : Kind) → EachIsPart (given spec kind) (fields_of kind) → number (mask_for spec kind) ≡ joined_number (sized (λ f. mask_field f.bits (given spec kind f)) (fields_of kind))
unfolding mask_for
mask_number spec kind parts = header_number kind (λ f. mask_field f.bits (given spec kind f)) (masks_fit (given spec kind) (fields_of kind) parts)

key_number : (spec : Spec) (kind : Kind) → EachIsPart (given spec kind) (fields_of kind) → number (key_part spec kind) ≡ joined_number (sized (λ f. key_field f.bits (given spec kind f)) (fields_of kind))
unfolding key_part
key_number spec kind parts = header_number kind (λ f. key_field f.bits (given spec kind f)) (keys_fit (given spec kind) (fields_of kind) parts)

pub length-mask : (spec : Spec) (kind : Kind) → length (mask_for spec kind) ≡ kind_size kind
unfolding mask_for
length-mask spec kind = length-bytes (kind_size kind) _

pub length-key_part : (spec : Spec) (kind : Kind) → length (key_part spec kind) ≡ kind_size kind
unfolding key_part
length-key_part spec kind = length-bytes (kind_size kind) _

mask_is_bytes : (spec : Spec) (kind : Kind) → AreBytes (mask_for spec kind)
unfolding mask_for
mask_is_bytes spec kind = bytes_are_bytes (kind_size kind) _

key_is_bytes : (spec : Spec) (kind : Kind) → AreBytes (key_part spec kind)
unfolding key_part
key_is_bytes spec kind = bytes_are_bytes (kind_size kind) _

-- the masked bytes are the same exactly where all fields agree
bytes_agree : (spec : Spec) (kind : Kind) (header : List ℕ) → EachIsPart (given spec kind) (fields_of kind) → length header ≡ kind_size kind → AreBytes header → pointwise eqb (masked (mask_for spec kind) header) (masked (mask_for spec kind) (key_part spec kind)) ≡ fields_agree (named_fields spec kind) header
bytes_agree spec kind header parts size bytes =
    let fields = fields_of kind in
    let g = given spec kind in
    let x : Field → ℕ = λ f. value_at f header in
    let m : Field → ℕ = λ f. mask_field f.bits (g f) in
    let k : Field → ℕ = λ f. key_field f.bits (g f) in
    let mask = mask_for spec kind in
    let key = key_part spec kind in
    let lm : length mask ≡ length header = length-mask spec kind ∙ sym size in
    let lk : length mask ≡ length key = length-mask spec kind ∙ sym (length-key_part spec kind) in
    let mb = mask_is_bytes spec kind in
    let kb = key_is_bytes spec kind in
    let as_long : length (masked mask header) ≡ length (masked mask key) = length-masked mask header lm ∙ sym lm ∙ lk ∙ sym (length-masked mask key lk) in
    let xs = values_fit header fields in
    let ms = masks_fit g fields parts in
    let ks = keys_fit g fields parts in
    let of_header : number (masked mask header) ≡ joined_number (sized (λ f. bit_and (x f) (m f)) fields) = number-masked mask header lm mb bytes ∙ ap (λ n. bit_and n (number mask)) (header_is_joined kind header size bytes) ∙ ap (λ n. bit_and (joined_number (sized x fields)) n) (mask_number spec kind parts) ∙ and_joined x m fields xs ms in
    let of_key : number (masked mask key) ≡ joined_number (sized (λ f. bit_and (k f) (m f)) fields) = number-masked mask key lk mb kb ∙ ap (λ n. bit_and n (number mask)) (key_number spec kind parts) ∙ ap (λ n. bit_and (joined_number (sized k fields)) n) (mask_number spec kind parts) ∙ and_joined k m fields ks ms in
    same_bytes (masked mask header) (masked mask key) as_long (masked_are_bytes mask header mb) (masked_are_bytes mask key mb) ∙ ap (λ n. eqb n (number (masked mask key))) of_header ∙ ap (λ n. eqb (joined_number (sized (λ f. bit_and (x f) (m f)) fields)) n) of_key ∙ joined_same (λ f. bit_and (x f) (m f)) (λ f. bit_and (k f) (m f)) fields (both_fit x m fields ms) (both_fit k m fields ms) ∙ each_agrees g x fields parts xs ∙ named_agree spec kind header

fits_where_agreed : (spec : Spec) (kind : Kind) (headers : HeaderBytes) → AreHeaders headers → EachIsPart (given spec kind) (fields_of kind) → fits (selector_of_mask kind (mask_for spec kind)) (key_part spec kind) headers ≡ header_agrees spec headers kind
unfolding fits
fits_where_agreed spec kind headers are parts = by_header (header_at headers kind) refl where
  by_header : (found : Option (List ℕ)) → header_at headers kind ≡ found → fits (selector_of_mask kind (mask_for spec kind)) (key_part spec kind) headers ≡ header_agrees spec headers kind
  by_header None is = rw is refl
  by_header (Some header) is =
      let sound = are kind header is in
      rw is (bytes_agree spec kind header parts sound.0 sound.1)

-- ---- a list of headers

-- so for each kind
abbrev pub EachGiven : Spec → List Kind → Type 0
EachGiven spec [] = ⊤
EachGiven spec (kind ∷ kinds) = EachIsPart (given spec kind) (fields_of kind) × EachGiven spec kinds

list_matches : (spec : Spec) (headers : HeaderBytes) → AreHeaders headers → (kinds : List Kind) → EachGiven spec kinds → matches (map (λ kind. selector_of_mask kind (mask_for spec kind)) kinds) (flat_map (key_part spec) kinds) headers ≡ list_all (header_agrees spec headers) kinds
unfolding matches
list_matches spec headers are [] parts = refl
list_matches spec headers are (kind ∷ kinds) parts =
    let part = key_part spec kind in
    let rest = flat_map (key_part spec) kinds in
    let size = length-key_part spec kind in
    let first : take (kind_size kind) (part ++ rest) ≡ part = subst (λ n. take n (part ++ rest) ≡ part) size (take-append_seam part rest) in
    let later : drop (kind_size kind) (part ++ rest) ≡ rest = subst (λ n. drop n (part ++ rest) ≡ rest) size (drop-append_seam part rest) in
    matches-cons (selector_of_mask kind (mask_for spec kind)) (map (λ k. selector_of_mask k (mask_for spec k)) kinds) (part ++ rest) headers ∙ rw (first, later, fits_where_agreed spec kind headers are parts.0, list_matches spec headers are kinds parts.1) refl

-- ---- a spec that lines can spell

-- a part in a form has the form's bits
in_form : (f : FieldForm) (bits : ℕ) (part : Option Part) → form_range f ≡ 2 ^ bits → IsSpelledIn (Some f) part → IsPartOf bits part
in_form f bits None range spelled = tt
in_form f bits (Some part) range spelled = (rw (sym range) spelled.0, rw (sym range) spelled.1)

-- no part stands where the flow has no field
in_none : (bits : ℕ) (part : Option Part) → IsSpelledIn None part → IsPartOf bits part
in_none bits None spelled = tt
in_none bits (Some part) spelled = absurd spelled

ipv4_parts : (spec : Spec) → IsPartOf 8 spec.class → IsPartOf 8 spec.proto → IsPartOf 32 spec.src → IsPartOf 32 spec.dst → EachIsPart (given spec Ipv4) (fields_of Ipv4)
ipv4_parts spec class proto src dst = (tt, (tt, (class, (tt, (tt, (tt, (tt, (tt, (proto, (tt, (src, (dst, tt))))))))))))

ipv6_parts : (spec : Spec) → IsPartOf 8 spec.class → IsPartOf 8 spec.proto → IsPartOf 128 spec.src → IsPartOf 128 spec.dst → EachIsPart (given spec Ipv6) (fields_of Ipv6)
ipv6_parts spec class proto src dst = (tt, (class, (tt, (tt, (proto, (tt, (src, (dst, tt))))))))

tcp_parts : (spec : Spec) → IsPartOf 16 spec.src_port → IsPartOf 16 spec.dst_port → EachIsPart (given spec Tcp) (fields_of Tcp)
tcp_parts spec source destination = (source, (destination, (tt, (tt, (tt, (tt, (tt, (tt, (tt, tt)))))))))

udp_parts : (spec : Spec) → IsPartOf 16 spec.src_port → IsPartOf 16 spec.dst_port → EachIsPart (given spec Udp) (fields_of Udp)
udp_parts spec source destination = (source, (destination, (tt, (tt, tt))))

pub flow_parts : (spec : Spec) (flow : Flow) → AreSpelled flow spec.src spec.dst spec.proto spec.class spec.src_port spec.dst_port → EachGiven spec (kinds_of flow)
flow_parts spec Ether h =
    ((in_form Mac 48 spec.dst refl h.dst, (in_form Mac 48 spec.src refl h.src, (in_form Bits16 16 spec.proto refl h.proto, tt))), tt)
flow_parts spec Ip4 h = (ipv4_parts spec (in_form Bits8 8 spec.class refl h.class) (in_form Bits8 8 spec.proto refl h.proto) (in_form form.Ipv4 32 spec.src refl h.src) (in_form form.Ipv4 32 spec.dst refl h.dst), tt)
flow_parts spec Tcp4 h = (ipv4_parts spec (in_form Bits8 8 spec.class refl h.class) (in_none 8 spec.proto h.proto) (in_form form.Ipv4 32 spec.src refl h.src) (in_form form.Ipv4 32 spec.dst refl h.dst), (tcp_parts spec (in_form Bits16 16 spec.src_port refl h.src_port) (in_form Bits16 16 spec.dst_port refl h.dst_port), tt))
flow_parts spec Udp4 h = (ipv4_parts spec (in_form Bits8 8 spec.class refl h.class) (in_none 8 spec.proto h.proto) (in_form form.Ipv4 32 spec.src refl h.src) (in_form form.Ipv4 32 spec.dst refl h.dst), (udp_parts spec (in_form Bits16 16 spec.src_port refl h.src_port) (in_form Bits16 16 spec.dst_port refl h.dst_port), tt))
flow_parts spec Ip6 h = (ipv6_parts spec (in_form Bits8 8 spec.class refl h.class) (in_form Bits8 8 spec.proto refl h.proto) (in_form form.Ipv6 128 spec.src refl h.src) (in_form form.Ipv6 128 spec.dst refl h.dst), tt)
flow_parts spec Tcp6 h = (ipv6_parts spec (in_form Bits8 8 spec.class refl h.class) (in_none 8 spec.proto h.proto) (in_form form.Ipv6 128 spec.src refl h.src) (in_form form.Ipv6 128 spec.dst refl h.dst), (tcp_parts spec (in_form Bits16 16 spec.src_port refl h.src_port) (in_form Bits16 16 spec.dst_port refl h.dst_port), tt))
flow_parts spec Udp6 h = (ipv6_parts spec (in_form Bits8 8 spec.class refl h.class) (in_none 8 spec.proto h.proto) (in_form form.Ipv6 128 spec.src refl h.src) (in_form form.Ipv6 128 spec.dst refl h.dst), (udp_parts spec (in_form Bits16 16 spec.src_port refl h.src_port) (in_form Bits16 16 spec.dst_port refl h.dst_port), tt))

pub matches_where_fits : (spec : Spec) (pairs : ℕ) (headers : HeaderBytes) → IsSpellable pairs spec → AreHeaders headers → matches (selectors_of spec) (key_for spec) headers ≡ spec_fits spec headers
unfolding selectors_of key_for spec_fits
matches_where_fits spec pairs headers spellable are = list_matches spec headers are (kinds_of spec.flow) (flow_parts spec spec.flow spellable.parts)

pub frame_matches_where_fits : (spec : Spec) (pairs : ℕ) (frame : List ℕ) → IsSpellable pairs spec → IsBytes frame → matches (selectors_of spec) (key_for spec) (headers_of frame) ≡ spec_fits spec (headers_of frame)
frame_matches_where_fits spec pairs frame spellable bytes = matches_where_fits spec pairs (headers_of frame) spellable (headers_are_sound frame bytes)
