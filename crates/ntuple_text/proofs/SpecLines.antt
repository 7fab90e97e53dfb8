-- A spec's line is a line, and its words are read.
use Rattle.std.proofs.Common.{◌≡◌, ℕ, ◌<◌, ◌≤◌, false, List, [], ◌∷◌, ◌++◌, length, get_or, ap, refl, arith, All, Bool, true, sym, ◌∙◌, Some, None, Option, codes, eqb, if◌then◌else◌, ◌≢◌, ◌-◌, subst, leb, ltb, take}
use Rattle.std.specs.Fmt.{decimal}
use Rattle.std.specs.List.{list_all}
use Rattle.std.proofs.lemmas.Bool.{ne_eqb, cond-false, and_parts, leb-true, ltb-true}
use Rattle.std.proofs.lemmas.List.Elements.{All-nil, All-cons, All-append, All-weaker, All-head, All-tail, All-get_or}
use Rattle.vnff_base.specs.Lines.{IsWord, words_of, IsLine, is_line_feed}
use Rattle.ntuple_text.specs.Drafts.{draft_of}
use Rattle.ntuple_text.specs.Keys.{field_name, flow_word, form_of}
use Rattle.ntuple_text.specs.SpecTexts.{value_text, flow_fields, spec_part, spec_text}
use Rattle.ntuple_text.specs.Spellable.{IsActionOf, IsSpelledIn, IsSpellable}
use Rattle.ntuple_text.specs.declared.draft.Draft.{Draft}
use Rattle.ntuple_text.specs.declared.key.SpecField.{SpecField}
use Rattle.ntuple_text.specs.declared.key.SpecField.TheVariants.{SrcMac, DstMac, EtherType, SrcIp, DstIp, Tos, TrafficClass, L4Proto, SrcPort, DstPort}
use Rattle.ntuple_text.specs.declared.spec.Flow.{Flow}
use Rattle.ntuple_text.specs.declared.spec.Flow.TheVariants.{Ether, Ip4, Tcp4, Udp4, Ip6, Tcp6, Udp6}
use Rattle.ntuple_text.specs.declared.spec.Part.{Part}
use Rattle.ntuple_text.specs.declared.spec.Spec.{Spec}
use Rattle.ntuple_text.specs.declared.spec.TableDo.{TableDo}
use Rattle.ntuple_text.specs.declared.spec.TableDo.TheVariants.{Drop, Queue}
use Rattle.ntuple_text.proofs.FieldsReadBack.{with_given, AreNew}
use Rattle.ntuple_text.proofs.FlowFields.{fields-new}
use Rattle.ntuple_text.proofs.PlainLemmas.{IsPlain, plain-word, decimal-plain, value-plain}
use Rattle.ntuple_text.proofs.WordsReadBack.{mask_words, given_words, field_words, action_word, end_words, option_words, blank_words, spec_text-words, words_of-blank_words}

-- a text whose bytes are tested is plain
high-test : (text : List ℕ) → list_all (leb 33) text ≡ true → All (λ byte. 33 ≤ byte) text
high-test [] good = All-nil (λ byte. 33 ≤ byte)
high-test (byte ∷ text) good =
    let parts = and_parts _ _ good in
    All-cons (λ byte. 33 ≤ byte) byte text (leb-true 33 byte parts.0) (high-test text parts.1)

plain-test : (text : List ℕ) → ltb 0 (length text) ≡ true → list_all (leb 33) text ≡ true → IsPlain text
plain-test text some high = record { some = ltb-true 0 (length text) some; high = high-test text high }

-- the words that name a flow or a field
flow-plain : (flow : Flow) → IsPlain (flow_word flow)
unfolding flow_word
flow-plain Ether = plain-test (codes "ether") refl refl
flow-plain Ip4 = plain-test (codes "ip4") refl refl
flow-plain Tcp4 = plain-test (codes "tcp4") refl refl
flow-plain Udp4 = plain-test (codes "udp4") refl refl
flow-plain Ip6 = plain-test (codes "ip6") refl refl
flow-plain Tcp6 = plain-test (codes "tcp6") refl refl
flow-plain Udp6 = plain-test (codes "udp6") refl refl

name-plain : (field : SpecField) → IsPlain (field_name field)
unfolding field_name
name-plain SrcMac = plain-test (codes "src") refl refl
name-plain DstMac = plain-test (codes "dst") refl refl
name-plain EtherType = plain-test (codes "proto") refl refl
name-plain SrcIp = plain-test (codes "src-ip") refl refl
name-plain DstIp = plain-test (codes "dst-ip") refl refl
name-plain Tos = plain-test (codes "tos") refl refl
name-plain TrafficClass = plain-test (codes "tclass") refl refl
name-plain L4Proto = plain-test (codes "l4proto") refl refl
name-plain SrcPort = plain-test (codes "src-port") refl refl
name-plain DstPort = plain-test (codes "dst-port") refl refl

-- the words of a field, where one is given
mask-plain : (text : List ℕ) (none : Bool) → IsPlain text → All IsPlain (if none then [] else codes "m" ∷ text ∷ [])
mask-plain text true plain = All-nil IsPlain
mask-plain text false plain =
    All-cons IsPlain (codes "m") (text ∷ []) (plain-test (codes "m") refl refl) (All-cons IsPlain text [] plain (All-nil IsPlain))

given-plain : (flow : Flow) (field : SpecField) (part : Option Part) → IsSpelledIn (Some (form_of flow field)) part → All IsPlain (given_words flow field part)
given-plain flow field None spelled = All-nil IsPlain
given-plain flow field (Some part) spelled =
    let value = value_text flow field part.value in
    let mask = mask_words flow field part.skip in
    All-cons IsPlain (field_name field) (value ∷ mask) (name-plain field) (All-cons IsPlain value mask (value-plain flow field part.value spelled.0) (mask-plain (value_text flow field part.skip) (eqb part.skip 0) (value-plain flow field part.skip spelled.1)))

-- the words of all fields, and those after them
fields-plain : (spec : Spec) (draft : Draft) (fields : List SpecField) → AreNew spec draft fields → All IsPlain (field_words spec fields)
fields-plain spec draft [] new = All-nil IsPlain
fields-plain spec draft (field ∷ fields) new =
    let part = spec_part spec field in
    let P : Flow → Type 0 = λ flow. IsSpelledIn (Some (form_of flow field)) part in
    All-append IsPlain (given_words spec.flow field part) (field_words spec fields) (given-plain spec.flow field part (subst P new.0 new.3)) (fields-plain spec (with_given draft field part) fields new.4)

action-plain : (pairs : ℕ) (action : TableDo) → pairs ≤ 16 → IsActionOf pairs action → IsPlain (action_word action)
action-plain pairs Drop few below = plain-test (codes "-1") refl refl
action-plain pairs (Queue queue) few below = decimal-plain queue (omega arith)

end-plain : (pairs : ℕ) (action : TableDo) (loc : ℕ) → pairs ≤ 16 → IsActionOf pairs action → loc < 1024 → All IsPlain (end_words action loc)
end-plain pairs action loc few below inside =
    let word = action_word action in
    let place = decimal loc in
    All-cons IsPlain (codes "action") (word ∷ codes "loc" ∷ place ∷ []) (plain-test (codes "action") refl refl) (All-cons IsPlain word (codes "loc" ∷ place ∷ []) (action-plain pairs action few below) (All-cons IsPlain (codes "loc") (place ∷ []) (plain-test (codes "loc") refl refl) (All-cons IsPlain place [] (decimal-plain loc (omega arith)) (All-nil IsPlain))))

options-plain : (pairs : ℕ) (spec : Spec) → pairs ≤ 16 → IsSpellable pairs spec → All IsPlain (flow_word spec.flow ∷ option_words spec)
options-plain pairs spec few good =
    let fields = flow_fields spec.flow in
    let words = field_words spec fields in
    let end = end_words spec.action spec.loc in
    let new = fields-new spec.flow spec.src spec.dst spec.proto spec.class spec.src_port spec.dst_port spec.action spec.loc good.parts in
    All-cons IsPlain (flow_word spec.flow) (words ++ end) (flow-plain spec.flow) (All-append IsPlain words end (fields-plain spec (draft_of spec.flow) fields new) (end-plain pairs spec.action spec.loc few good.action good.loc))

-- words after blanks have no control bytes
blank-high : (words : List (List ℕ)) → All IsPlain words → All (λ byte. 32 ≤ byte) (blank_words words)
blank-high [] plain = All-nil (λ byte. 32 ≤ byte)
blank-high (word ∷ words) plain =
    let P : ℕ → Type 0 = λ byte. 32 ≤ byte in
    let high = All-weaker (λ byte. 33 ≤ byte) P (λ byte above. omega arith) word (All-head IsPlain word words plain).high in
    All-cons P 32 (word ++ blank_words words) (omega arith) (All-append P word (blank_words words) high (blank-high words (All-tail IsPlain word words plain)))

-- a text without control bytes is a line
last-high : (line : List ℕ) → All (λ byte. 32 ≤ byte) line → get_or line (length line - 1) 0 ≢ 13
last-high [] high is = omega arith
last-high (byte ∷ line) high is =
    omega (arith, All-get_or (λ byte. 32 ≤ byte) (byte ∷ line) (length (byte ∷ line) - 1) 0 (omega arith) high)

high-line : (line : List ℕ) → All (λ byte. 32 ≤ byte) line → IsLine line
high-line line high =
    let last = length line - 1 in
    record {
      whole = All-weaker (λ byte. 32 ≤ byte) (λ byte. is_line_feed byte ≡ false) (λ byte above. ne_eqb byte 10 (λ e. omega arith)) line high;
      kept = cond-false (eqb (get_or line last 0) 13) (take last line) line (ne_eqb (get_or line last 0) 13 (last-high line high));
    }

-- the line of a spec, and its words
pub IsLine-spec_text : (pairs : ℕ) (spec : Spec) → pairs ≤ 16 → IsSpellable pairs spec → IsLine (spec_text spec)
IsLine-spec_text pairs spec few good =
    let words = flow_word spec.flow ∷ option_words spec in
    let P : ℕ → Type 0 = λ byte. 32 ≤ byte in
    let first : All P (codes "flow-type") = All-weaker (λ byte. 33 ≤ byte) P (λ byte above. omega arith) (codes "flow-type") (high-test (codes "flow-type") refl) in
    subst IsLine (sym (spec_text-words spec)) (high-line (codes "flow-type" ++ blank_words words) (All-append P (codes "flow-type") (blank_words words) first (blank-high words (options-plain pairs spec few good))))

pub words_of-spec_text : (pairs : ℕ) (spec : Spec) → pairs ≤ 16 → IsSpellable pairs spec → words_of (spec_text spec) ≡ codes "flow-type" ∷ flow_word spec.flow ∷ option_words spec
words_of-spec_text pairs spec few good =
    let words = flow_word spec.flow ∷ option_words spec in
    ap words_of (spec_text-words spec) ∙ words_of-blank_words (codes "flow-type") words (plain-word (codes "flow-type") (plain-test (codes "flow-type") refl refl)) (All-weaker IsPlain IsWord plain-word words (options-plain pairs spec few good))
