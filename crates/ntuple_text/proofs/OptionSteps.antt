-- The words of a line's options are read one after another.
use Rattle.std.proofs.Common.{◌≡◌, ℕ, false, List, [], ◌∷◌, ◌++◌, ap, refl, Bool, true, ◌∙◌, Some, codes, Ok, Err, Result}
use Rattle.std.specs.Str.{bytes_eq}
use Rattle.std.proofs.lemmas.Bool.{cond-false, false≢true}
use Rattle.ntuple_text.specs.Drafts.{with_awaits, with_option, with_option_word, unless_stood, read_next, read_options, read_word}
use Rattle.ntuple_text.specs.Keys.{field_name, field_of, key_of}
use Rattle.ntuple_text.specs.Steps.{and_then}
use Rattle.ntuple_text.specs.declared.draft.Awaits.{Awaits}
use Rattle.ntuple_text.specs.declared.draft.Awaits.TheVariants.{OptionWord, Value, Mark, Mask}
use Rattle.ntuple_text.specs.declared.draft.Draft.{Draft}
use Rattle.ntuple_text.specs.declared.error.Fault.{Fault}
use Rattle.ntuple_text.specs.declared.error.Fault.TheVariants as fault
use Rattle.ntuple_text.specs.declared.key.SpecField.{SpecField}
use Rattle.ntuple_text.specs.declared.key.SpecField.TheVariants.{SrcMac, DstMac, EtherType, SrcIp, DstIp, Tos, TrafficClass, L4Proto, SrcPort, DstPort}
use Rattle.ntuple_text.specs.declared.key.OptionKey.{OptionKey}
use Rattle.ntuple_text.specs.declared.key.OptionKey.TheVariants as key

-- the steps after two words are those after the first, and then those after the second
and_then-and_then : {A B C : Type 0} (next : B → Result C Fault) (first : A → Result B Fault) (r : Result A Fault) → and_then (λ a. and_then next (first a)) r ≡ and_then next (and_then first r)
and_then-and_then next first (Ok a) = refl
and_then-and_then next first (Err e) = refl

-- words after words
pub options-append : (pairs : ℕ) (draft : Draft) (xs ys : List (List ℕ)) → read_options pairs draft (xs ++ ys) ≡ and_then (λ next. read_options pairs next ys) (read_options pairs draft xs)
options-append pairs draft [] ys = refl
options-append pairs draft (x ∷ xs) ys =
    let rest = λ (next : Draft). read_options pairs next ys in
    ap (λ (f : Draft → Result Draft Fault). and_then f (read_word pairs draft x)) (λ i next. options-append pairs next xs ys i) ∙ and_then-and_then rest (λ next. read_options pairs next xs) (read_word pairs draft x)

-- one word and those after it
pub options-step : (pairs : ℕ) (draft next : Draft) (word : List ℕ) (words : List (List ℕ)) → read_word pairs draft word ≡ Ok next → read_options pairs draft (word ∷ words) ≡ read_options pairs next words
options-step pairs draft next word words good = ap (and_then (λ next. read_options pairs next words)) good

-- a draft at which an option may begin
abbrev pub is_ready : Awaits → Bool
is_ready OptionWord = true
is_ready (Value about) = false
is_ready (Mark field) = true
is_ready (Mask field) = false

-- where an option may begin, a word other than `m` is read as one
ready-next : (pairs : ℕ) (draft : Draft) (word : List ℕ) (awaits : Awaits) → is_ready awaits ≡ true → bytes_eq word (codes "m") ≡ false → read_next pairs draft word awaits ≡ with_option_word draft (key_of word)
ready-next pairs draft word OptionWord ready other = refl
ready-next pairs draft word (Value about) ready other = absurd (false≢true ready)
ready-next pairs draft word (Mark field) ready other = cond-false (bytes_eq word (codes "m")) _ (with_option_word draft (key_of word)) other
ready-next pairs draft word (Mask field) ready other = absurd (false≢true ready)

pub ready-word : (pairs : ℕ) (draft : Draft) (word : List ℕ) (about : OptionKey) → is_ready draft.awaits ≡ true → bytes_eq word (codes "m") ≡ false → key_of word ≡ Some about → read_word pairs draft word ≡ with_option draft about
unfolding read_word
ready-word pairs draft word about ready other is = ready-next pairs draft word draft.awaits ready other ∙ ap (with_option_word draft) is

-- the word of a field names it, and isn't the one before a mask
pub name-key : (field : SpecField) → key_of (field_name field) ≡ Some (key.SpecField field)
unfolding key_of field_of field_name
name-key SrcMac = refl
name-key DstMac = refl
name-key EtherType = refl
name-key SrcIp = refl
name-key DstIp = refl
name-key Tos = refl
name-key TrafficClass = refl
name-key L4Proto = refl
name-key SrcPort = refl
name-key DstPort = refl

pub name-other : (field : SpecField) → bytes_eq (field_name field) (codes "m") ≡ false
unfolding field_name
name-other SrcMac = refl
name-other DstMac = refl
name-other EtherType = refl
name-other SrcIp = refl
name-other DstIp = refl
name-other Tos = refl
name-other TrafficClass = refl
name-other L4Proto = refl
name-other SrcPort = refl
name-other DstPort = refl

-- an option that did not stand before
pub unless_stood-new : (draft : Draft) (about : OptionKey) (stood : Bool) → stood ≡ false → unless_stood draft stood about ≡ Ok (with_awaits draft (Value about))
unless_stood-new draft about stood new = cond-false stood (Err fault.Twice) (Ok (with_awaits draft (Value about))) new
