-- Fields that are written one after the other.
use Rattle.std.proofs.Common.{◌≡◌, ℕ, ◌+◌, ◌<◌, ◌≤◌, ◌∙◌, sym, ap, refl, arith, List, [], ◌∷◌, ◌++◌, length, get_or, take, append-nil, append_assoc, length-append}
use Rattle.std.specs.List.{flat_map}
use Rattle.std.proofs.lemmas.Grind.{flat_map-append}
use Rattle.std.proofs.lemmas.List.{take_more}
use Rattle.std.proofs.lemmas.List.Folds.{length-flat_map-take}
use Rattle.ff_headers.specs.SelectorParts.{SelectorParts}
use Rattle.admin_wire.specs.Fields.{Field, number, reserved, raw, field_bytes, written, AreFitting, WritesFields}
use Rattle.admin_wire.specs.Layouts.{selector_fields}

pub written-append : (fields more : List Field) → written (fields ++ more) ≡ written fields ++ written more
written-append fields more = flat_map-append field_bytes fields more

AreFitting-append : (fields more : List Field) → AreFitting fields → AreFitting more → AreFitting (fields ++ more)
AreFitting-append [] more first second = second
AreFitting-append (number width n ∷ fields) more first second = (first.0, AreFitting-append fields more first.1 second)
AreFitting-append (reserved count ∷ fields) more first second = AreFitting-append fields more first second
AreFitting-append (raw given ∷ fields) more first second = AreFitting-append fields more first second

pub WritesFields-none : (old : List ℕ) → WritesFields old [] old
WritesFields-none old = record { bytes = sym (append-nil old); size = omega arith; fits = tt }

-- some fields, and then others
pub WritesFields-more : {old mid new : List ℕ} {fields more : List Field} → WritesFields old fields mid → WritesFields mid more new
    → WritesFields old (fields ++ more) new
WritesFields-more {old} {mid} {new} {fields} {more} first second =
    let joined = written-append fields more in
    record {
      bytes = second.bytes ∙ ap (λ xs. xs ++ written more) first.bytes ∙ append_assoc old (written fields) (written more)
          ∙ ap (λ xs. old ++ xs) (sym joined);
      size = omega (arith, first.size, second.size, ap length joined, length-append (written fields) (written more));
      fits = AreFitting-append fields more first.fits second.fits;
    }

-- ---- lists of selectors

written-entries : (list : List SelectorParts)
    → written (flat_map selector_fields list) ≡ flat_map (λ s. written (selector_fields s)) list
written-entries [] = refl
written-entries (s ∷ list) =
    written-append (selector_fields s) (flat_map selector_fields list) ∙ ap (λ xs. written (selector_fields s) ++ xs) (written-entries list)

pub entry-length : (s : SelectorParts) → length (written (selector_fields s)) ≡ 8 + length s.mask
entry-length s = omega (arith, ap length (append-nil s.mask))

-- there is room for one more entry of a list that fits
pub room_for_entry : (list : List SelectorParts) (i : ℕ) (s : SelectorParts) → i < length list
    → length (written (flat_map selector_fields (take i list))) + (8 + length (get_or list i s).mask)
    ≤ length (written (flat_map selector_fields list))
room_for_entry list i s inside =
    let f : SelectorParts → List ℕ = λ (s : SelectorParts). written (selector_fields s) in
    omega (
      arith,
      length-flat_map-take f list i s inside,
      ap length (written-entries list),
      ap length (written-entries (take i list)),
      entry-length (get_or list i s),
    )

-- one more entry of a list
pub entries-more : (list : List SelectorParts) (i : ℕ) (s : SelectorParts) → i < length list
    → flat_map selector_fields (take (i + 1) list) ≡ flat_map selector_fields (take i list) ++ selector_fields (get_or list i s)
entries-more list i s inside = rw (take_more list i s inside) (flat_map-append selector_fields (take i list) (get_or list i s ∷ []))
