-- Fields whose numbers are joined_number: what AND makes of two such, when they are equal, and that a header is such a number.
use Rattle.std.proofs.Common.{◌≡◌, ℕ, ◌+◌, ◌-◌, ◌*◌, ◌/◌, ◌%◌, ◌^◌, ◌<◌, ◌&&◌, eqb, List, [], ◌∷◌, map, length, refl, sym, ap, ◌∙◌, arith, bit_and}
use Rattle.std.specs.Prelude.{⊤}
use Rattle.std.specs.List.{list_all}
use Rattle.std.proofs.Math.Nat.{mod-lt, mod-eq_of_lt}
use Rattle.std.proofs.lemmas.Nat.{pow_pos, pow-add, mul-add-lt, and_block, same_from_place, mod-pow-add}
use Rattle.std.proofs.lemmas.Bool.Decides.{Decides-eqb, Decides-and, Decides-like, same_from_decides}
use Rattle.ff_headers.specs.Fields.{number, value_at, fields_of}
use Rattle.ff_headers.specs.Kinds.{kind_size}
use Rattle.ff_headers.specs.declared.field.Field.{Field}
use Rattle.ff_headers.specs.declared.kind.Kind.{Kind}
use Rattle.ff_headers.specs.declared.kind.Kind.TheVariants.{Eth, Ipv4, Ipv6, Tcp, Udp}
use Rattle.ff_headers.proofs.FieldLemmas.{AreBytes, number_below}
use Rattle.ntuple_compile.specs.Selected.{Sized, total_bits, joined_number}

-- the fields' numbers of their bits
abbrev pub sized : (Field → ℕ) → List Field → List Sized
sized value fields = map (λ f. (f.bits, value f)) fields

-- each number has its field's bits
abbrev pub EachFits : (Field → ℕ) → List Field → Type 0
EachFits value [] = ⊤
EachFits value (f ∷ fields) = (value f < 2 ^ f.bits) × EachFits value fields

-- the bits of the fields
abbrev pub bits_of : List Field → ℕ
bits_of [] = 0
bits_of (f ∷ fields) = f.bits + bits_of fields

total_same : (value : Field → ℕ) (fields : List Field) → total_bits (sized value fields) ≡ bits_of fields
total_same value [] = refl
total_same value (f ∷ fields) = ap (λ n. f.bits + n) (total_same value fields)

pub joined_number-cons : (value : Field → ℕ) (f : Field) (fields : List Field) → joined_number (sized value (f ∷ fields)) ≡ value f * 2 ^ bits_of fields + joined_number (sized value fields)
joined_number-cons value f fields = ap (λ n. value f * 2 ^ n + joined_number (sized value fields)) (total_same value fields)

pub joined_below : (value : Field → ℕ) (fields : List Field) → EachFits value fields → joined_number (sized value fields) < 2 ^ bits_of fields
joined_below value [] fit = omega arith
joined_below value (f ∷ fields) fit =
    let swap : f.bits + bits_of fields ≡ bits_of fields + f.bits = omega arith in
    let power : 2 ^ (f.bits + bits_of fields) ≡ 2 ^ bits_of fields * 2 ^ f.bits = ap (λ (n : ℕ). 2 ^ n) swap ∙ pow-add 2 (bits_of fields) f.bits in
    let below = mul-add-lt (value f) (2 ^ bits_of fields) (joined_number (sized value fields)) (2 ^ f.bits) fit.0 (joined_below value fields fit.1) in
    let cons = joined_number-cons value f fields in
    rw (power, cons) below

-- ---- AND

pub and_joined : (a b : Field → ℕ) (fields : List Field) → EachFits a fields → EachFits b fields → bit_and (joined_number (sized a fields)) (joined_number (sized b fields)) ≡ joined_number (sized (λ f. bit_and (a f) (b f)) fields)
and_joined a b [] fa fb = refl
and_joined a b (f ∷ fields) fa fb =
    let block = and_block (bits_of fields) (a f) (b f) (joined_number (sized a fields)) (joined_number (sized b fields)) (joined_below a fields fa.1) (joined_below b fields fb.1) in
    rw (joined_number-cons a f fields, joined_number-cons b f fields) (block ∙ ap (λ n. bit_and (a f) (b f) * 2 ^ bits_of fields + n) (and_joined a b fields fa.1 fb.1) ∙ sym (joined_number-cons (λ f. bit_and (a f) (b f)) f fields))

-- ---- equal numbers

pub block_same : (k a b r s : ℕ) → r < 2 ^ k → s < 2 ^ k → eqb (a * 2 ^ k + r) (b * 2 ^ k + s) ≡ (eqb a b && eqb r s)
block_same k a b r s rk sk =
    let whole = Decides-like {P = a * 2 ^ k + r ≡ b * 2 ^ k + s} {Q = (a ≡ b) × (r ≡ s)} (eqb (a * 2 ^ k + r) (b * 2 ^ k + s)) (same_from_place a r b s (2 ^ k) rk sk) (λ h. ap (λ n. n * 2 ^ k + r) h.0 ∙ ap (λ n. b * 2 ^ k + n) h.1) (Decides-eqb (a * 2 ^ k + r) (b * 2 ^ k + s)) in
    same_from_decides (eqb (a * 2 ^ k + r) (b * 2 ^ k + s)) (eqb a b && eqb r s) whole (Decides-and (eqb a b) (eqb r s) (Decides-eqb a b) (Decides-eqb r s))

pub joined_same : (a b : Field → ℕ) (fields : List Field) → EachFits a fields → EachFits b fields → eqb (joined_number (sized a fields)) (joined_number (sized b fields)) ≡ list_all (λ f. eqb (a f) (b f)) fields
joined_same a b [] fa fb = refl
joined_same a b (f ∷ fields) fa fb =
    let block = block_same (bits_of fields) (a f) (b f) (joined_number (sized a fields)) (joined_number (sized b fields)) (joined_below a fields fa.1) (joined_below b fields fb.1) in
    rw (joined_number-cons a f fields, joined_number-cons b f fields) (block ∙ ap (λ t. eqb (a f) (b f) && t) (joined_same a b fields fa.1 fb.1))

-- ---- a header's fields, joined_number

-- the fields stand one behind the other, from a bit to an end
abbrev pub InRow : ℕ → List Field → ℕ → Type 0
InRow at [] end = at ≡ end
InRow at (f ∷ fields) end = (f.first ≡ at) × InRow (at + f.bits) fields end

row_ends : (at : ℕ) (fields : List Field) (end : ℕ) → InRow at fields end → at + bits_of fields ≡ end
row_ends at [] end row = omega (arith, row)
row_ends at (f ∷ fields) end row = omega (arith, row_ends (at + f.bits) fields end row.1)

pub fields_in_row : (kind : Kind) → InRow 0 (fields_of kind) (8 * kind_size kind)
fields_in_row Eth = (refl, (refl, (refl, refl)))
fields_in_row Ipv4 = (refl, (refl, (refl, (refl, (refl, (refl, (refl, (refl, (refl, (refl, (refl, (refl, refl))))))))))))
fields_in_row Ipv6 = (refl, (refl, (refl, (refl, (refl, (refl, (refl, (refl, refl))))))))
fields_in_row Tcp = (refl, (refl, (refl, (refl, (refl, (refl, (refl, (refl, (refl, refl)))))))))
fields_in_row Udp = (refl, (refl, (refl, (refl, refl))))

pub bits_of_kind : (kind : Kind) → bits_of (fields_of kind) ≡ 8 * kind_size kind
bits_of_kind kind = omega (arith, row_ends 0 (fields_of kind) (8 * kind_size kind) (fields_in_row kind))

low_fields : (header : List ℕ) (at : ℕ) (fields : List Field) → InRow at fields (8 * length header) → number header % 2 ^ bits_of fields ≡ joined_number (sized (λ f. value_at f header) fields)
low_fields header at [] row = omega arith
low_fields header at (f ∷ fields) row =
    let ends = row_ends (at + f.bits) fields (8 * length header) row.1 in
    let behind : bits_of fields ≡ 8 * length header - (f.first + f.bits) = omega (arith, ends, row.0) in
    let split = mod-pow-add (number header) f.bits (bits_of fields) in
    let top : number header / 2 ^ bits_of fields % 2 ^ f.bits ≡ value_at f header = ap (λ n. number header / 2 ^ n % 2 ^ f.bits) behind in
    split ∙ ap (λ n. n * 2 ^ bits_of fields + number header % 2 ^ bits_of fields) top ∙ ap (λ n. value_at f header * 2 ^ bits_of fields + n) (low_fields header (at + f.bits) fields row.1) ∙ sym (joined_number-cons (λ f. value_at f header) f fields)

pub header_is_joined : (kind : Kind) (header : List ℕ) → length header ≡ kind_size kind → AreBytes header → number header ≡ joined_number (sized (λ f. value_at f header) (fields_of kind))
header_is_joined kind header size bytes =
    let row : InRow 0 (fields_of kind) (8 * length header) = rw size (fields_in_row kind) in
    let whole : bits_of (fields_of kind) ≡ 8 * length header = rw size (bits_of_kind kind) in
    let below : number header < 2 ^ bits_of (fields_of kind) = rw whole (number_below header bytes) in
    sym (mod-eq_of_lt below) ∙ low_fields header 0 (fields_of kind) row

pub values_fit : (header : List ℕ) (fields : List Field) → EachFits (λ f. value_at f header) fields
values_fit header [] = tt
values_fit header (f ∷ fields) = (mod-lt (number header / 2 ^ (8 * length header - (f.first + f.bits))) (pow_pos f.bits), values_fit header fields)
