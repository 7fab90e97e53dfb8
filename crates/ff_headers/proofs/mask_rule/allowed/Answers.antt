use Rattle.std.proofs.Common.{◌≡◌, length, sym, ◌∙◌, ap}
use Rattle.ff_headers.specs.Kinds.{kind_size}
use Rattle.ff_headers.proofs.FieldLemmas.{allowed_means, allowed_by_bits, allowed_by_fields}
use Rattle.ff_headers.proofs.mask_rule.allowed.Goals as goal

pub returns-then-is_partial : goal.returns-then-is_partial
returns-then-is_partial c =
    let have = c.args.have.now in
    let want = c.args.want.now in
    let same : length have.mask ≡ length want.mask = c.mask.ensures.whole ∙ ap kind_size c.requires ∙ sym c.mask-then-is_partial.ensures.whole in
    let bits = rw (c.mask.ensures.value, c.mask-then-is_partial.ensures.value) at c.has_bits.ensures in
    let value = bits ∙ allowed_by_bits have want (sym c.is_partial.ensures ∙ c.if-is_partial.true) in
    record { value = value; meaning = allowed_means have want c.has_bits.result same value }

pub returns-else-is_partial : goal.returns-else-is_partial
returns-else-is_partial c =
    let have = c.args.have.now in
    let want = c.args.want.now in
    let same : length have.mask ≡ length want.mask = c.mask-else-is_partial.ensures.whole ∙ ap kind_size c.requires ∙ sym c.mask-else-is_partial-2.ensures.whole in
    let fields = rw (c.mask-else-is_partial.ensures.value, c.mask-else-is_partial-2.ensures.value, c.fields_of.ensures.value, c.kind.ensures) at c.keeps_fields.ensures in
    let value = fields ∙ allowed_by_fields have want (sym c.is_partial.ensures ∙ c.if-is_partial.false) in
    record { value = value; meaning = allowed_means have want c.keeps_fields.result same value }
