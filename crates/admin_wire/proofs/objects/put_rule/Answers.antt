use Rattle.std.proofs.Common.{List, ℕ, [], ◌∷◌, subst, ap, length}
use Rattle.std.specs.Int.{w8}
use Rattle.admin_wire.specs.Fields.{WritesFields, number, raw}
use Rattle.admin_wire.proofs.Writing.{WritesFields-more}
use Rattle.admin_wire.proofs.objects.put_rule.Goals as goal

pub returns-clause-writes : goal.returns-clause-writes
returns-clause-writes c =
    let len = subst (λ n. WritesFields c.put_8.new.bytes.items (number w8 n ∷ []) c.put_8-2.new.bytes.items)
    (ap length c.key_bytes-key.ensures.value) c.put_8-2.ensures in
    let key = subst (λ (xs : List ℕ). WritesFields c.put_reserved-2.new.bytes.items (raw xs ∷ []) c.put_raw.new.bytes.items)
    c.key_bytes-key.ensures.value c.put_raw.ensures in
    let ids = WritesFields-more c.put_32.ensures c.put_32-2.ensures in
    let numbers = WritesFields-more (WritesFields-more (WritesFields-more ids c.put_8.ensures) len) c.put_8-3.ensures in
    let places = WritesFields-more (WritesFields-more (WritesFields-more numbers c.put_reserved.ensures) c.put_16.ensures) c.put_reserved-2.ensures in
    WritesFields-more places key
