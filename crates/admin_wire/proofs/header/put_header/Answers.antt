use Rattle.std.proofs.Common.{[], ◌∷◌, subst}
use Rattle.std.specs.Int.{w16}
use Rattle.admin_wire.specs.Fields.{number, WritesFields}
use Rattle.admin_wire.proofs.Writing.{WritesFields-more}
use Rattle.admin_wire.proofs.header.put_header.Goals as goal

pub returns : goal.returns
returns c =
    let opcode = subst (λ n. WritesFields c.args.bytes.now.items (number w16 n ∷ []) c.put_16.new.bytes.items) c.code.ensures c.put_16.ensures in
    WritesFields-more (WritesFields-more (WritesFields-more opcode c.put_16-2.ensures) c.put_reserved.ensures) c.put_64.ensures
