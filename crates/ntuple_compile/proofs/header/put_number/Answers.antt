use Rattle.std.proofs.Common.{◌++◌, ◌∙◌, ap}
use Rattle.ntuple_compile.proofs.WrittenLemmas.{last_bytes}
use Rattle.ntuple_compile.proofs.header.put_number.Goals as goal

pub returns : goal.returns
returns c =
    let last = last_bytes c.args.count c.args.number c.requires.few in
    let more = rw c.unwrap.ensures at c.try_extend_from_slice.ensures.ok in
    rw c.to_be_bytes-all.ensures at more ∙ ap (λ xs. c.args.bytes.now.items ++ xs) last
