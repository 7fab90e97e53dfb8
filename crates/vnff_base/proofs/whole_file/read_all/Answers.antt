use Rattle.std.proofs.Common.{◌≡◌, ◌++◌, take, arith, sym, subst}
use Rattle.std.proofs.lemmas.Grind.{common_steps}
use Rattle.vnff_base.proofs.Reading.{IsFront, front_more}
use Rattle.vnff_base.proofs.whole_file.read_all.Goals as goal

pub loop-taken-preserved : goal.loop-taken-preserved
loop-taken-preserved g c =
    let name = c.args.name.now in
    let longer : c.extend_from_slice.new.self.items ≡ c.loop-taken.bytes.items ++ take c.in-Ok.taken c.read_at.new.buf = grind (arith, common_steps) in
    let more = front_more (g.S.Shelf.state c.loop-taken.shelf) name c.loop-taken.bytes.items c.read_at.new.buf c.len-at.result c.in-Ok.taken (grind arith) c.loop-taken.invariant.front c.in-Ok.ensures.bytes c.in-Ok.ensures.fits in
    record {
      front = subst (λ told. IsFront told name c.extend_from_slice.new.self.items) (sym c.in-Ok.ensures.same_files) (subst (IsFront (g.S.Shelf.state c.loop-taken.shelf).files name) (sym longer) more);
      within = grind (arith, common_steps);
      room = grind (arith, common_steps);
      given = grind (arith, common_steps);
      faults = grind (arith, common_steps);
      files = grind (arith, common_steps);
    }
