use Rattle.std.proofs.Common.{length, sym, ap, subst, ◌∙◌, arith}
use Rattle.snapshots.specs.Ends.{EndState}
use Rattle.steer.specs.AdminSides.{HasCarriedOut}
use Rattle.steer.specs.declared.admin_side.AdminSide.{AdminSide}
use Rattle.steer.proofs.LiveLemmas.{told_rooms}
use Rattle.steer.proofs.live_run.run.Goals as goal

pub tell_all-requires : goal.tell_all-requires
tell_all-requires g c = λ k d lt. c.requires.identity k d lt ∙ sym c.obey_lines.ensures.identity

pub beside-requires-clause-room : goal.beside-requires-clause-room
beside-requires-clause-room g c κs within =
    let none = ap length c.requires.replies in
    omega (arith, c.obey_lines.ensures.longer, c.obey_lines.ensures.capacity, c.requires.room, c.requires.there)

pub beside-requires-clause-places : goal.beside-requires-clause-places
beside-requires-clause-places g c κs within = omega (arith, c.tell_all.ensures.told.as_many, c.requires.as_many)

pub beside-requires-clause-logs : goal.beside-requires-clause-logs
beside-requires-clause-logs g c κs within =
    told_rooms c.obey_lines.new.side.end.list (length c.args.frames.now) c.args.workers c.args.readers.now c.tell_all.new.readers c.requires.logs c.tell_all.ensures.told

pub returns : goal.returns
returns g c =
    let middle = c.obey_lines.new.side in
    let lines = c.args.commands.now in
    let others : HasCarriedOut lines c.args.first (length lines) middle c.beside.new.side =
    subst (λ (e : EndState). let side : AdminSide = record middle { end = e } in HasCarriedOut lines c.args.first (length lines) side c.beside.new.side) c.tell_all.ensures.same c.beside.ensures.commands in
    record {
      middle = middle;
      firsts = c.obey_lines.ensures;
      told = c.tell_all.new.readers;
      telling = c.tell_all.ensures.told;
      others = others;
      reads = c.beside.ensures.reads;
    }
