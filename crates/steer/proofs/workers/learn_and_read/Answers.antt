use Rattle.std.proofs.Common.{sym, subst, ◌<◌}
use Rattle.steer.proofs.workers.learn_and_read.Goals as goal

pub read-requires : goal.read-requires
read-requires g c = subst (λ s. 0 < s) (sym c.learn.ensures.spare) c.requires.room

pub returns : goal.returns
returns g c =
    let e = c.learn.ensures in
    record {
      told = c.learn.new.self;
      learned = record {
        identity = e.same_identity;
        limits = e.same_limits;
        floors = e.floors;
        log = e.log;
        spare = e.spare;
        logged = e.logged;
      };
      read = c.read.ensures.read;
      entered = c.read.ensures.entered;
    }
