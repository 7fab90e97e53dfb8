use Rattle.std.proofs.Common.{map, refl}
use Rattle.vnff_run.specs.Forms.{Compile, Drain, Gen, Replay, Table}
use Rattle.vnff_run.proofs.LoadLemmas.{load_ends}
use Rattle.vnff_run.proofs.SteerLemmas.{form_leaves}
use Rattle.vnff_run.proofs.program.run.Goals as goal

pub returns-in-Replay : goal.returns-in-Replay
returns-in-Replay g c =
    let sinks = map (λ b. (goal.RxSink-dyn g (b.vtable, b.value)).state b.value) c.args.rack.now.sinks.items in
    rw c.in-Replay.is (form_leaves (Replay c.in-Replay.script.now) (g.S.Shelf.state c.args.shelf.now) (g.S.Shelf.state c.replay.new.shelf) (g.O.Out.state c.args.out.now) (g.O.Out.state c.replay.new.out) sinks sinks c.replay.result (λ files. refl) c.replay.ensures refl)

pub returns-in-Drain : goal.returns-in-Drain
returns-in-Drain g c =
    let sinks = map (λ b. (goal.RxSink-dyn g (b.vtable, b.value)).state b.value) c.args.rack.now.sinks.items in
    rw c.in-Drain.is (form_leaves (Drain c.in-Drain.image.now c.in-Drain.place) (g.S.Shelf.state c.args.shelf.now) (g.S.Shelf.state c.drain.new.shelf) (g.O.Out.state c.args.out.now) (g.O.Out.state c.drain.new.out) sinks sinks c.drain.result (λ files. refl) c.drain.ensures refl)

pub returns-in-Compile : goal.returns-in-Compile
returns-in-Compile g c =
    let sinks = map (λ b. (goal.RxSink-dyn g (b.vtable, b.value)).state b.value) c.args.rack.now.sinks.items in
    rw c.in-Compile.is (form_leaves (Compile c.in-Compile.device.now c.in-Compile.table.now) (g.S.Shelf.state c.args.shelf.now) (g.S.Shelf.state c.compile_table.new.shelf) (g.O.Out.state c.args.out.now) (g.O.Out.state c.compile_table.new.out) sinks sinks c.compile_table.result (λ files. refl) c.compile_table.ensures refl)

pub returns-in-Table : goal.returns-in-Table
returns-in-Table g c =
    let sinks = map (λ b. (goal.RxSink-dyn g (b.vtable, b.value)).state b.value) c.args.rack.now.sinks.items in
    rw c.in-Table.is (form_leaves (Table c.in-Table.device.now c.in-Table.table.now c.in-Table.capture.now) (g.S.Shelf.state c.args.shelf.now) (g.S.Shelf.state c.classify_by_table.new.shelf) (g.O.Out.state c.args.out.now) (g.O.Out.state c.classify_by_table.new.out) sinks sinks c.classify_by_table.result (λ files. refl) c.classify_by_table.ensures refl)

-- a load reads no file
pub returns-in-Gen : goal.returns-in-Gen
returns-in-Gen g c =
    let sinks = map (λ b. (goal.RxSink-dyn g (b.vtable, b.value)).state b.value) c.args.rack.now.sinks.items in
    let ends = load_ends (g.S.Shelf.state c.args.shelf.now) (g.O.Out.state c.args.out.now) (g.O.Out.state c.sum_up_load.new.out) c.in-Gen.seed c.in-Gen.frames c.sum_up_load.result c.sum_up_load.ensures in
    rw c.in-Gen.is (form_leaves (Gen c.in-Gen.seed c.in-Gen.frames) (g.S.Shelf.state c.args.shelf.now) (g.S.Shelf.state c.args.shelf.now) (g.O.Out.state c.args.out.now) (g.O.Out.state c.sum_up_load.new.out) sinks sinks c.sum_up_load.result (λ files. refl) ends refl)

pub returns-in-Steer : goal.returns-in-Steer
returns-in-Steer g c = rw c.in-Steer.is c.steer_frames.ensures
