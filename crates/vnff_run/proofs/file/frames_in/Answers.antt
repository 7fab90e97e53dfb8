use Rattle.vnff_run.proofs.CaptureInputs.{frames_read, frames_short, frames_stop}
use Rattle.vnff_run.proofs.file.frames_in.Goals as goal

pub returns-in-Ok-clause-read : goal.returns-in-Ok-clause-read
returns-in-Ok-clause-read g c =
    frames_read (g.S.Shelf.state c.args.shelf.now) (g.S.Shelf.state c.read_capture.new.shelf) c.args.name.now c.in-Ok.frames (c.in-Ok.ensures.same_count (λ e. absurd (cc))) c.in-Ok.ensures.frames

pub returns-in-Ok-clause-short : goal.returns-in-Ok-clause-short
returns-in-Ok-clause-short g c = frames_short (g.S.Shelf.state c.args.shelf.now) c.args.name.now _ c.in-Ok.frames c.in-Ok.ensures.frames

pub returns-in-Err-clause-read : goal.returns-in-Err-clause-read
returns-in-Err-clause-read g c =
    rw c.capture_stop.ensures (frames_stop _ (g.S.Shelf.state c.args.shelf.now) (g.S.Shelf.state c.read_capture.new.shelf) c.args.name.now c.in-Err.fault c.in-Err.ensures.bad c.in-Err.ensures.fault c.in-Err.ensures.longer c.in-Err.ensures.same_count)
