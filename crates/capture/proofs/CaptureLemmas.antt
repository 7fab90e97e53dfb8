-- What reading a whole capture gives, by its header.
use Rattle.std.proofs.Common.{◌≡◌, ℕ, List, drop, Result, Ok, Err, refl}
use Rattle.capture.specs.declared.error.CaptureErr.{CaptureErr}
use Rattle.capture.specs.declared.header.CaptureHeader.{CaptureHeader}
use Rattle.capture.specs.FileHeaders.{file_header}
use Rattle.capture.specs.Records.{map_ok, records_of}
use Rattle.capture.specs.Captures.{capture_of}
use Rattle.capture.proofs.RecordLemmas.{front-none}

pub capture_of-header : (bytes : List ℕ) (header : CaptureHeader) → file_header bytes ≡ Ok header → capture_of bytes ≡ records_of header.big 24 (drop 24 bytes)
unfolding capture_of
capture_of-header bytes header good = rw good refl

pub capture_of-bad_header : (bytes : List ℕ) (fault : CaptureErr) → file_header bytes ≡ Err fault → capture_of bytes ≡ Err fault
unfolding capture_of
capture_of-bad_header bytes fault bad = rw bad refl

-- a fault, also where the value is mapped
pub map_ok-err : {A B : Type 0} (view : A → B) (read : Result A CaptureErr) (fault : CaptureErr) → Err fault ≡ map_ok view read → read ≡ Err fault
map_ok-err view (Ok x) fault same = absurd (cc)
map_ok-err view (Err e) fault same = cc

pub ruleset captures = (capture_of-header, capture_of-bad_header, map_ok-err, front-none)
