-- What reading a capture that is a file of a shelf answers.
use Rattle.std.specs.Prelude.{◌≡◌, ℕ, ◌≤◌, List, length, Result}
use Rattle.vnff_base.specs.Shelves.{ShelfState}
use Rattle.vnff_base.specs.Reads.{OfFile}
use Rattle.capture.specs.declared.error.CaptureErr.{CaptureErr}
use Rattle.capture.specs.Captures.{capture_of}

-- This is what some bytes read as, at most so many; where the shelf tells its files, the file of that name is there,
-- and they are its bytes.
unfoldable pub WasRead : ShelfState → List ℕ → ℕ → Result (List (List ℕ)) CaptureErr → Type 0
WasRead shelf name limit read =
    (bytes : List ℕ) × (length bytes ≤ limit) × (capture_of bytes ≡ read) × OfFile shelf name (λ file. file ≡ bytes)
