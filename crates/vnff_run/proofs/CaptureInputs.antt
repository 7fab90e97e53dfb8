-- Reading a capture that is a file: what the reader answers is what the files give.
use Rattle.std.proofs.Common.{◌≡◌, ◌<◌, ◌≤◌, ℕ, List, Option, Some, None, Ok, Err, All, length, refl, ap, ◌∙◌, inl, inr, ⊎_elim}
use Rattle.std.specs.Prelude.{IsErrOf, IsSomeAnd}
use Rattle.std.proofs.lemmas.Bool.{cond-false, cond-true, le-ltb, lt-ltb}
use Rattle.std.proofs.lemmas.Option.{IfSome_then}
use Rattle.capture.specs.Captures.{capture_of}
use Rattle.capture.specs.Files.{WasRead}
use Rattle.capture.specs.declared.error.CaptureErr.{CaptureErr}
use Rattle.capture.specs.declared.error.CaptureReadErr.{CaptureReadErr}
use Rattle.capture.specs.declared.error.CaptureReadErr.TheVariants as reads
use Rattle.capture.proofs.CaptureLaws.{capture-short, capture_of-is}
use Rattle.vnff_base.specs.Reads.{OfFile}
use Rattle.vnff_base.specs.Shelves.{HasCause, ShelfState, file_limit}
use Rattle.vnff_run.specs.Endings.{ReadStops, ReadsInput}
use Rattle.vnff_run.specs.Inputs.{Refused, bytes_or_fault}
use Rattle.vnff_run.specs.Programs.{capture_stop}
use Rattle.vnff_run.specs.Results.{◌>>=◌}
use Rattle.vnff_run.specs.TableInputs.{frames_in, frames_or_refusal}
use Rattle.vnff_run.proofs.InputLemmas.{some_then}
use Rattle.vnff_run.specs.declared.stop.FileKind.TheVariants as kinds
use Rattle.vnff_run.specs.declared.stop.RefusedInput.TheVariants.{BadCapture, TooLong}
use Rattle.vnff_run.specs.declared.stop.Stop.TheVariants as stops

-- the bytes of a file that is there, and not too long or too long
whole : (o : Option (List ℕ)) (bytes : List ℕ) → length bytes ≤ file_limit → IsSomeAnd o (λ file. file ≡ bytes) → bytes_or_fault kinds.Capture o ≡ Ok bytes
whole None bytes short is = absurd is
whole (Some file) bytes short is = cond-false _ _ _ (le-ltb file_limit (length file) (rw is short)) ∙ ap Ok is

longer : (o : Option (List ℕ)) → IsSomeAnd o (λ file. file_limit < length file) → bytes_or_fault kinds.Capture o ≡ Err (Refused (TooLong kinds.Capture))
longer None is = absurd is
longer (Some file) is = cond-true _ _ _ (lt-ltb file_limit (length file) is)

missing : (o : Option (List ℕ)) → o ≡ None → bytes_or_fault kinds.Capture o ≡ bytes_or_fault kinds.Capture None
missing o is = ap (bytes_or_fault kinds.Capture) is

-- the frames of a file
pub frames_read : (shelf shelf_new : ShelfState) (name : List ℕ) (frames : List (List ℕ)) → shelf_new.faults ≡ shelf.faults → WasRead shelf name file_limit (Ok frames) → ReadsInput shelf shelf_new (frames_in name) (Ok frames)
unfolding frames_in WasRead
frames_read shelf shelf_new name frames same (bytes, short, is, there) =
    (same, IfSome_then shelf.files there (λ files file. ap (λ p. p >>= λ b. frames_or_refusal (capture_of b)) (whole (files name) bytes short file) ∙ ap frames_or_refusal is))

-- they are short
pub frames_short : (shelf : ShelfState) (name : List ℕ) (limit : ℕ) (frames : List (List ℕ)) → WasRead shelf name limit (Ok frames) → All (λ frame. length frame ≤ 262144) frames
unfolding WasRead
frames_short shelf name limit frames (bytes, short, is, there) = capture-short bytes frames (capture_of-is bytes frames is)

-- its fault, or that it is too long, or that it can't be read
pub frames_bad : (shelf shelf_new : ShelfState) (name : List ℕ) (fault : CaptureErr) → shelf_new.faults ≡ shelf.faults → WasRead shelf name file_limit (Err fault) → ReadStops shelf shelf_new (frames_in name) (stops.Refused (BadCapture fault))
unfolding frames_in WasRead
frames_bad shelf shelf_new name fault same (bytes, short, is, there) =
    (same, IfSome_then shelf.files there (λ files file. ap (λ p. p >>= λ b. frames_or_refusal (capture_of b)) (whole (files name) bytes short file) ∙ ap frames_or_refusal is))

pub frames_longer : (shelf shelf_new : ShelfState) (name : List ℕ) → shelf_new.faults ≡ shelf.faults → OfFile shelf name (λ file. file_limit < length file) → ReadStops shelf shelf_new (frames_in name) (stops.Refused (TooLong kinds.Capture))
unfolding frames_in
frames_longer shelf shelf_new name same there =
    (same, IfSome_then shelf.files there (λ files file. ap (λ p. p >>= λ b. frames_or_refusal (capture_of b)) (longer (files name) file)))

pub frames_missing : (shelf shelf_new : ShelfState) (name : List ℕ) → HasCause shelf shelf_new name → ReadStops shelf shelf_new (frames_in name) stops.ReadFault
unfolding frames_in
frames_missing shelf shelf_new name cause =
    ⊎_elim inl (λ none. inr (some_then shelf.files none (λ files is. ap (λ p. p >>= λ b. frames_or_refusal (capture_of b)) (missing (files name) is)))) cause

-- so a reader's answer ends a form
pub frames_stop : (A : Type 0) (shelf shelf_new : ShelfState) (name : List ℕ) (fault : CaptureReadErr) → ((f : CaptureErr) → IsErrOf {T = A} (Err fault) (reads.Bad f) → WasRead shelf name file_limit (Err f)) → (IsErrOf {T = A} (Err fault) reads.ReadFault → HasCause shelf shelf_new name) → (IsErrOf {T = A} (Err fault) reads.TooLong → OfFile shelf name (λ file. file_limit < length file)) → ((IsErrOf {T = A} (Err fault) reads.ReadFault → ⊥) → shelf_new.faults ≡ shelf.faults) → ReadStops shelf shelf_new (frames_in name) (capture_stop fault)
frames_stop A shelf shelf_new name reads.ReadFault bad cause over same = frames_missing shelf shelf_new name (cause refl)
frames_stop A shelf shelf_new name reads.TooLong bad cause over same = frames_longer shelf shelf_new name (same (λ e. absurd (cc))) (over refl)
frames_stop A shelf shelf_new name (reads.Bad fault) bad cause over same = frames_bad shelf shelf_new name fault (same (λ e. absurd (cc))) (bad fault refl)
frames_stop A shelf shelf_new name reads.Memory bad cause over same = same (λ e. absurd (cc))
