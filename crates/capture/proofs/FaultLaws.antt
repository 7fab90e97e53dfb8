-- What stands before the first fault of a capture.
use Rattle.std.proofs.Common.{◌≡◌, ℕ, zero, suc, ◌+◌, ◌<◌, ◌≤◌, Bool, List, [], ◌∷◌, ◌++◌, length, take, drop, Result, Ok, Err, refl, ap, sym, ◌∙◌, arith, inl, inr, ◌⊎◌, append_assoc, length-append, length-drop}
use Rattle.std.proofs.Math.Seq.{take-append-add}
use Rattle.std.proofs.lemmas.List.{take-append-drop, length-take-le, drop-drop}
use Rattle.capture.specs.declared.error.CaptureErr.{CaptureErr}
use Rattle.capture.specs.declared.header.CaptureHeader.{CaptureHeader}
use Rattle.capture.specs.FileHeaders.{file_header}
use Rattle.capture.specs.Records.{◌>>=◌, frame_of, records_within, records_of, AreRecords}
use Rattle.capture.specs.Captures.{capture_of, IsRecordFault}
use Rattle.capture.proofs.RecordLemmas.{shorter}
use Rattle.capture.proofs.HeaderLaws.{file_header-good}
use Rattle.capture.proofs.RecordLaws.{frame_of-read, first_record}
use Rattle.capture.proofs.CaptureLaws.{file_header-whole}

bind_fault : {A B : Type 0} (read : Result A CaptureErr) (f : A → Result B CaptureErr) (fault : CaptureErr) → (read >>= f) ≡ Err fault → (read ≡ Err fault) ⊎ ((x : A) × (read ≡ Ok x) × (f x ≡ Err fault))
bind_fault (Ok x) f fault same = inr (x, refl, same)
bind_fault (Err e) f fault same = let faults : e ≡ fault = cc in inl (ap Err faults)

no_fault : {A : Type 0} (x : A) (fault : CaptureErr) → Ok x ≡ Err fault → ⊥
no_fault x fault same = cc

-- A record at a place is at fault, and those before it are records.
abbrev FaultBehind : Bool → ℕ → List ℕ → CaptureErr → Type 0
FaultBehind big at bytes fault =
    (m : ℕ) × (frames : List (List ℕ)) × (m < length bytes) × AreRecords big (take m bytes) frames × (frame_of big (at + m) (drop m bytes) ≡ Err fault)

-- a fault behind one more record
fault_behind : (big : Bool) (at : ℕ) (bytes frame : List ℕ) (fault : CaptureErr) → frame_of big at bytes ≡ Ok frame → FaultBehind big (at + (16 + length frame)) (drop (16 + length frame) bytes) fault → FaultBehind big at bytes fault
fault_behind big at bytes frame fault read (m, frames, within, are, bad) =
    let size = 16 + length frame in
    let rest = drop size bytes in
    let head = take 16 bytes in
    let parts = first_record big bytes frame (frame_of-read big at bytes frame read) in
    let front = head ++ frame in
    let whole : bytes ≡ front ++ rest = parts.1 ∙ sym (append_assoc head frame rest) in
    let long : length front ≡ size = omega (arith, length-append head frame, parts.0.size) in
    let taken : take (size + m) bytes ≡ head ++ (frame ++ take m rest) = ap (λ n. take (n + m) bytes) (sym long) ∙ ap (take (length front + m)) whole ∙ take-append-add front rest m ∙ append_assoc head frame (take m rest) in
    let place : at + size + m ≡ at + (size + m) = omega arith in
    (size + m, frame ∷ frames, omega (arith, length-drop size bytes), (head, take m rest, parts.0, taken, are), ap (λ n. frame_of big n (drop (size + m) bytes)) (sym place) ∙ ap (frame_of big (at + size + m)) (sym (drop-drop m size bytes)) ∙ bad)

records-fault : (n : ℕ) (big : Bool) (at : ℕ) (bytes : List ℕ) (fault : CaptureErr) → length bytes ≤ n → records_within n big at bytes ≡ Err fault → FaultBehind big at bytes fault
records-fault n big at [] fault enough read = absurd (no_fault [] fault read)
records-fault zero big at (b ∷ bs) fault enough read = absurd (omega arith)
records-fault (suc n) big at (b ∷ bs) fault enough read =
    let first = bind_fault _ _ fault read in
    elim first [
      | inl bad ↦ (let same : at ≡ at + 0 = omega arith in (0, [], omega arith, refl, ap (λ k. frame_of big k (b ∷ bs)) (sym same) ∙ bad))
      | inr good ↦ (let more = bind_fault _ _ fault good.2 in
          elim more [ inl bad ↦ fault_behind big at (b ∷ bs) good.0 fault good.1 (records-fault n big _ (drop (16 + length good.0) (b ∷ bs)) fault (shorter b bs good.0 n enough) bad) | inr later ↦ absurd (no_fault _ fault later.2) ])
    ]

-- the fault of a capture with a good header
record-fault : (bytes : List ℕ) (kind : CaptureHeader) (fault : CaptureErr) → file_header bytes ≡ Ok kind → FaultBehind kind.big 24 (drop 24 bytes) fault → IsRecordFault bytes fault
record-fault bytes kind fault good (m, frames, within, are, bad) =
    let whole = file_header-whole bytes kind good in
    let header = take 24 bytes in
    let rest = drop 24 bytes in
    let size = length-take-le 24 bytes whole in
    let split = take-append-drop 24 bytes in
    let taken : take (24 + m) bytes ≡ header ++ take m rest = ap (λ n. take (n + m) bytes) (sym size) ∙ ap (take (length header + m)) (sym split) ∙ take-append-add header rest m in
    (kind, frames, 24 + m, good, omega arith, omega (arith, length-drop 24 bytes), (kind, header, take m rest, file_header-good header rest kind size (ap file_header split ∙ good), taken, are), ap (frame_of kind.big (24 + m)) (sym (drop-drop m 24 bytes)) ∙ bad)

pub capture-fault : (bytes : List ℕ) (fault : CaptureErr) → capture_of bytes ≡ Err fault → (file_header bytes ≡ Err fault) ⊎ IsRecordFault bytes fault
unfolding capture_of records_of
capture-fault bytes fault read =
    let first = bind_fault _ _ fault read in
    elim first [ inl bad ↦ inl bad | inr good ↦ inr (record-fault bytes good.0 fault good.1 (records-fault (length (drop 24 bytes)) good.0.big 24 (drop 24 bytes) fault (omega arith) good.2)) ]
