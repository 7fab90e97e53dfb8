-- Records that are read are a record for each frame, and such records are read.
use Rattle.std.proofs.Common.{◌≡◌, ℕ, zero, suc, ◌+◌, ◌<◌, ◌≤◌, Bool, List, [], ◌∷◌, ◌++◌, length, take, drop, Ok, refl, ap, sym, ◌∙◌, subst, arith, ltb-false, le-ltb}
use Rattle.std.proofs.lemmas.List.{take_at, drop_at, take-append-drop, length-append, length-drop, length-take-le, append_assoc, drop-drop}
use Rattle.std.proofs.lemmas.Bool.{cond-false}
use Rattle.capture.specs.Records.{map_ok, captured_length, frame_of, records_within, records_of, IsRecordHead, AreRecords}
use Rattle.capture.proofs.Choices.{fault_if-ok, bind_ok, ok_same}
use Rattle.capture.proofs.HeaderLaws.{number32_at-front}
use Rattle.capture.proofs.RecordLemmas.{records_of-end, records_of-more, shorter}

captured-front : (big : Bool) (head rest : List ℕ) → length head ≡ 16 → captured_length big (head ++ rest) ≡ captured_length big head
unfolding captured_length
captured-front big head rest size = number32_at-front big head rest 8 (omega arith)

-- a record that is read
pub record RecordRead (big : Bool) (bytes frame : List ℕ) : Type 0 where
  pub long : 16 ≤ length bytes
  pub within : captured_length big bytes ≤ 262144
  pub whole : 16 + captured_length big bytes ≤ length bytes
  pub is : take (captured_length big bytes) (drop 16 bytes) ≡ frame

pub frame_of-read : (big : Bool) (at : ℕ) (bytes frame : List ℕ) → frame_of big at bytes ≡ Ok frame → RecordRead big bytes frame
unfolding frame_of
frame_of-read big at bytes frame read =
    let long = fault_if-ok _ _ _ _ read in
    let within = fault_if-ok _ _ _ _ long.1 in
    let whole = fault_if-ok _ _ _ _ within.1 in
    record {
      long = ltb-false _ 16 long.0;
      within = ltb-false 262144 _ within.0;
      whole = ltb-false _ _ whole.0;
      is = ok_same (Ok _) _ frame refl whole.1;
    }

-- a record that is read, and what stands behind it
pub first_record : (big : Bool) (bytes frame : List ℕ) → RecordRead big bytes frame → IsRecordHead big (take 16 bytes) frame × (bytes ≡ take 16 bytes ++ (frame ++ drop (16 + length frame) bytes))
first_record big bytes frame r =
    let size = captured_length big bytes in
    let head = take 16 bytes in
    let after = drop 16 bytes in
    let long = r.long in
    let whole = r.whole in
    let split = take-append-drop 16 bytes in
    let length_head = length-take-le 16 bytes long in
    let length_frame : length frame ≡ size = ap length (sym r.is) ∙ length-take-le size after (omega (arith, length-drop 16 bytes)) in
    let captured = sym (captured-front big head after length_head) ∙ ap (captured_length big) split ∙ sym length_frame in
    let behind : frame ++ drop (16 + length frame) bytes ≡ after = ap (λ n. frame ++ drop (16 + n) bytes) length_frame ∙ ap (λ f. f ++ drop (16 + size) bytes) (sym r.is) ∙ ap (λ xs. take size after ++ xs) (sym (drop-drop size 16 bytes)) ∙ take-append-drop size after in
    (record { size = length_head; captured = captured; within = subst (λ n. n ≤ 262144) (sym length_frame) r.within }, sym split ∙ ap (λ xs. head ++ xs) (sym behind))

-- Records that are read are a record for each frame.
are_records : (n : ℕ) (big : Bool) (at : ℕ) (bytes : List ℕ) (frames : List (List ℕ)) → length bytes ≤ n → records_within n big at bytes ≡ Ok frames → AreRecords big bytes frames
are_records n big at [] frames enough read = subst (AreRecords big []) (ok_same (Ok []) [] frames refl read) refl
are_records zero big at (b ∷ bs) frames enough read = absurd (omega arith)
are_records (suc n) big at (b ∷ bs) frames enough read =
    let first = bind_ok _ _ frames read in
    let frame = first.0 in
    let more = bind_ok _ _ frames first.2 in
    let parts = first_record big (b ∷ bs) frame (frame_of-read big at (b ∷ bs) frame first.1) in
    let rest = drop (16 + length frame) (b ∷ bs) in
    let behind = are_records n big _ rest more.0 (shorter b bs frame n enough) more.1 in
    subst (AreRecords big (b ∷ bs)) (ok_same (Ok (frame ∷ more.0)) (frame ∷ more.0) frames refl more.2) (take 16 (b ∷ bs), rest, parts.0, parts.1, behind)

pub records_of-are : (big : Bool) (at : ℕ) (bytes : List ℕ) (frames : List (List ℕ)) → records_of big at bytes ≡ Ok frames → AreRecords big bytes frames
unfolding records_of
records_of-are big at bytes frames read = are_records (length bytes) big at bytes frames (omega arith) read

-- a record whose head is right is read
frame_of-by : (big : Bool) (at : ℕ) (bytes : List ℕ) (size : ℕ) → captured_length big bytes ≡ size → size ≤ 262144 → 16 + size ≤ length bytes → frame_of big at bytes ≡ Ok (take size (drop 16 bytes))
unfolding frame_of
frame_of-by big at bytes size is within whole =
    rw is (cond-false _ _ _ (le-ltb (length bytes) 16 (omega arith)) ∙ (cond-false _ _ _ (le-ltb 262144 size within) ∙ cond-false _ _ _ (le-ltb (length bytes) (16 + size) whole)))

pub frame_of-record : (big : Bool) (at : ℕ) (head frame rest : List ℕ) → IsRecordHead big head frame → frame_of big at (head ++ (frame ++ rest)) ≡ Ok frame
frame_of-record big at head frame rest good =
    let size = good.size in
    let is = captured-front big head (frame ++ rest) good.size ∙ good.captured in
    let whole : 16 + length frame ≤ length (head ++ (frame ++ rest)) = omega (arith, length-append head (frame ++ rest), length-append frame rest) in
    frame_of-by big at (head ++ (frame ++ rest)) (length frame) is good.within whole ∙ ap (λ xs. Ok (take (length frame) xs)) (drop_at head (frame ++ rest) 16 good.size) ∙ ap Ok (take_at frame rest (length frame) refl)

-- A record for each frame is read as these frames.
pub are-records_of : (big : Bool) (at : ℕ) (bytes : List ℕ) (frames : List (List ℕ)) → AreRecords big bytes frames → records_of big at bytes ≡ Ok frames
are-records_of big at bytes [] none = records_of-end big at bytes (ap length none)
are-records_of big at bytes (frame ∷ frames) (head, rest, good, split, behind) =
    let size = good.size in
    let some : 0 < length bytes = omega (arith, ap length split, length-append head (frame ++ rest)) in
    let read = ap (frame_of big at) split ∙ frame_of-record big at head frame rest good in
    let left = ap (drop (16 + length frame)) (split ∙ sym (append_assoc head frame rest)) ∙ drop_at (head ++ frame) rest (16 + length frame) (omega (arith, length-append head frame)) in
    records_of-more big at bytes frame some read ∙ ap (λ xs. map_ok (λ more. frame ∷ more) (records_of big (at + (16 + length frame)) xs)) left ∙ ap (map_ok (λ more. frame ∷ more)) (are-records_of big (at + (16 + length frame)) rest frames behind)
