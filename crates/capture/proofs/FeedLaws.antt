-- A capture that is continued: what comes behind a header, behind whole records and behind a fault.
use Rattle.std.proofs.Common.{◌≡◌, ℕ, ◌+◌, ◌<◌, ◌≤◌, inl, inr, Bool, List, [], ◌∷◌, ◌++◌, length, take, drop, Option, Some, None, Result, Ok, Err, refl, ap, sym, ◌∙◌, subst, arith, nat_lt, ◌⊎◌, ltb-false, ltb-true, lt-ltb, le-ltb}
use Rattle.std.proofs.lemmas.Bool.{cases_Bool, cond-true, cond-false}
use Rattle.std.proofs.lemmas.List.{take-append-le, length-append, append_assoc, append-nil, drop_at, take_at}
use Rattle.capture.specs.declared.error.CaptureErr.{CaptureErr}
use Rattle.capture.specs.declared.error.CaptureErr.TheVariants.{Truncated, TooLong}
use Rattle.capture.specs.declared.header.CaptureHeader.{CaptureHeader}
use Rattle.capture.specs.FileHeaders.{kind_of_magic, checked_header, file_header}
use Rattle.capture.specs.Records.{map_ok, with_front, captured_length, frame_of, records_of, AreRecords}
use Rattle.capture.specs.Captures.{capture_of}
use Rattle.capture.proofs.Choices.{ok_same}
use Rattle.capture.proofs.HeaderLaws.{number32_at-front, version-front, link-front, good-file_header}
use Rattle.capture.proofs.CaptureLemmas.{capture_of-header}
use Rattle.capture.proofs.CaptureLaws.{file_header-whole, capture_of-is}
use Rattle.capture.proofs.RecordLemmas.{records_of-more, front-none}
use Rattle.capture.proofs.RecordLaws.{frame_of-read, first_record, frame_of-record, are-records_of}

-- ---- behind a header

checked-front : (xs ys : List ℕ) (kind : Option CaptureHeader) → 24 ≤ length xs → checked_header (xs ++ ys) kind ≡ checked_header xs kind
unfolding checked_header
checked-front xs ys None long = refl
checked-front xs ys (Some kind) long = rw (version-front kind.big xs ys long, link-front kind.big xs ys long) refl

pub file_header-front : (xs ys : List ℕ) → 24 ≤ length xs → file_header (xs ++ ys) ≡ file_header xs
unfolding file_header
file_header-front xs ys long =
    cond-false _ _ _ (le-ltb (length (xs ++ ys)) 24 (omega (arith, length-append xs ys)))
    ∙ ap (λ four. checked_header (xs ++ ys) (kind_of_magic four)) (take-append-le 4 xs ys (omega arith))
    ∙ checked-front xs ys (kind_of_magic (take 4 xs)) long
    ∙ sym (cond-false _ _ _ (le-ltb (length xs) 24 long))

-- ---- behind whole records

front-cons : (frame : List ℕ) (frames : List (List ℕ)) (read : Result (List (List ℕ)) CaptureErr) → map_ok (λ more. frame ∷ more) (with_front frames read) ≡ with_front (frame ∷ frames) read
front-cons frame frames (Ok more) = refl
front-cons frame frames (Err fault) = refl

records_of-behind : (big : Bool) (at : ℕ) (bytes : List ℕ) (frames : List (List ℕ)) (later : List ℕ) → AreRecords big bytes frames → records_of big at (bytes ++ later) ≡ with_front frames (records_of big (at + length bytes) later)
records_of-behind big at bytes [] later none =
    let size : at ≡ at + length bytes = omega (arith, ap length none) in
    ap (λ xs. records_of big at (xs ++ later)) none ∙ ap (λ n. records_of big n later) size ∙ sym (front-none (records_of big (at + length bytes) later))
records_of-behind big at bytes (frame ∷ frames) later (head, rest, good, split, behind) =
    let size = good.size in
    let whole : bytes ++ later ≡ head ++ (frame ++ (rest ++ later)) = ap (λ xs. xs ++ later) split ∙ append_assoc head (frame ++ rest) later ∙ ap (λ xs. head ++ xs) (append_assoc frame rest later) in
    let some : 0 < length (bytes ++ later) = omega (arith, ap length whole, length-append head (frame ++ (rest ++ later)), size) in
    let read = ap (frame_of big at) whole ∙ frame_of-record big at head frame (rest ++ later) good in
    let left : drop (16 + length frame) (bytes ++ later) ≡ rest ++ later =
    ap (drop (16 + length frame)) (whole ∙ sym (append_assoc head frame (rest ++ later)))
    ∙ drop_at (head ++ frame) (rest ++ later) (16 + length frame) (omega (arith, size, length-append head frame)) in
    let place : at + (16 + length frame) + length rest ≡ at + length bytes = omega (arith, size, ap length split, length-append head (frame ++ rest), length-append frame rest) in
    records_of-more big at (bytes ++ later) frame some read
    ∙ ap (λ xs. map_ok (λ more. frame ∷ more) (records_of big (at + (16 + length frame)) xs)) left
    ∙ ap (map_ok (λ more. frame ∷ more)) (records_of-behind big (at + (16 + length frame)) rest frames later behind)
    ∙ ap (λ n. map_ok (λ more. frame ∷ more) (with_front frames (records_of big n later))) place
    ∙ front-cons frame frames (records_of big (at + length bytes) later)

pub capture_of-behind : (kind : CaptureHeader) (front : List ℕ) (frames : List (List ℕ)) (later : List ℕ) → file_header front ≡ Ok kind → capture_of front ≡ Ok frames → capture_of (front ++ later) ≡ with_front frames (records_of kind.big (length front) later)
capture_of-behind kind front frames later is_header is_capture =
    let (known, header, rest, good, split, records) = capture_of-is front frames is_capture in
    let same : known ≡ kind = ok_same (file_header front) known kind (ap file_header split ∙ good-file_header header rest known good) is_header in
    let size = good.size in
    let long = file_header-whole front kind is_header in
    let whole : front ++ later ≡ header ++ (rest ++ later) = ap (λ xs. xs ++ later) split ∙ append_assoc header rest later in
    let left : drop 24 (front ++ later) ≡ rest ++ later = ap (drop 24) whole ∙ drop_at header (rest ++ later) 24 size in
    let place : 24 + length rest ≡ length front = omega (arith, size, ap length split, length-append header rest) in
    capture_of-header (front ++ later) kind (file_header-front front later long ∙ is_header)
    ∙ ap (records_of kind.big 24) left
    ∙ records_of-behind kind.big 24 rest frames later (subst (λ k. AreRecords k.big rest frames) same records)
    ∙ ap (λ n. with_front frames (records_of kind.big n later)) place

pub capture_of-longer : (kind : CaptureHeader) (front : List ℕ) (frames more : List (List ℕ)) (later : List ℕ) → file_header front ≡ Ok kind → capture_of front ≡ Ok frames → AreRecords kind.big later more → capture_of (front ++ later) ≡ Ok (frames ++ more)
capture_of-longer kind front frames more later is_header is_capture records =
    capture_of-behind kind front frames later is_header is_capture
    ∙ ap (with_front frames) (are-records_of kind.big (length front) later more records)

-- one more record
pub AreRecords-push : (big : Bool) (at : ℕ) (bytes later frame : List ℕ) (frames : List (List ℕ)) → AreRecords big bytes frames → frame_of big at later ≡ Ok frame → AreRecords big (bytes ++ take (16 + length frame) later) (frames ++ frame ∷ [])
AreRecords-push big at bytes later frame [] none read =
    let parts = first_record big later frame (frame_of-read big at later frame read) in
    let head = take 16 later in
    let size = parts.0.size in
    let front : take (16 + length frame) later ≡ head ++ frame =
    ap (take (16 + length frame)) (parts.1 ∙ sym (append_assoc head frame (drop (16 + length frame) later)))
    ∙ take_at (head ++ frame) (drop (16 + length frame) later) (16 + length frame) (omega (arith, size, length-append head frame)) in
    (head, [], parts.0, ap (λ xs. xs ++ take (16 + length frame) later) none ∙ front ∙ ap (λ xs. head ++ xs) (sym (append-nil frame)), refl)
AreRecords-push big at bytes later frame (f ∷ frames) (head, rest, good, split, behind) read =
    let next = take (16 + length frame) later in
    (head, rest ++ next, good, ap (λ xs. xs ++ next) split ∙ append_assoc head (f ++ rest) next ∙ ap (λ xs. head ++ xs) (append_assoc f rest next), AreRecords-push big at rest later frame frames behind read)

-- ---- behind a fault

same_fault : {A : Type 0} (one other : CaptureErr) (read : Result A CaptureErr) → read ≡ Err one → read ≡ Err other → one ≡ other
same_fault one other read is_one is_other = cc

no_fault : {A : Type 0} (x : A) (fault : CaptureErr) (read : Result A CaptureErr) → read ≡ Ok x → read ≡ Err fault → ⊥
no_fault x fault read good bad = cc

captured-front : (big : Bool) (xs ys : List ℕ) → 16 ≤ length xs → captured_length big (xs ++ ys) ≡ captured_length big xs
unfolding captured_length
captured-front big xs ys long = number32_at-front big xs ys 8 (omega arith)

-- a record is at fault for its length, or it isn't whole
pub record-fault : (big : Bool) (at : ℕ) (xs : List ℕ) (fault : CaptureErr) → frame_of big at xs ≡ Err fault → ((16 ≤ length xs) × (262144 < captured_length big xs) × (fault ≡ TooLong at)) ⊎ ((length xs ≤ 262159) × (fault ≡ Truncated at))
unfolding frame_of
record-fault big at xs fault bad = elim (cases_Bool (nat_lt (length xs) 16)) [
  | inl short ↦
      let is : frame_of big at xs ≡ Err (Truncated at) = cond-true _ _ _ short in
      inr (omega (arith, ltb-true (length xs) 16 short), same_fault fault (Truncated at) (frame_of big at xs) bad is)
  | inr long ↦
      let first = cond-false _ _ _ long in
      elim (cases_Bool (nat_lt 262144 (captured_length big xs))) [
        | inl over ↦
            let is : frame_of big at xs ≡ Err (TooLong at) = first ∙ cond-true _ _ _ over in
            inl (ltb-false (length xs) 16 long, ltb-true 262144 (captured_length big xs) over, same_fault fault (TooLong at) (frame_of big at xs) bad is)
        | inr within ↦
            let second = first ∙ cond-false _ _ _ within in
            elim (cases_Bool (nat_lt (length xs) (16 + captured_length big xs))) [
              | inl part ↦
                  let is : frame_of big at xs ≡ Err (Truncated at) = second ∙ cond-true _ _ _ part in
                  let below = ltb-true (length xs) (16 + captured_length big xs) part in
                  let few = ltb-false 262144 (captured_length big xs) within in
                  inr (omega (arith, below, few), same_fault fault (Truncated at) (frame_of big at xs) bad is)
              | inr whole ↦ absurd (no_fault (take (captured_length big xs) (drop 16 xs)) fault (frame_of big at xs) (second ∙ cond-false _ _ _ whole) bad)
            ]
      ]
]

pub too_long-stays : (big : Bool) (at : ℕ) (xs ys : List ℕ) → 16 ≤ length xs → 262144 < captured_length big xs → frame_of big at (xs ++ ys) ≡ Err (TooLong at)
unfolding frame_of
too_long-stays big at xs ys long over =
    let same = captured-front big xs ys long in
    cond-false _ _ _ (le-ltb (length (xs ++ ys)) 16 (omega (arith, length-append xs ys)))
    ∙ cond-true _ _ _ (lt-ltb 262144 (captured_length big (xs ++ ys)) (omega (arith, same, over)))
