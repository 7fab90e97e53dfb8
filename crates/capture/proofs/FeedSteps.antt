-- What a feed stands for after a step, and what its end says.
use Rattle.std.proofs.Common.{◌≡◌, ℕ, ◌+◌, ◌<◌, ◌≤◌, Bool, true, false, inl, inr, List, [], ◌∷◌, ◌++◌, length, take, drop, Option, Some, None, is_some, ◌⊎◌, Ok, Err, refl, ap, sym, ◌∙◌, subst, arith, lt-ltb}
use Rattle.std.proofs.lemmas.Bool.{cond-true}
use Rattle.std.proofs.lemmas.List.{take-append-drop, length-append, length-take-le, length-drop, append_assoc, append-nil}
use Rattle.std.proofs.Math.Seq.{take-append-add}
use Rattle.std.specs.List.{concat}
use Rattle.capture.specs.declared.error.CaptureErr.{CaptureErr}
use Rattle.capture.specs.declared.error.CaptureErr.TheVariants.{Truncated, TooLong}
use Rattle.capture.specs.declared.header.CaptureHeader.{CaptureHeader}
use Rattle.capture.specs.Sizes.{longest_record}
use Rattle.capture.specs.FileHeaders.{file_header}
use Rattle.capture.specs.Records.{with_front, frame_of}
use Rattle.capture.specs.Captures.{capture_of}
use Rattle.capture.specs.Feeds.{FeedState, IsCutAt, StandsBy, StandsSound, StandsFor, AreFed, WereCut, is_lasting}
use Rattle.capture.proofs.CaptureLemmas.{capture_of-header, capture_of-bad_header}
use Rattle.capture.proofs.CaptureLaws.{file_header-whole}
use Rattle.capture.proofs.RecordLemmas.{records_of-bad, records_of-end}
use Rattle.capture.proofs.FeedLaws.{file_header-front, capture_of-behind, capture_of-longer, record-fault, too_long-stays}

-- ---- records are cut from the bytes

lasting-fault : (fault : CaptureErr) (at : ℕ) → is_lasting fault ≡ true → fault ≡ Truncated at → ⊥
lasting-fault fault at lasting same = let none : is_lasting fault ≡ false = ap is_lasting same in cc

module _ (kind : CaptureHeader) (front bytes : List ℕ) (before at : ℕ) (old new : List (List ℕ)) (stop : CaptureErr) (size : length front ≡ before) (is_header : file_header front ≡ Ok kind) (is_capture : capture_of front ≡ Ok old) (cut : WereCut kind.big before bytes old new at stop) where
  abbrev longer : List ℕ
  longer = front ++ take at bytes

  longer-size : length longer ≡ before + at
  longer-size = omega (arith, size, length-append front (take at bytes), length-take-le at bytes cut.within)

  longer-header : file_header longer ≡ Ok kind
  longer-header = file_header-front front (take at bytes) (file_header-whole front kind is_header) ∙ is_header

  longer-capture : capture_of longer ≡ Ok new
  longer-capture =
      let (frames, is, records) = cut.further in
      capture_of-longer kind front old frames (take at bytes) is_header is_capture records ∙ ap Ok (sym is)

  whole : front ++ bytes ≡ longer ++ drop at bytes
  whole = sym (append_assoc front (take at bytes) (drop at bytes) ∙ ap (λ xs. front ++ xs) (take-append-drop at bytes))

  -- a fault that a later byte can heal is a record that is cut short
  is-cut : is_lasting stop ≡ false → frame_of kind.big (before + at) (drop at bytes) ≡ Err (Truncated (before + at))
  is-cut not = elim (record-fault kind.big (before + at) (drop at bytes) stop cut.stops) [
    | inl over ↦ let lasting : is_lasting stop ≡ true = ap is_lasting over.2 in absurd (let both = not in cc)
    | inr part ↦ cut.stops ∙ ap Err part.1
  ]

  pub cut-stands : is_lasting stop ≡ false → IsCutAt (record { header = Some kind; frames = new; before = before + at; rest = drop at bytes; fault = None }) kind (front ++ bytes) longer
  cut-stands not = record {
    whole = whole;
    size = longer-size;
    is_header = longer-header;
    is_capture = longer-capture;
    is_cut = is-cut not;
  }

  pub cut-faulty : is_lasting stop ≡ true → (later : List ℕ) → capture_of ((front ++ bytes) ++ later) ≡ Err stop
  cut-faulty lasting later = elim (record-fault kind.big (before + at) (drop at bytes) stop cut.stops) [
    | inl over ↦
        let all : (front ++ bytes) ++ later ≡ longer ++ (drop at bytes ++ later) = ap (λ xs. xs ++ later) whole ∙ append_assoc longer (drop at bytes) later in
        let bad = too_long-stays kind.big (length longer) (drop at bytes) later over.0 over.1 in
        let some : 0 < length (drop at bytes ++ later) = omega (arith, over.0, length-append (drop at bytes) later) in
        ap capture_of all
        ∙ capture_of-behind kind longer new (drop at bytes ++ later) longer-header longer-capture
        ∙ ap (with_front new) (records_of-bad kind.big (length longer) (drop at bytes ++ later) (TooLong (length longer)) some bad)
        ∙ ap (λ n. Err (TooLong n)) longer-size ∙ ap Err (sym over.2)
    | inr part ↦ absurd (lasting-fault stop (before + at) lasting part.1)
  ]

-- a faulty header
pub header-faulty : (bytes : List ℕ) (fault : CaptureErr) → 24 ≤ length bytes → file_header bytes ≡ Err fault → (later : List ℕ) → capture_of (bytes ++ later) ≡ Err fault
header-faulty bytes fault long bad later = capture_of-bad_header (bytes ++ later) fault (file_header-front bytes later long ∙ bad)

-- ---- the end

pub end-faulty : (bytes : List ℕ) (fault : CaptureErr) → ((later : List ℕ) → capture_of (bytes ++ later) ≡ Err fault) → capture_of bytes ≡ Err fault
end-faulty bytes fault bad = ap capture_of (sym (append-nil bytes)) ∙ bad []

pub end-short : (bytes : List ℕ) → length bytes < 24 → capture_of bytes ≡ Err (Truncated 0)
unfolding file_header
end-short bytes short = capture_of-bad_header bytes (Truncated 0) (cond-true _ _ _ (lt-ltb (length bytes) 24 short))

no_bytes : (bytes : List ℕ) → length bytes ≡ 0 → bytes ≡ []
no_bytes [] none = refl
no_bytes (b ∷ bytes) none = absurd (omega arith)

module _ (feed : FeedState) (kind : CaptureHeader) (bytes front : List ℕ) (cut : IsCutAt feed kind bytes front) where
  pub end-whole : length feed.rest ≡ 0 → capture_of bytes ≡ Ok feed.frames
  end-whole none =
      let is : feed.rest ≡ [] = no_bytes feed.rest none in
      ap capture_of (cut.whole ∙ ap (λ xs. front ++ xs) is ∙ append-nil front) ∙ cut.is_capture

  pub end-cut : 0 < length feed.rest → capture_of bytes ≡ Err (Truncated feed.before)
  end-cut some =
      let here = subst (λ n. frame_of kind.big n feed.rest ≡ Err (Truncated feed.before)) (sym cut.size) cut.is_cut in
      ap capture_of cut.whole ∙ capture_of-behind kind front feed.frames feed.rest cut.is_header cut.is_capture
      ∙ ap (with_front feed.frames) (records_of-bad kind.big (length front) feed.rest (Truncated feed.before) some here)

pub end-of_fault : (feed : FeedState) (bytes : List ℕ) (fault : CaptureErr) → feed.fault ≡ Some fault → StandsFor feed bytes → Err fault ≡ capture_of bytes
end-of_fault feed bytes fault is stands = sym (end-faulty bytes fault (subst (λ f. StandsBy f feed bytes) is stands))

pub end-of_whole : (feed : FeedState) (bytes : List ℕ) → feed.fault ≡ None → is_some feed.header ≡ true → length feed.rest ≡ 0 → StandsFor feed bytes → Ok feed.frames ≡ capture_of bytes
end-of_whole feed bytes sound some none stands = by_header feed.header some (subst (λ f. StandsBy f feed bytes) sound stands)
  where
    by_header : (header : Option CaptureHeader) → is_some header ≡ true → StandsSound header feed bytes → Ok feed.frames ≡ capture_of bytes
    by_header None some s = absurd (cc)
    by_header (Some kind) some (front, cut) = sym (end-whole feed kind bytes front cut none)

pub end-of_cut : (feed : FeedState) (bytes : List ℕ) → feed.fault ≡ None → (feed.header ≡ None) ⊎ (0 < length feed.rest) → StandsFor feed bytes → Err (Truncated feed.before) ≡ capture_of bytes
end-of_cut feed bytes sound some stands = by_header feed.header some (subst (λ f. StandsBy f feed bytes) sound stands)
  where
    by_header : (header : Option CaptureHeader) → (header ≡ None) ⊎ (0 < length feed.rest) → StandsSound header feed bytes → Err (Truncated feed.before) ≡ capture_of bytes
    by_header None some (is, start, short) = sym (end-short bytes (rw is short) ∙ ap (λ n. Err (Truncated n)) (sym start))
    by_header (Some kind) (inl none) s = absurd (cc)
    by_header (Some kind) (inr more) (front, cut) = sym (end-cut feed kind bytes front cut more)

-- a rest that may still become a record
pub rest-short : (big : Bool) (at : ℕ) (rest : List ℕ) (fault : CaptureErr) → frame_of big at rest ≡ Err fault → is_lasting fault ≡ false → length rest < longest_record
rest-short big at rest fault bad not = elim (record-fault big at rest fault bad) [
  | inl over ↦ let lasting : is_lasting fault ≡ true = ap is_lasting over.2 in absurd (let both = not in cc)
  | inr part ↦ omega (arith, part.0)
]

pub take-further : (bytes : List ℕ) (at n : ℕ) → at ≤ length bytes → take (at + n) bytes ≡ take at bytes ++ take n (drop at bytes)
take-further bytes at n within =
    let front = take at bytes in
    ap (λ k. take (k + n) bytes) (sym (length-take-le at bytes within)) ∙ ap (take (length front + n)) (sym (take-append-drop at bytes)) ∙ take-append-add front (drop at bytes) n

-- ---- a step

pub stands-faulty : (feed : FeedState) (bytes : List ℕ) (fault : CaptureErr) → feed.fault ≡ Some fault → ((later : List ℕ) → capture_of (bytes ++ later) ≡ Err fault) → StandsFor feed bytes
stands-faulty feed bytes fault is bad = subst (λ f. StandsBy f feed bytes) (sym is) bad

-- a feed with a fault drops what comes
pub stands-dropped : (feed : FeedState) (bytes piece : List ℕ) (fault : CaptureErr) → feed.fault ≡ Some fault → StandsFor feed bytes → StandsFor feed (bytes ++ piece)
stands-dropped feed bytes piece fault is stands =
    let bad : (later : List ℕ) → capture_of (bytes ++ later) ≡ Err fault = subst (λ f. StandsBy f feed bytes) is stands in
    stands-faulty feed (bytes ++ piece) fault is (λ later. ap capture_of (append_assoc bytes piece later) ∙ bad (piece ++ later))

-- what a header is followed by
pub header-first : (kind : CaptureHeader) (bytes : List ℕ) → file_header bytes ≡ Ok kind → (length (take 24 bytes) ≡ 24) × (file_header (take 24 bytes) ≡ Ok kind) × (capture_of (take 24 bytes) ≡ Ok [])
header-first kind bytes good =
    let long = file_header-whole bytes kind good in
    let size = length-take-le 24 bytes long in
    let split = take-append-drop 24 bytes in
    let first : file_header (take 24 bytes) ≡ Ok kind = sym (file_header-front (take 24 bytes) (drop 24 bytes) (omega (arith, size))) ∙ ap file_header split ∙ good in
    (size, first, capture_of-header (take 24 bytes) kind first ∙ records_of-end kind.big 24 (drop 24 (take 24 bytes)) (omega (arith, size, length-drop 24 (take 24 bytes))))

-- with a header the next step begins at its front, and without one at the rest
pub step-with_header : (feed after : FeedState) (kind : CaptureHeader) (piece : List ℕ) → feed.fault ≡ None → feed.header ≡ Some kind
    → ((front : List ℕ) → length front ≡ feed.before → file_header front ≡ Ok kind → capture_of front ≡ Ok feed.frames → StandsFor after (front ++ (feed.rest ++ piece)))
    → (bytes : List ℕ) → StandsFor feed bytes → StandsFor after (bytes ++ piece)
step-with_header feed after kind piece sound known step bytes stands =
    let (front, cut) = subst (λ h. StandsSound h feed bytes) known (subst (λ f. StandsBy f feed bytes) sound stands) in
    let all : front ++ (feed.rest ++ piece) ≡ bytes ++ piece = sym (append_assoc front feed.rest piece) ∙ ap (λ xs. xs ++ piece) (sym cut.whole) in
    subst (StandsFor after) all (step front cut.size cut.is_header cut.is_capture)

pub step-without_header : (feed after : FeedState) (piece : List ℕ) → feed.fault ≡ None → feed.header ≡ None
    → StandsFor after (feed.rest ++ piece) → (bytes : List ℕ) → StandsFor feed bytes → StandsFor after (bytes ++ piece)
step-without_header feed after piece sound none step bytes stands =
    let both : StandsSound None feed bytes = subst (λ h. StandsSound h feed bytes) none (subst (λ f. StandsBy f feed bytes) sound stands) in
    subst (λ xs. StandsFor after (xs ++ piece)) (sym both.0) step

pub none_yet : {A : Type 0} (o : Option A) → is_some o ≡ false → o ≡ None
none_yet None none = refl
none_yet (Some x) none = absurd (cc)

-- however a capture is cut into pieces
pub fed-stands : (first last : FeedState) (front : List ℕ) (pieces : List (List ℕ)) → StandsFor first front → AreFed first last pieces → StandsFor last (front ++ concat pieces)
fed-stands first last front [] stands same = subst (StandsFor last) (sym (append-nil front)) (subst (λ f. StandsFor f front) same stands)
fed-stands first last front (piece ∷ pieces) stands (next, fed, more) =
    subst (StandsFor last) (append_assoc front piece (concat pieces)) (fed-stands next last (front ++ piece) pieces (fed front stands) more)
