-- A capture that is read from a shelf in pieces: what was read so far, and what its end says of the file.
use Rattle.std.proofs.Common.{◌≡◌, ℕ, ◌+◌, ◌<◌, ◌≤◌, List, [], ◌++◌, length, take, drop, Option, Some, None, Result, Ok, Err, IfSome, IsErrOf, refl, ap, sym, ◌∙◌, subst, arith}
use Rattle.std.proofs.lemmas.List.{length-append, length-take, length-take-le, length-drop, take_all}
use Rattle.std.specs.Option.{IsSomeAnd}
use Rattle.vnff_base.specs.Shelves.{Files, ShelfState, Fills, ReadsFile}
use Rattle.vnff_base.specs.Reads.{OfFile}
use Rattle.vnff_base.proofs.Reading.{IsFront, front_more}
use Rattle.capture.specs.declared.error.CaptureErr.{CaptureErr}
use Rattle.capture.specs.declared.error.CaptureReadErr.{CaptureReadErr}
use Rattle.capture.specs.declared.error.CaptureReadErr.TheVariants.{Bad}
use Rattle.capture.specs.declared.header.CaptureHeader.{CaptureHeader}
use Rattle.capture.specs.Feeds.{FeedState, StandsFor, StandsBy, StandsSound, IsFedOn, IsEnded}
use Rattle.capture.specs.Files.{WasRead}

-- the feed stands for so many bytes, which are a front of the file where the shelf tells its files and has that one
unfoldable pub IsReadSoFar : Option Files → List ℕ → ℕ → FeedState → Type 0
IsReadSoFar told name at feed = (bytes : List ℕ) × (length bytes ≡ at) × StandsFor feed bytes × IsFront told name bytes

-- nothing yet
pub read-none : (told : Option Files) (name : List ℕ) (feed : FeedState) → StandsFor feed [] → IsReadSoFar told name 0 feed
unfolding IsReadSoFar
read-none told name feed stands = ([], refl, stands, where_told told)
  where
    found : (file : Option (List ℕ)) → IfSome file (λ bytes. [] ≡ take (length {A = ℕ} []) bytes)
    found None = tt
    found (Some file) = refl

    where_told : (told : Option Files) → IsFront told name []
    where_told None = tt
    where_told (Some files) = found (files name)

-- a further piece
pub read-more : (shelf : ShelfState) (name buffer : List ℕ) (at n : ℕ) (old new : FeedState) → IsReadSoFar shelf.files name at old → ReadsFile shelf name at n buffer → n ≤ length buffer → IsFedOn old new (take n buffer) → IsReadSoFar shelf.files name (at + n) new
unfolding IsReadSoFar
read-more shelf name buffer at n old new (bytes, size, stands, front) read fits fed =
    let piece = length-take-le n buffer fits in
    (bytes ++ take n buffer, omega (arith, length-append bytes (take n buffer), size, piece), fed bytes stands, front_more shelf name bytes buffer at n (sym size) front read fits)

-- a feed without a fault counts its bytes
stands-count : (feed : FeedState) (bytes : List ℕ) (header : Option CaptureHeader) → StandsSound header feed bytes → feed.before + length feed.rest ≡ length bytes
stands-count feed bytes None (is, start, short) = omega (arith, ap length is, start)
stands-count feed bytes (Some kind) (front, cut) = omega (arith, ap length cut.whole, length-append front feed.rest, cut.size)

pub read-count : (told : Option Files) (name : List ℕ) (at : ℕ) (feed : FeedState) → IsReadSoFar told name at feed → feed.fault ≡ None → feed.before + length feed.rest ≡ at
unfolding IsReadSoFar
read-count told name at feed (bytes, size, stands, front) sound =
    stands-count feed bytes feed.header (subst (λ f. StandsBy f feed bytes) sound stands) ∙ size

-- the same, by what the feed stands for
pub feed-count : (feed : FeedState) (bytes : List ℕ) → StandsFor feed bytes → feed.fault ≡ None → feed.before + length feed.rest ≡ length bytes
feed-count feed bytes stands sound = stands-count feed bytes feed.header (subst (λ f. StandsBy f feed bytes) sound stands)

-- the end of the file
pub read-whole : (first shelf : ShelfState) (name buffer : List ℕ) (at n limit : ℕ) (feed : FeedState) (said : Result (List (List ℕ)) CaptureErr) → shelf.files ≡ first.files → IsReadSoFar shelf.files name at feed → ReadsFile shelf name at n buffer → n ≡ 0 → 0 < length buffer → at ≤ limit → IsEnded feed said → WasRead first name limit said
unfolding IsReadSoFar WasRead
read-whole first shelf name buffer at n limit feed said same (bytes, size, stands, front) read none some within ended =
    (bytes, omega (arith, size), sym (ended bytes stands), subst (λ told. IfSome told (λ files. IsSomeAnd (files name) (λ file. file ≡ bytes))) same (where_told shelf.files front read))
  where
    whole : (file : List ℕ) → bytes ≡ take (length bytes) file → Fills file at n buffer → file ≡ bytes
    whole file is fills = sym (is ∙ take_all (length bytes) file (omega (arith, size, fills.ends none some)))

    found : (file : Option (List ℕ)) → IfSome file (λ f. bytes ≡ take (length bytes) f) → IsSomeAnd file (λ f. Fills f at n buffer) → IsSomeAnd file (λ f. f ≡ bytes)
    found None is fills = fills
    found (Some file) is fills = whole file is fills

    where_told : (told : Option Files) → IsFront told name bytes → IfSome told (λ files. IsSomeAnd (files name) (λ file. Fills file at n buffer)) → IfSome told (λ files. IsSomeAnd (files name) (λ file. file ≡ bytes))
    where_told None is fills = tt
    where_told (Some files) is fills = found (files name) is fills

-- a piece that goes beyond the limit
pub read-over : (shelf : ShelfState) (name buffer : List ℕ) (at n limit : ℕ) → ReadsFile shelf name at n buffer → n ≤ length buffer → at ≤ limit → limit < at + n → OfFile shelf name (λ file. limit < length file)
read-over shelf name buffer at n limit read fits within over = where_told shelf.files read
  where
    longer : (file : List ℕ) → Fills file at n buffer → limit < length file
    longer file fills =
        let same = ap length fills.front in
        omega (arith, same, length-take-le n buffer fits, length-take n (drop at file), length-drop at file)

    found : (file : Option (List ℕ)) → IsSomeAnd file (λ f. Fills f at n buffer) → IsSomeAnd file (λ f. limit < length f)
    found None fills = fills
    found (Some file) fills = longer file fills

    where_told : (told : Option Files) → IfSome told (λ files. IsSomeAnd (files name) (λ file. Fills file at n buffer)) → IfSome told (λ files. IsSomeAnd (files name) (λ file. limit < length file))
    where_told None fills = tt
    where_told (Some files) fills = found (files name) fills

-- the fault that is told at the end
pub read-bad : (shelf : ShelfState) (name : List ℕ) (limit : ℕ) (said : Result (List (List ℕ)) CaptureErr) (result : Result (List (List ℕ)) CaptureReadErr) (known fault : CaptureErr) → said ≡ Err known → result ≡ Err (Bad known) → IsErrOf result (Bad fault) → WasRead shelf name limit said → WasRead shelf name limit (Err fault)
read-bad shelf name limit said result known fault said_is result_is is read =
    let bad : IsErrOf {T = List (List ℕ)} (Err (Bad known)) (Bad fault) = subst (λ r. IsErrOf r (Bad fault)) result_is is in
    let same : known ≡ fault = cc in
    subst (λ r. WasRead shelf name limit r) (said_is ∙ ap Err same) read

pub no_bad : (result : Result (List (List ℕ)) CaptureReadErr) (frames : List (List ℕ)) (fault : CaptureErr) → result ≡ Ok frames → IsErrOf result (Bad fault) → ⊥
no_bad result frames fault result_is is = cc
