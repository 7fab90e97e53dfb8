-- Frames that are kept in pieces.
use Rattle.std.proofs.Common.{◌≡◌, ℕ, ◌<◌, List, [], ◌∷◌, ◌++◌, length, ap, ◌∙◌, arith, length-append}
use Rattle.std.proofs.lemmas.List.Sums.{sum_by-append}
use Rattle.capture.specs.Pieces.{pieces, ArePlaces}
use Rattle.capture.proofs.PieceLemmas.{length-pieces, pieces-push}
use Rattle.rx_sinks.specs.MemSinks.{byte_count}

-- one more frame
pub byte_count-push : (bytes frame places : List ℕ) → ArePlaces bytes places → byte_count (pieces bytes places) ≡ length bytes → byte_count (pieces (bytes ++ frame) (places ++ length (bytes ++ frame) ∷ [])) ≡ length (bytes ++ frame)
byte_count-push bytes frame places are count =
    let more = ap byte_count (pieces-push bytes frame places are) ∙ sum_by-append length (pieces bytes places) (frame ∷ []) in
    omega (arith, more, count, length-append bytes frame)

-- there are as many places as frames
pub places_below : (bytes places : List ℕ) (room : ℕ) → length (pieces bytes (0 ∷ places)) < room → length places < room
places_below bytes places room fewer = let count = length-pieces bytes (0 ∷ places) in omega arith
