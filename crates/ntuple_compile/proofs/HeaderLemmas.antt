-- The headers of a frame have their sizes, and hold bytes where the frame does.
use Rattle.std.proofs.Common.{◌≡◌, ℕ, ◌<◌, List, length, drop, Some, sym, ap, ◌∙◌, arith, subst, ⊎_elim}
use Rattle.std.specs.Prelude.{IfSome}
use Rattle.std.proofs.lemmas.Bool.{cases_lt}
use Rattle.std.proofs.lemmas.List.{get_or_past}
use Rattle.std.proofs.lemmas.List.Elements.{All-get_or}
use Rattle.byte_numbers.specs.Bytes.{IsBytes}
use Rattle.ff_headers.specs.Cuts.{StandsIn}
use Rattle.ff_headers.specs.Frames.{HeaderBytes, header_at, headers_of, place_in}
use Rattle.ff_headers.specs.Kinds.{kind_size}
use Rattle.ff_headers.specs.declared.kind.Kind.{Kind}
use Rattle.ff_headers.proofs.CutLemmas.{header_stands}
use Rattle.ff_headers.proofs.FieldLemmas.{AreBytes, are_bytes-take, are_bytes-drop}
use Rattle.ff_headers.proofs.FrameLemmas.{length-frame_part}

pub are_bytes : (bytes : List ℕ) → IsBytes bytes → AreBytes bytes
are_bytes bytes all k = ⊎_elim (λ inside. All-get_or (λ b. b < 256) bytes k 0 inside all) (λ past. omega (arith, get_or_past bytes k 0 past)) (cases_lt k (length bytes))

-- each header that is there has its size, and holds bytes
abbrev pub AreHeaders : HeaderBytes → Type 0
AreHeaders headers = (kind : Kind) (header : List ℕ) → header_at headers kind ≡ Some header → (length header ≡ kind_size kind) × AreBytes header

pub headers_are_sound : (frame : List ℕ) → IsBytes frame → AreHeaders (headers_of frame)
headers_are_sound frame all kind header is =
    let stands : StandsIn kind frame header = subst (λ found. IfSome found (StandsIn kind frame)) is (header_stands frame kind) in
    let bytes = are_bytes-take (kind_size kind) (drop (place_in kind frame) frame) (are_bytes-drop (place_in kind frame) frame (are_bytes frame all)) in
    (ap length stands.there ∙ length-frame_part (place_in kind frame) (kind_size kind) frame stands.inside, subst AreBytes (sym stands.there) bytes)
