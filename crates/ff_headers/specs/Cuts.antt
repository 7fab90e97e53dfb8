-- Which bytes of a frame its headers depend on. This project's own.
use Rattle.std.specs.Prelude.{◌≡◌, ℕ, ◌+◌, ◌≤◌, List, length}
use Rattle.ff_headers.specs.Kinds.{kind_size}
use Rattle.ff_headers.specs.Frames.{frame_part, ipv4_end, place_in}
use Rattle.ff_headers.specs.declared.kind.Kind.{Kind}
use Rattle.ff_headers.specs.declared.kind.Kind.TheVariants.{Ipv4}

-- the header's bytes stand in the frame at the place of its kind
pub record StandsIn (kind : Kind) (frame : List ℕ) (header : List ℕ) : Type 0 where
  pub inside : place_in kind frame + kind_size kind ≤ length frame
  pub there : header ≡ frame_part (place_in kind frame) (kind_size kind) frame

-- where the bytes end that the frame's header of the kind depends on: an IPv4 header is there with its options alone
abbrev pub needed_for : Kind → List ℕ → ℕ
needed_for Ipv4 frame = ipv4_end frame
needed_for kind frame = place_in kind frame + kind_size kind

-- where every header of a frame ends at most: an Ethernet header, an IPv4 header of 60 bytes and a TCP header
abbrev pub headers_end : ℕ
headers_end = 94
