use Rattle.std.proofs.Common.{ℕ, List, ◌≡◌, ◌<◌, ◌≤◌, ◌∷◌, ◌++◌, [], length, ap, ◌∙◌, sym, subst, ◌+◌, arith, rules, vec_len, length-append}
use Rattle.capture.specs.Pieces.{pieces}
use Rattle.capture.proofs.PieceLemmas.{ArePlaces-push, pieces-push}
use Rattle.rx_sinks.specs.MemSinks.{MemSinkState, byte_count}
use Rattle.rx_sinks.proofs.MemSinkLemmas.{byte_count-push, places_below}
use Rattle.rx_sinks.proofs.mem_sink.MemSink.keep.Goals as goal

pub push_reserved-requires : goal.push_reserved-requires
push_reserved-requires c =
    let fewer = subst (λ s. length s.frames < s.room) (sym c.self.view_is) c.requires.room in
    let held : vec_len c.self.inside.places ≡ length c.self.inside.places.items = search rules in
    omega (arith, held, places_below c.self.inside.bytes.items c.self.inside.places.items c.self.inside.room fewer, c.self.invariant.3)

pub invariant_of-self : goal.invariant_of-self
invariant_of-self c =
    let held = c.self.inside.bytes.items in
    let cut = c.self.inside.places.items in
    let frame = c.args.frame.now in
    let bytes : c.extend_from_slice.new.self.items ≡ held ++ frame = search rules in
    let places : c.push_reserved.new.self.items ≡ cut ++ length (held ++ frame) ∷ [] = search rules in
    let was : vec_len c.self.inside.bytes ≡ length held = search rules in
    let now : vec_len c.extend_from_slice.new.self ≡ length c.extend_from_slice.new.self.items = search rules in
    let more = length-append held frame in
    let kept = byte_count-push held frame (0 ∷ cut) c.self.invariant.0 (c.self.invariant.1 ∙ was) in
    let fewer = subst (λ s. length s.frames < s.room) (sym c.self.view_is) c.requires.room in
    let fewer_bytes = subst (λ s. byte_count s.frames + length c.args.frame.now ≤ s.byte_room) (sym c.self.view_is) c.requires.bytes in
    let below = places_below held cut c.self.inside.room fewer in
    let places_was : vec_len c.self.inside.places ≡ length cut = search rules in
    let places_now : vec_len c.push_reserved.new.self ≡ length c.push_reserved.new.self.items = search rules in (
      rw (bytes, places) (ArePlaces-push held frame (0 ∷ cut) c.self.invariant.0),
      ap (λ xs. byte_count (pieces xs (0 ∷ c.push_reserved.new.self.items))) bytes ∙ ap (λ ys. byte_count (pieces (held ++ frame) (0 ∷ ys))) places ∙ kept ∙ sym (ap length bytes) ∙ sym now,
      omega (arith, places_now, ap length places, length-append cut (length (held ++ frame) ∷ []), below),
      search rules,
      omega (arith, now, ap length bytes, more, was, c.self.invariant.1, fewer_bytes),
      search rules,
    )

pub returns : goal.returns
returns c =
    let bytes : c.extend_from_slice.new.self.items ≡ c.self.inside.bytes.items ++ c.args.frame.now = search rules in
    let places : c.push_reserved.new.self.items ≡ c.self.inside.places.items ++ length (c.self.inside.bytes.items ++ c.args.frame.now) ∷ [] = search rules in
    let more = pieces-push c.self.inside.bytes.items c.args.frame.now (0 ∷ c.self.inside.places.items) c.self.invariant.0 in
    let with_frames : List (List ℕ) → MemSinkState = λ frames. record { frames = frames; room = c.self.inside.room; byte_room = c.self.inside.byte_room; failing = c.self.inside.failing.items; calls = c.self.inside.calls; faults = c.self.inside.faults; ends = c.self.inside.ends } in
    let with_frame : MemSinkState → MemSinkState = λ s. record s { frames = s.frames ++ c.args.frame.now ∷ [] } in
    ap (λ xs. with_frames (pieces xs (0 ∷ c.push_reserved.new.self.items))) bytes
    ∙ ap (λ ys. with_frames (pieces (c.self.inside.bytes.items ++ c.args.frame.now) (0 ∷ ys))) places
    ∙ ap with_frames more
    ∙ ap with_frame c.self.view_is
