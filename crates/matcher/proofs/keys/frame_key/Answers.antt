use Rattle.std.proofs.Common.{◌≡◌, ◌+◌, ◌∷◌, ◌++◌, drop, Some, sym, ◌∙◌, ap}
use Rattle.std.proofs.lemmas.List.{drop_more}
use Rattle.ff_headers.specs.Frames.{header_at}
use Rattle.ff_headers.specs.Matching.{masked}
use Rattle.matcher.proofs.KeyLemmas.{room_left, frame_key_more}
use Rattle.matcher.proofs.keys.frame_key.Goals as goal

pub loop-selector-preserved : goal.loop-selector-preserved
loop-selector-preserved c =
    let list = c.as_slice-selector-items.result.now in
    let i = c.loop-selector.selector-index in
    let s = c.selector-item.result in
    let rest = drop (i + 1) list in
    let old = c.loop-selector.invariant in
    let bits = c.loop-selector.bits.items in
    let value = c.in-Some.header.now in
    let headers = c.args.headers.now in
    let first : drop i list ≡ s ∷ rest = drop_more list i s c.loop-selector-test.true ∙ ap (λ x. x ∷ rest) (sym c.selector-item.is) in
    let at : header_at headers s.kind ≡ Some value = sym (rw (c.in-Some.is, c.kind.ensures) at c.get.ensures.value) in
    let size = rw (c.in-Some.is, c.kind.ensures) at c.get.ensures.size in
    let pushed : c.push_masked.new.bits.items ≡ bits ++ masked s.mask value = rw c.mask.ensures.value at c.push_masked.ensures in
    let room = room_left (drop i list) rest s bits value first size c.mask.ensures.whole old.room in
    record {
      room = rw pushed room.1;
      same = old.same ∙ rw pushed (frame_key_more (drop i list) rest s bits value headers first at);
    }
