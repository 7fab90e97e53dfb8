use Rattle.std.proofs.Common.{◌≡◌, ◌+◌, ◌∷◌, ◌++◌, length, drop, sym, ◌∙◌, ap, arith}
use Rattle.std.proofs.lemmas.List.{drop_more}
use Rattle.ff_headers.specs.Kinds.{kind_size}
use Rattle.ff_headers.specs.Matching.{masked, key_size}
use Rattle.matcher.proofs.KeyLemmas.{room_left, key_size-cons, masked_key_more}
use Rattle.matcher.proofs.keys.masked_key.Goals as goal

pub loop-selector-preserved : goal.loop-selector-preserved
loop-selector-preserved c =
    let list = c.as_slice-selector-items.result.now in
    let i = c.loop-selector.selector-index in
    let s = c.selector-item.result in
    let rest = drop (i + 1) list in
    let old = c.loop-selector.invariant in
    let bits = c.loop-selector.bits.items in
    let part = c.split_at.result.0.now in
    let later = c.split_at.result.1.now in
    let key = c.loop-selector.rest.now in
    let first : drop i list ≡ s ∷ rest = drop_more list i s c.loop-selector-test.true ∙ ap (λ x. x ∷ rest) (sym c.selector-item.is) in
    let front = rw (c.size.ensures, c.kind.ensures) at c.split_at.ensures.front in
    let back = rw (c.size.ensures, c.kind.ensures) at c.split_at.ensures.back in
    let size : length part ≡ kind_size s.kind = rw (c.size.ensures, c.kind.ensures) at c.split_at.ensures.front_len in
    let cut = rw (c.size.ensures, c.kind.ensures) at c.split_at.ensures.back_len in
    let sum : key_size (drop i list) ≡ kind_size s.kind + key_size rest = ap key_size first ∙ key_size-cons s rest in
    let pushed : c.push_masked.new.bits.items ≡ bits ++ masked s.mask part = rw c.mask.ensures.value at c.push_masked.ensures in
    let room = room_left (drop i list) rest s bits part first size c.mask.ensures.whole old.room in
    record {
      long = omega arith;
      room = rw pushed room.1;
      same = old.same ∙ rw pushed (masked_key_more (drop i list) rest s bits part key later first front back);
    }
