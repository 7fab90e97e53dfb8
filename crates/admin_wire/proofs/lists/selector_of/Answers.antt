use Rattle.std.proofs.Common.{◌≡◌, ℕ, ◌∙◌, ◌-◌, ap, refl, List, length, get_or, take, drop, Some, eq-eqb}
use Rattle.std.proofs.lemmas.List.{take_rest}
use Rattle.ff_headers.specs.declared.kind.Kind.{Kind}
use Rattle.ff_headers.specs.Kinds.{kind_of_code, kind_size}
use Rattle.ff_headers.specs.SelectorParts.{selector_with}
use Rattle.admin_wire.specs.Lists.{selector_of}
use Rattle.admin_wire.proofs.lists.selector_of.Goals as goal

-- an entry whose length byte is its type's size
of_type : (entry : List ℕ) (kind : Kind) → kind_of_code (get_or entry 0 0) ≡ Some kind
    → get_or entry 4 0 ≡ kind_size kind
    → Some (selector_with kind (get_or entry 1 0) (take (length entry - 8) (drop 8 entry))) ≡ selector_of entry
unfolding selector_of
of_type entry kind known sized = rw (known, eq-eqb _ _ sized, take_rest) refl

pub returns : goal.returns
returns c =
    let known : kind_of_code (get_or c.args.entry.now 0 0) ≡ Some c.in_ok-kind.kind = cc c.in_ok-kind.ensures in
    let sized : get_or c.args.entry.now 4 0 ≡ kind_size c.in_ok-kind.kind = cc in
    ap Some c.new.ensures ∙ of_type _ _ known sized
