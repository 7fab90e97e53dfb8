use Rattle.std.proofs.Common.{◌≡◌, true, sym, ◌∙◌, refl, bit_and, get_or, arith}
use Rattle.std.proofs.lemmas.Bool.Decides.{nat_tests}
use Rattle.ff_headers.specs.Frames.{names_ip}
use Rattle.ff_headers.specs.declared.kind.Kind.TheVariants.{Ipv4}
use Rattle.ff_headers.proofs.FieldLemmas.{AreBytes}
use Rattle.ff_headers.proofs.FrameLemmas.{ipv4_unnamed, ipv4_end_by_words, named_is_long}
use Rattle.ff_headers.proofs.frame.ipv4_end.Goals as goal
use Rattle.ff_headers.proofs.frame.ipv4_end.Goals.{else-words-ge5-via-then-words-ge5+else-frame-end, else-words-ge5-via-else-words-ge5}

pub returns-then-not-names_ip : goal.returns-then-not-names_ip
returns-then-not-names_ip c =
    rw (ipv4_unnamed c.args.frame.now (sym c.names_ip.ensures ∙ c.if-not-names_ip.true)) refl

pub bounds-frame-14 : goal.bounds-frame-14
bounds-frame-14 c =
    omega (arith, named_is_long Ipv4 2048 4 c.args.frame.now (sym c.names_ip.ensures ∙ c.if-not-names_ip.false))

pub returns-then-frame-end : goal.returns-then-frame-end
returns-then-frame-end c =
    ipv4_end_by_words c.args.frame.now (bit_and (get_or c.args.frame.now 14 0) 15) _ (λ k. omega (arith, c.type_inv.frame k)) (sym c.names_ip.ensures ∙ c.if-not-names_ip.false) refl (grind (arith, nat_tests))

pub returns-else-words-ge5 : goal.returns-else-words-ge5
returns-else-words-ge5 c =
    let frame = c.args.frame.now in
    let bytes : AreBytes frame = (λ k. omega (arith, c.type_inv.frame k)) in
    let named : names_ip Ipv4 2048 4 frame ≡ true = sym c.names_ip.ensures ∙ c.if-not-names_ip.false in
    elim c.else-words-ge5.branch [
      | else-words-ge5-via-then-words-ge5+else-frame-end w ↦ ipv4_end_by_words frame (bit_and (get_or frame 14 0) 15) _ bytes named refl (grind (arith, nat_tests))
      | else-words-ge5-via-else-words-ge5 w ↦ ipv4_end_by_words frame (bit_and (get_or frame 14 0) 15) _ bytes named refl (grind (arith, nat_tests))
    ]
