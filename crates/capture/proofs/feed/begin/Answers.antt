use Rattle.std.proofs.Common.{◌≡◌, ◌+◌, ◌≤◌, ◌++◌, Ok, Err, length, take, ap, sym, ◌∙◌, subst, arith}
use Rattle.std.proofs.lemmas.List.{take-append-drop, length-drop}
use Rattle.std.proofs.lemmas.Result.{IfOk-weaker}
use Rattle.capture.specs.FileHeaders.{file_header}
use Rattle.capture.specs.Feeds.{StandsFor}
use Rattle.capture.proofs.FeedSteps.{stands-faulty, header-faulty, header-first}
use Rattle.capture.proofs.feed.begin.Goals as goal

pub returns-in-Ok-clause-stands : goal.returns-in-Ok-clause-stands
returns-in-Ok-clause-stands c =
    let bytes = c.args.bytes.items in
    let good : file_header bytes ≡ Ok c.in-Ok.kind = ap file_header (sym c.deref.ensures.value) ∙ sym c.in-Ok.ensures.value in
    let first = header-first c.in-Ok.kind bytes good in
    let all : take 24 bytes ++ c.drop_front.new.bytes.items ≡ bytes = ap (λ xs. take 24 bytes ++ xs) c.drop_front.ensures ∙ take-append-drop 24 bytes in
    IfOk-weaker c.go_on.result _ _ (λ feed step. subst (StandsFor feed) all (step (take 24 bytes) first.0 first.1 (first.2 ∙ ap Ok (sym c.requires.none)))) c.go_on.ensures.stands

pub returns-in-Ok-clause-count : goal.returns-in-Ok-clause-count
returns-in-Ok-clause-count c =
    let bytes = c.args.bytes.items in
    let long : 24 ≤ length bytes = omega (arith, c.len.ensures, c.if-len-lt-HEADER_SIZE.false) in
    let left : 24 + length c.drop_front.new.bytes.items ≡ length bytes = omega (arith, ap length c.drop_front.ensures, length-drop 24 bytes, long) in
    IfOk-weaker c.go_on.result _ _ (λ feed count sound. count sound ∙ left) c.go_on.ensures.count

pub returns-in-Err-clause-stands : goal.returns-in-Err-clause-stands
returns-in-Err-clause-stands c =
    let bytes = c.args.bytes.items in
    let bad : file_header bytes ≡ Err c.in-Err.fault = ap file_header (sym c.deref.ensures.value) ∙ sym c.in-Err.ensures.value in
    let long : 24 ≤ length bytes = omega (arith, c.len.ensures, c.if-len-lt-HEADER_SIZE.false) in
    stands-faulty c.faulty.result bytes c.in-Err.fault c.faulty.ensures (header-faulty bytes c.in-Err.fault long bad)
