use Rattle.std.proofs.Common.{◌∷◌, ◌++◌, ◌∙◌, ap, codes, refl}
use Rattle.vnff_base.proofs.Writing.{stopped_before, writes_after, writes_stopped}
use Rattle.vnff_run.specs.SelectLines.{kind_word, mode_word}
use Rattle.vnff_run.proofs.CompiledLines.{selector_line_is, writes_as}
use Rattle.vnff_run.proofs.compile_text.put_selector.Goals as goal

pub returns-in_err-put : goal.returns-in_err-put
returns-in_err-put g c =
    writes_as _ _ _ (selector_line_is c.args.selector.now _ _ _ refl refl refl) (writes_stopped _ _ c.from_residual.ensures.1 (stopped_before c.in_err-put.ensures _))

pub returns-in_err-put-2 : goal.returns-in_err-put-2
returns-in_err-put-2 g c =
    writes_as _ _ _ (selector_line_is c.args.selector.now _ _ _ (c.header_word.ensures ∙ ap kind_word c.kind.ensures) refl refl) (writes_after _ _ _ c.in_ok-put.ensures (writes_stopped _ _ c.from_residual-in_err-put-2.ensures.1 (stopped_before c.in_err-put-2.ensures _)))

pub returns-in_err-put-3 : goal.returns-in_err-put-3
returns-in_err-put-3 g c =
    let kind = c.header_word.ensures ∙ ap kind_word c.kind.ensures in
    let mode = c.mode_words.ensures ∙ ap (λ f. 32 ∷ (mode_word f ++ codes " ")) c.flags.ensures in
    writes_as _ _ _ (selector_line_is c.args.selector.now _ _ _ kind mode refl) (writes_after _ _ _ c.in_ok-put.ensures (writes_after _ _ _ c.in_ok-put-2.ensures (writes_stopped _ _ c.from_residual-in_err-put-3.ensures.1 (stopped_before c.in_err-put-3.ensures _))))

pub returns-in_err-hex_put : goal.returns-in_err-hex_put
returns-in_err-hex_put g c =
    let kind = c.header_word.ensures ∙ ap kind_word c.kind.ensures in
    let mode = c.mode_words.ensures ∙ ap (λ f. 32 ∷ (mode_word f ++ codes " ")) c.flags.ensures in
    writes_as _ _ _ (selector_line_is c.args.selector.now _ _ _ kind mode c.mask.ensures.value) (writes_after _ _ _ c.in_ok-put.ensures (writes_after _ _ _ c.in_ok-put-2.ensures (writes_after _ _ _ c.in_ok-put-3.ensures (writes_stopped _ _ c.from_residual-in_err-hex_put.ensures.1 (stopped_before c.in_err-hex_put.ensures _)))))

pub returns : goal.returns
returns g c =
    let kind = c.header_word.ensures ∙ ap kind_word c.kind.ensures in
    let mode = c.mode_words.ensures ∙ ap (λ f. 32 ∷ (mode_word f ++ codes " ")) c.flags.ensures in
    writes_as _ _ _ (selector_line_is c.args.selector.now _ _ _ kind mode c.mask.ensures.value) (writes_after _ _ _ c.in_ok-put.ensures (writes_after _ _ _ c.in_ok-put-2.ensures (writes_after _ _ _ c.in_ok-put-3.ensures (writes_after _ _ _ c.in_ok-hex_put.ensures c.put-4.ensures))))
